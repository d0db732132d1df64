use Rattle.std.proofs.Common.{◌≡◌, take}
use Rattle.std.specs.List.{flat_map}
use Rattle.std.specs.Io.KnownBytes.{Appends}
use Rattle.run_status.proofs.notes.write_parts.Given as goal

abbrev pub invariant-loop-part : goal.invariant-loop-part
invariant-loop-part g l = record {
  told : Appends (g.N.Sink.written l.initial.notes) (g.N.Sink.written l.notes) (flat_map (λ part. part.now) (take l.part-index l.parts));
  faults : g.N.Sink.faults l.notes ≡ g.N.Sink.faults l.initial.notes;
}

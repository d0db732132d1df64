use Rattle.std.proofs.Common.{◌≡◌}
use Rattle.std.specs.Io.KnownBytes.{Keeps}
use Rattle.host_io.proofs.std_sink.StdSinkSink.flush.Given as goal

abbrev pub invariant-loop : goal.invariant-loop
invariant-loop g l = (l.self-inside.faults ≡ l.initial.self-inside.faults) × Keeps (g.W.Write.contents l.initial.self-inside.output) (g.W.Write.contents l.self-inside.output)

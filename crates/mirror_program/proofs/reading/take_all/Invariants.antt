use Rattle.std.proofs.Common.{◌≡◌, ◌≤◌, ◌-◌, length, None}
use Rattle.fidl_names.specs.declared.limits.TheConstants as limit
use Rattle.link_frames.specs.Frames.{IsPartial}
use Rattle.link_frames.specs.declared.kinds.Side.TheVariants.{Any}
use Rattle.link_session.proofs.Progress.{Progress}
use Rattle.mirror_program.specs.Steps.{IsCopyOf, silent}
use Rattle.mirror_program.proofs.reading.take_all.Given as goal

abbrev pub invariant-loop-now : goal.invariant-loop-now
invariant-loop-now g l = record {
  progress : Progress Any silent (IsCopyOf l.initial.mirror.endpoint l.mirror) (g.S.Source.left l.initial.source) (g.S.Source.left l.source) None None l.taken l.input;
  endpoint : l.mirror.endpoint ≡ l.initial.mirror.endpoint;
  partial : IsPartial Any l.input;
  counted : length l.input ≤ l.taken;
  bound : l.taken ≤ limit.MAX_INPUT;
  read_faults : g.S.Source.faults l.source ≡ g.S.Source.faults l.initial.source;
}

abbrev pub decreases-loop-now : goal.decreases-loop-now
decreases-loop-now g l = limit.MAX_INPUT - l.taken

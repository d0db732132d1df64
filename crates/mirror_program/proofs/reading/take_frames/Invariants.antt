use Rattle.std.proofs.Common.{◌≡◌, ◌≤◌, ◌-◌, length, List}
use Rattle.link_frames.specs.Frames.{Frame}
use Rattle.mirror_program.specs.Steps.{IsCopyOf, TakesTo}
use Rattle.mirror_program.proofs.reading.take_frames.Given as goal

abbrev pub invariant-loop-frame : goal.invariant-loop-frame
invariant-loop-frame l = record {
  taken : (before : List Frame) → IsCopyOf l.initial.mirror.endpoint l.initial.mirror before → TakesTo l.initial.mirror.endpoint l.mirror before l.bytes l.at;
  endpoint : l.mirror.endpoint ≡ l.initial.mirror.endpoint;
  bound : l.at ≤ length l.bytes;
}

abbrev pub decreases-loop-frame : goal.decreases-loop-frame
decreases-loop-frame l = length l.bytes - l.at

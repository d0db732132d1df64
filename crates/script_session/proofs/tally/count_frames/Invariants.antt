use Rattle.std.proofs.Common.{◌≡◌, ◌≤◌, ◌+◌, List, length}
use Rattle.std.specs.Prelude.{All, ⊤}
use Rattle.link_frames.specs.Frames.{Frame, IsFrame, spellings}
use Rattle.link_frames.specs.declared.kinds.Side.TheVariants as side
use Rattle.script_session.proofs.Counting.{Read}
use Rattle.script_session.proofs.tally.count_frames.Given as goal

abbrev pub invariant-loop-size : goal.invariant-loop-size
invariant-loop-size l =
    ((all : List Frame) → All (IsFrame side.Any) all → l.fn.frames ≡ spellings all → Read side.Any all l.count l.rest (λ done. ⊤))
    × (l.count + length l.rest ≤ length l.fn.frames)

abbrev pub decreases-loop-size : goal.decreases-loop-size
decreases-loop-size l = length l.rest

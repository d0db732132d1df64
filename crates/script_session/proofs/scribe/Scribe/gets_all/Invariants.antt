use Rattle.std.proofs.Common.{◌≡◌, ℕ, List, Option, All, length}
use Rattle.link_frames.specs.Frames.{Frame, IsFrame, spellings}
use Rattle.link_frames.specs.declared.kinds.Side.TheVariants as side
use Rattle.script_session.specs.Answering.{Past}
use Rattle.script_session.specs.Telling.{IsTold, IsWithin, Knows}
use Rattle.script_session.specs.Transcript.{lines_of, with_frames}
use Rattle.script_session.proofs.Scribing.{Split, Stage}
use Rattle.script_session.proofs.scribe.Scribe.gets_all.Given as goal

abbrev pub invariant-loop-frame : goal.invariant-loop-frame
invariant-loop-frame g l =
    ((all : List Frame) → All (IsFrame side.Any) all → l.fn.frames ≡ spellings all →
    Split all l.rest (Stage l.fn.self.calls l.fn.self.gathered (g.K.Sink.written l.fn.sink) l.self.calls l.self.gathered (g.K.Sink.written l.sink)))
    × ((low most : ℕ) → IsWithin low most l.fn.self.calls → IsWithin low most l.self.calls)
    × (g.K.Sink.faults l.sink ≡ g.K.Sink.faults l.fn.sink)

abbrev pub decreases-loop-frame : goal.decreases-loop-frame
decreases-loop-frame g l = length l.rest

use Rattle.std.proofs.Common.{◌≡◌, ℕ, List}
use Rattle.vfs_script.specs.Scripts.{count_calls, script_lines}
use Rattle.script_session.specs.Steps.{IsScript}
use Rattle.script_session.proofs.Stages.{Behind, Stage}
use Rattle.script_session.proofs.playing.Player.play_lines.Given as goal

abbrev pub invariant-loop-i : goal.invariant-loop-i
invariant-loop-i g l =
    ((text : List ℕ) → IsScript text l.script → Stage (script_lines text) (count_calls l.script.calls) l.i l.rest l.self.scribe.calls
    (Behind l.fn.self.mode l.fn.self.world l.fn.self.scribe.calls l.fn.self.scribe.gathered (g.K.Sink.written l.fn.sink)
    l.self.world l.self.scribe.calls l.self.scribe.gathered (g.K.Sink.written l.sink)))
    × (l.self.world.frames ≡ l.i) × (l.self.mode ≡ l.fn.self.mode) × (g.K.Sink.faults l.sink ≡ g.K.Sink.faults l.fn.sink)

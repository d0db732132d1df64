use Rattle.std.proofs.Common.{◌≡◌, ◌≤◌, ◌*◌, ◌^◌, ℕ, List}
use Rattle.link_frames.specs.declared.kinds.Side.TheVariants as side
use Rattle.vfs_script.specs.Scripts.{frames_of}
use Rattle.script_session.specs.Steps.{IsScript}
use Rattle.script_session.proofs.Counting.{Read}
use Rattle.script_session.proofs.Metering.{Heard}
use Rattle.script_session.proofs.meter.Meter.hear_all.Given as goal

abbrev pub invariant-loop : goal.invariant-loop
invariant-loop l =
    ((text : List ℕ) → IsScript text l.script → Read side.ToServers (frames_of text) l.counter l.rest (Heard l.fn.self.mode l.fn.self.world l.fn.self.tally l.self.world l.self.tally))
    × (l.self.world.frames ≡ l.counter) × (l.self.mode ≡ l.fn.self.mode) × (l.self.tally.frames ≤ l.counter * 2 ^ 63) × (l.self.tally.bytes ≤ l.counter * 2 ^ 63)

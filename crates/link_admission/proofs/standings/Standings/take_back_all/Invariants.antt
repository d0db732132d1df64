use Rattle.std.specs.Prelude.{take}
use Rattle.link_frames.specs.Views.{handle_numbers}
use Rattle.link_admission.specs.Tables.{TakesBack}
use Rattle.link_admission.proofs.standings.Standings.take_back_all.Given as goal

abbrev pub invariant-loop-i : goal.invariant-loop-i
invariant-loop-i l = TakesBack (take l.i (handle_numbers l.handles)) l.fn.self.entries l.self.entries

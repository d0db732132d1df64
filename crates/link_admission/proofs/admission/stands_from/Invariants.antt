use Rattle.std.specs.Prelude.{◌≡◌, drop}
use Rattle.link_frames.specs.Views.{handle_numbers}
use Rattle.link_admission.specs.Numbering.{among}
use Rattle.link_admission.proofs.admission.stands_from.Given as goal

abbrev pub invariant-loop-i : goal.invariant-loop-i
invariant-loop-i l =
    among l.number (drop l.i (handle_numbers l.handles)) ≡ among l.number (drop l.from (handle_numbers l.handles))

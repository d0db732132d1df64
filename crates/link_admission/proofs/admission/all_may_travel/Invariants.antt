use Rattle.std.specs.Prelude.{◌≡◌, drop}
use Rattle.link_frames.specs.Views.{handle_numbers}
use Rattle.link_admission.specs.Admission.{all_may_travel}
use Rattle.link_admission.proofs.admission.all_may_travel.Given as goal

abbrev pub invariant-loop-i : goal.invariant-loop-i
invariant-loop-i g l =
    all_may_travel (g.L.LookUp.tells l.look_ups) (drop l.i (handle_numbers l.handles)) ≡ all_may_travel (g.L.LookUp.tells l.look_ups) (handle_numbers l.handles)

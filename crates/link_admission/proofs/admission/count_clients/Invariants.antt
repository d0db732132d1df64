use Rattle.std.specs.Prelude.{◌≡◌, take, count_by}
use Rattle.link_frames.specs.Views.{handle_numbers}
use Rattle.fidl_names.specs.HandleNumber.{is_client}
use Rattle.link_admission.proofs.admission.count_clients.Given as goal

abbrev pub invariant-loop-i : goal.invariant-loop-i
invariant-loop-i l = l.count ≡ count_by is_client (take l.i (handle_numbers l.handles))

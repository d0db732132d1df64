use Rattle.std.proofs.Common.{◌≡◌, take, map}
use Rattle.link_frames.specs.Views.{handle_numbers}
use Rattle.fidl_names.specs.HandleNumber.{handle_with}
use Rattle.message_queues.proofs.lent.handles_in.Given as goal

abbrev pub invariant-loop-place : goal.invariant-loop-place
invariant-loop-place l = l.handles.items ≡ map handle_with (take l.place (handle_numbers l.numbers))

use Rattle.std.proofs.Common.{◌≡◌, length, map, take}
use Rattle.fidl_names.specs.HandleNumber.{handle_with}
use Rattle.link_frames.specs.Views.{handle_numbers}
use Rattle.io_client.proofs.client.put_handles.Given as goal

abbrev pub invariant-loop-place : goal.invariant-loop-place
invariant-loop-place l =
    (length l.handles ≡ length l.fn.handles) × (take l.place l.handles ≡ map handle_with (take l.place (handle_numbers l.numbers)))

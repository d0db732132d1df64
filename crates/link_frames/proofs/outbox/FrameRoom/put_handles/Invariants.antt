use Rattle.std.proofs.Common.{◌≡◌, ◌+◌, ◌*◌, ◌++◌, length, map, take}
use Rattle.std.specs.List.{flat_map}
use Rattle.fidl_names.specs.HandleNumber.{number_of_handle}
use Rattle.link_frames.specs.Numbers.{word_of}
use Rattle.link_frames.proofs.outbox.FrameRoom.put_handles.Given as goal

abbrev pub invariant-loop-handle : goal.invariant-loop-handle
invariant-loop-handle l = record {
  bytes : l.self.bytes ≡ l.fn.self.bytes ++ flat_map word_of (map number_of_handle (take l.handle-index l.handles));
  len : length l.self.bytes ≡ length l.fn.self.bytes + 4 * l.handle-index;
  size : l.self.size ≡ l.fn.self.size;
}

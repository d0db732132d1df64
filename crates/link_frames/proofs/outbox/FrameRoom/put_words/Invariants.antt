use Rattle.std.proofs.Common.{◌≡◌, ◌+◌, ◌*◌, ◌++◌, length, take}
use Rattle.std.specs.List.{flat_map}
use Rattle.link_frames.specs.Numbers.{word_of}
use Rattle.link_frames.proofs.outbox.FrameRoom.put_words.Given as goal

abbrev pub invariant-loop-word : goal.invariant-loop-word
invariant-loop-word l = record {
  bytes : l.self.bytes ≡ l.fn.self.bytes ++ flat_map word_of (take l.word-index l.words);
  len : length l.self.bytes ≡ length l.fn.self.bytes + 4 * l.word-index;
  size : l.self.size ≡ l.fn.self.size;
}

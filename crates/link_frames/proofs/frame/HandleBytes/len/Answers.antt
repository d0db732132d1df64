use Rattle.std.proofs.Common.{◌/◌, length, sym}
use Rattle.link_frames.proofs.Words.{length-words_in}
use Rattle.link_frames.proofs.frame.HandleBytes.len.Goals as goal

pub returns : goal.returns
returns c = let b = c.args.self.bytes.now in sym (length-words_in (length b / 4) b)

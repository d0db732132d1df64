-- The word under the mask of all other bits tells.
use Rattle.io_flags.proofs.FlagWords.{unnamed-test}
use Rattle.io_flags.proofs.words.has_unnamed_bit.Goals as goal

pub returns : goal.returns
returns c = unnamed-test c.args.word

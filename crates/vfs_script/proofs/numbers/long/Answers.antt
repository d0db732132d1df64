use Rattle.std.proofs.Common.{◌∙◌, sym}
use Rattle.vfs_script.proofs.NumberLemmas.{number_prefixed, number_plain}
use Rattle.text_pieces.proofs.PieceLemmas.{tail_is}
use Rattle.vfs_script.proofs.numbers.long.Goals as goal

pub returns-then-has_prefix : goal.returns-then-has_prefix
returns-then-has_prefix c = number_prefixed c.args.word.now c.hexadecimal.result (sym c.has_prefix.ensures ∙ c.if-has_prefix.true) (rw (tail_is 2 c.args.word.now) at c.hexadecimal.ensures.value) c.hexadecimal.ensures.fits

pub returns-else-has_prefix : goal.returns-else-has_prefix
returns-else-has_prefix c = number_plain c.args.word.now c.decimal.result (sym c.has_prefix.ensures ∙ c.if-has_prefix.false) c.decimal.ensures

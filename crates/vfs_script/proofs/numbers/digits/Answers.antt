use Rattle.std.proofs.Common.{◌∙◌, sym}
use Rattle.vfs_script.proofs.NumberLemmas.{numeral_read, numeral_utf8}
use Rattle.vfs_script.proofs.numbers.digits.Goals as goal

pub returns-in_err-ok : goal.returns-in_err-ok
returns-in_err-ok c =
    absurd
    (numeral_read c.from_utf8.result c.args.word.now _ _ c.from_utf8.ensures.cases
    (numeral_utf8 c.args.radix c.args.word.now c.requires.high c.requires.numeral)
    (sym c.ok.ensures.value ∙ c.in_err-ok.was))

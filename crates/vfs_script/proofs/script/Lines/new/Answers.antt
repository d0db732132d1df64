use Rattle.std.proofs.Common.{length, arith, sym, ap, subst, lit<}
use Rattle.vfs_script.specs.Scripts.{lines_of, numbered_from}
use Rattle.vfs_script.specs.Parsed.{AreTexts}
use Rattle.vfs_script.specs.Words.{newline}
use Rattle.text_pieces.proofs.PieceLemmas.{pieces_few}
use Rattle.vfs_script.proofs.PieceLemmas.{pieces_are_texts}
use Rattle.vfs_script.proofs.ScriptLemmas.{length-numbered}
use Rattle.vfs_script.proofs.script.Lines.new.Goals as goal

pub invariant_of-result : goal.invariant_of-result
invariant_of-result c =
    let few = pieces_few newline c.args.text.now in
    let size = ap length c.new.ensures.pieces in (
      omega arith,
      omega (arith, few, size, c.requires),
      λ yes. subst AreTexts (sym c.new.ensures.pieces) (pieces_are_texts newline c.args.text.now (lit< tt) (c.is_utf8.ensures.text yes)),
    )

pub returns-clause-lines : goal.returns-clause-lines
unfolding lines_of
returns-clause-lines c = ap (numbered_from 1) c.new.ensures.pieces

pub returns-clause-few : goal.returns-clause-few
returns-clause-few c =
    let few = pieces_few newline c.args.text.now in
    let size = ap length c.new.ensures.pieces in
    let numbers = length-numbered 1 c.new.result in
    omega (arith, few, size, numbers, c.requires)

-- The rights so far are the operations so far that are named.
use Rattle.std.proofs.Common.{◌≡◌, ◌∙◌, sym, arith}
use Rattle.io_rights.proofs.LetterTexts.{named_before-more, named_before-same, named_before-zero, named_before-all}
use Rattle.io_rights.proofs.texts.named_in.Goals as goal
use Rattle.io_rights.proofs.texts.named_in.Goals.{then-contains, else-contains}

pub loop-operation-init : goal.loop-operation-init
loop-operation-init c = record { so_far = c.none-rights.ensures ∙ named_before-zero c.args.text.now }

pub loop-operation-preserved : goal.loop-operation-preserved
loop-operation-preserved c =
    let tested = rw c.letter.ensures at c.contains.ensures.value in
    elim c.if-contains.branch [
      | then-contains w ↦
          record {
            so_far =
                w.rights-is
                ∙ w.join-rights.ensures.value
                ∙ rw (c.loop-operation.invariant.so_far, w.of.ensures)
                (named_before-more c.args.text.now _ _ c.loop-operation-test.true (sym tested ∙ w.if-contains.true));
          }
      | else-contains w ↦
          record {
            so_far =
                w.rights-is
                ∙ c.loop-operation.invariant.so_far
                ∙ named_before-same c.args.text.now _ _ c.loop-operation-test.true (sym tested ∙ w.if-contains.false);
          }
    ]

pub returns : goal.returns
returns c =
    let nine : c.loop-operation.operation-index ≡ 9 = omega arith in
    (rw nine at c.loop-operation.invariant.so_far) ∙ named_before-all c.args.text.now

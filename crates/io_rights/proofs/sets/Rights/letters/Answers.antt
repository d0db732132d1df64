-- The letters so far are those of the operations so far.
use Rattle.std.proofs.Common.{◌≡◌, ◌∙◌, sym, arith, length-append}
use Rattle.std.proofs.lemmas.Bool.{both_ways}
use Rattle.io_rights.proofs.LetterTexts.{letters_in-kept, letters_in-left, letters_in-zero, letters_of-some, letters_of-none}
use Rattle.io_rights.proofs.sets.Rights.letters.Goals as goal
use Rattle.io_rights.proofs.sets.Rights.letters.Goals.{then-allows, else-allows}

pub loop-operation-init : goal.loop-operation-init
loop-operation-init c =
    record {
      so_far = c.new-letters.ensures ∙ letters_in-zero c.args.self;
      few = rw c.new-letters.ensures (omega arith);
    }

pub loop-operation-preserved : goal.loop-operation-preserved
loop-operation-preserved c =
    elim c.if-allows.branch [
      | then-allows w ↦
          record {
            so_far =
                w.letters-is
                ∙ w.push.ensures
                ∙ rw (c.loop-operation.invariant.so_far, w.letter.ensures)
                (sym (letters_in-kept c.args.self _ _ c.loop-operation-test.true (sym c.allows.ensures ∙ w.if-allows.true)));
            few = rw (w.letters-is, w.push.ensures, length-append) (omega (arith, c.loop-operation.invariant.few));
          }
      | else-allows w ↦
          record {
            so_far =
                w.letters-is
                ∙ c.loop-operation.invariant.so_far
                ∙ sym (letters_in-left c.args.self _ _ c.loop-operation-test.true (sym c.allows.ensures ∙ w.if-allows.false));
            few = rw w.letters-is (omega (arith, c.loop-operation.invariant.few));
          }
    ]

pub returns-then-is_empty : goal.returns-then-is_empty
returns-then-is_empty c =
    let nine : c.loop-operation.operation-index ≡ 9 = omega arith in
    c.push-then-is_empty.ensures
    ∙ letters_of-none c.args.self c.loop-operation.letters (rw nine at c.loop-operation.invariant.so_far) (c.is_empty.ensures.0 c.if-is_empty.true)

pub returns-else-is_empty : goal.returns-else-is_empty
returns-else-is_empty c =
    let nine : c.loop-operation.operation-index ≡ 9 = omega arith in
    letters_of-some c.args.self c.loop-operation.letters (rw nine at c.loop-operation.invariant.so_far)
    (λ empty. both_ways c.is_empty.result c.if-is_empty.false (c.is_empty.ensures.1 empty))

use Rattle.std.proofs.Common.{◌≡◌, decimal, IsTrue, Ok, true≢false, ap, sym, ◌∙◌, arith, inl, inr}
use Rattle.std.proofs.lemmas.Fmt.{parse-decimal}
use Rattle.vfs_program.proofs.words.rounds_of.Goals as goal

pub returns-in_err-rounds-clause-none : goal.returns-in_err-rounds-clause-none
returns-in_err-rounds-clause-none c = λ none rounds printed good.
    let parsed : c.parse.result ≡ Ok rounds =
    parse-decimal 32 rounds _ c.parse.result (omega (arith, good.1)) (omega (arith, good.1)) (c.as_str.ensures.value ∙ printed) c.parse.ensures.value.0
    in
    absurd (grind (arith, parsed, c.ok.ensures.value, c.ok.ensures.variant, c.branch-rounds.ensures, c.in_err-rounds.is, c.in_err-rounds.was))

pub returns-else-is_printed-clause-none : goal.returns-else-is_printed-clause-none
returns-else-is_printed-clause-none c = λ none rounds printed good.
    let parsed : c.parse.result ≡ Ok rounds =
    parse-decimal 32 rounds _ c.parse.result (omega (arith, good.1)) (omega (arith, good.1)) (c.as_str.ensures.value ∙ printed) c.parse.ensures.value.0
    in
    let same : c.in_ok-rounds.rounds ≡ rounds = grind (arith, parsed, c.ok.ensures.value, c.ok.ensures.variant, c.branch-rounds.ensures, c.in_ok-rounds.is, c.in_ok-rounds.was) in
    let printed_so : IsTrue c.is_word-is_printed.result = c.is_word-is_printed.ensures.1 (printed ∙ sym (ap decimal same) ∙ sym c.format.ensures.text) in
    elim c.else-is_printed.either [
      | inl h ↦ absurd (omega (arith, same, good.1, h.2))
      | inr (inl h) ↦ absurd (omega (arith, same, good.0, h.1))
      | inr (inr h) ↦ true≢false (sym printed_so ∙ h)
    ]

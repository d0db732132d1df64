use Rattle.std.proofs.Common.{◌≡◌, decimal, IsTrue, Ok, true≢false, ap, sym, ◌∙◌, arith, refl}
use Rattle.std.proofs.lemmas.Fmt.{parse-decimal}
use Rattle.ns_program.proofs.TableLemmas.{decimal_utf8}
use Rattle.ns_program.proofs.tables.number_of.Goals as goal

pub returns-in_err-text-clause-none : goal.returns-in_err-text-clause-none
returns-in_err-text-clause-none c = λ none number printed few. c.in_err-text.ensures.none refl (decimal_utf8 number c.args.word.now printed few)

pub returns-in_err-number-clause-none : goal.returns-in_err-number-clause-none
returns-in_err-number-clause-none c = λ none number printed few.
    let parsed : c.parse.result ≡ Ok number =
    parse-decimal 32 number _ c.parse.result (omega (arith, few)) (omega (arith, few)) (c.in_ok-text.ensures.text ∙ printed) c.parse.ensures.value.0
    in
    absurd (grind (arith, parsed, c.ok.ensures.value, c.ok.ensures.variant, c.branch-number.ensures, c.in_err-number.is, c.in_err-number.was))

pub returns-else-is_same-clause-none : goal.returns-else-is_same-clause-none
returns-else-is_same-clause-none c = λ none number printed few.
    let parsed : c.parse.result ≡ Ok number =
    parse-decimal 32 number _ c.parse.result (omega (arith, few)) (omega (arith, few)) (c.in_ok-text.ensures.text ∙ printed) c.parse.ensures.value.0
    in
    let same : c.in_ok-number.number ≡ number = grind (arith, parsed, c.ok.ensures.value, c.ok.ensures.variant, c.branch-number.ensures, c.in_ok-number.is, c.in_ok-number.was) in
    let printed_so : IsTrue c.is_same.result = c.is_same.ensures.1 (c.as_bytes.ensures.value ∙ c.format.ensures.text ∙ ap decimal same ∙ sym printed) in
    true≢false (sym printed_so ∙ c.if-is_same.false)

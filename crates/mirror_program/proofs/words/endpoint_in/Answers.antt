use Rattle.std.proofs.Common.{◌≡◌, decimal, Ok, ap, sym, ◌∙◌, arith}
use Rattle.std.proofs.lemmas.Fmt.{parse-decimal}
use Rattle.std.proofs.lemmas.Slice.Eq.{bytes_eq-Decides}
use Rattle.fidl_names.specs.HandleNumber.{is_client}
use Rattle.mirror_program.proofs.WordLists.{apart, client_number}
use Rattle.mirror_program.proofs.words.endpoint_in.Goals.{else-is_printed-via-then-is_printed+else-is_client, else-is_printed-via-else-is_printed}
use Rattle.mirror_program.proofs.words.endpoint_in.Goals as goal

pub returns-in_err-endpoint-clause-none : goal.returns-in_err-endpoint-clause-none
returns-in_err-endpoint-clause-none c = λ none endpoint printed good.
    let parsed : c.parse.result ≡ Ok endpoint =
    parse-decimal 32 endpoint _ c.parse.result (omega (arith, good.1)) (omega (arith, good.1)) (c.as_str.ensures.value ∙ printed) c.parse.ensures.value.0
    in
    absurd (grind (arith, parsed, c.ok.ensures.value, c.ok.ensures.variant, c.branch-endpoint.ensures, c.in_err-endpoint.is, c.in_err-endpoint.was))

pub returns-else-is_printed-clause-none : goal.returns-else-is_printed-clause-none
returns-else-is_printed-clause-none c = λ none endpoint printed good.
    let parsed : c.parse.result ≡ Ok endpoint =
    parse-decimal 32 endpoint _ c.parse.result (omega (arith, good.1)) (omega (arith, good.1)) (c.as_str.ensures.value ∙ printed) c.parse.ensures.value.0
    in
    let same : c.in_ok-endpoint.endpoint ≡ endpoint =
    grind (arith, parsed, c.ok.ensures.value, c.ok.ensures.variant, c.branch-endpoint.ensures, c.in_ok-endpoint.is, c.in_ok-endpoint.was) in
    elim c.else-is_printed.branch as (λ _. ⊥) [
      | else-is_printed-via-then-is_printed+else-is_client w ↦ apart (ap is_client same ∙ client_number endpoint good) (sym w.is_client.ensures ∙ w.if-is_client.false)
      | else-is_printed-via-else-is_printed w ↦ apart ((bytes_eq-Decides c.as_str-2.result.now c.format.result.now).1 (c.as_str-2.ensures.value ∙ printed ∙ sym (ap decimal same) ∙ sym c.format.ensures.text)) (sym c.eq-is_printed.ensures ∙ w.if-is_printed.false)
    ]

use Rattle.std.proofs.Common.{◌≡◌, sym, ◌∙◌, arith, inl, inr}
use Rattle.std.proofs.lemmas.Fmt.{decimal_injective}
use Rattle.ns_program.proofs.tables.endpoint_of.Goals as goal

pub returns-else-endpoint-ge1-clause-none : goal.returns-else-endpoint-ge1-clause-none
returns-else-endpoint-ge1-clause-none c = λ none endpoint printed clients.
    let few = c.in_ok-endpoint.ensures.few in
    let same : c.in_ok-endpoint.endpoint ≡ endpoint =
    decimal_injective c.in_ok-endpoint.endpoint endpoint (omega (arith, few)) (omega (arith, clients.1)) (sym c.in_ok-endpoint.ensures.said ∙ printed) in
    elim c.else-endpoint-ge1.either [
      | inl h ↦ absurd (omega (arith, same, h.1, clients.1))
      | inr h ↦ absurd (omega (arith, same, h, clients.0))
    ]

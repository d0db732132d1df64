use Rattle.std.proofs.Common.{◌≡◌, ◌∙◌, ap, sym, ℕ, subst}
use Rattle.std.specs.Prelude.{is_some, count_by}
use Rattle.node_graph.specs.Graph.{Kept, seat_of, is_kept, numbers_to}
use Rattle.node_graph.proofs.Needed.{kept_seat, count_kept}
use Rattle.node_graph.proofs.graph.Graph.kept.Goals as goal

pub returns-clause-count : goal.returns-clause-count
returns-clause-count c =
    c.len.ensures ∙ count_kept c.self.inside.nodes c.self.inside.edges c.self.inside.made c.self.invariant ∙ ap (λ (g : Kept). count_by (is_kept g) (numbers_to g.made)) c.self.view_is

pub returns-clause-seated : goal.returns-clause-seated
returns-clause-seated c =
    let P : Kept → Type 0 = λ g. (number : ℕ) → is_some (seat_of g number) ≡ is_kept g number in
    subst P c.self.view_is (λ number. sym (kept_seat c.self.inside.nodes c.self.inside.edges c.self.inside.made c.self.invariant number))

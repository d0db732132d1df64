use Rattle.std.proofs.Common.{ℕ, ◌∙◌, List, ◌∷◌, map, sym, ap, subst}
use Rattle.std.specs.Prelude.{All}
use Rattle.std.proofs.lemmas.List.Elements.{All-head, All-tail}
use Rattle.node_graph.specs.declared.nodes.Entry.{Entry}
use Rattle.node_graph.specs.Tree.{EdgeKey, HasNameLength}
use Rattle.node_graph.specs.Graph.{Listed}
use Rattle.node_graph.specs.Ends.{HasName, listed_of}
use Rattle.node_graph.proofs.listing.NamesIterator.next.Goals.{in-Some, in-None}
use Rattle.node_graph.proofs.listing.NamesIterator.next.Goals as goal

pub invariant_of-self : goal.invariant_of-self
invariant_of-self c = elim c.match-next.branch [
  | in-Some w ↦ All-tail HasName _ c.next.new.self (subst (λ (es : List (EdgeKey × Entry)). All HasName es) w.in-Some.ensures.steps c.self.invariant)
  | in-None w ↦ subst (λ (es : List (EdgeKey × Entry)). All HasName es) (w.in-None.ensures.steps.0 ∙ sym w.in-None.ensures.steps.1) c.self.invariant
]

pub returns-clause-steps : goal.returns-clause-steps
returns-clause-steps c = elim c.match-next.branch [
  | in-Some w ↦
      let named = All-head HasName _ c.next.new.self (subst (λ (es : List (EdgeKey × Entry)). All HasName es) w.in-Some.ensures.steps c.self.invariant) in
      let shown : List ℕ → List Listed = λ name. record { name = name; number = w.in-Some.to.now.node.number; kind = w.in-Some.to.now.kind } ∷ map listed_of c.next.new.self in
      rw w.result-is (sym c.self.view_is ∙ ap (map listed_of) w.in-Some.ensures.steps ∙ ap shown (sym w.name.ensures.value), subst HasNameLength (sym w.name.ensures.value) named)
  | in-None w ↦ rw w.result-is ((sym c.self.view_is ∙ ap (map listed_of) w.in-None.ensures.steps.0, ap (map listed_of) w.in-None.ensures.steps.1), tt)
]

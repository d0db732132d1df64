use Rattle.std.proofs.Common.{◌≡◌, ap, sym, ◌∙◌, true, false, arith, nat_le, Option, Some, None, refl}
use Rattle.std.specs.Prelude.{is_some}
use Rattle.std.specs.Option.{option_map}
use Rattle.std.specs.FinMap as finite
use Rattle.std.proofs.lemmas.Bool.Decides.{nat_tests}
use Rattle.fidl_names.specs.declared.limits.TheConstants as limit
use Rattle.node_graph.specs.Graph.{Kept}
use Rattle.node_graph.specs.Ends.{name_in}
use Rattle.node_graph.proofs.Linked.{len-edges_of}
use Rattle.node_graph.proofs.Calls.{edge_found}
use Rattle.node_graph.proofs.States.{refusal_of}
use Rattle.node_graph.proofs.graph.Graph.create_fault.Goals as goal

some_mapped : {A B : Type 0} (f : A → B) (o : Option A) → is_some (option_map f o) ≡ is_some o
some_mapped f None = refl
some_mapped f (Some x) = refl

pub returns-then-removed : goal.returns-then-removed
returns-then-removed c =
    let key = name_in c.args.dir.number c.args.name.now in
    let edges = c.args.self.now.edges in
    sym (refusal_of edges key true (is_some (finite.get edges key)) (nat_le limit.MAX_NAMES (finite.len edges)) (sym c.removed.ensures ∙ c.if-removed.true) refl refl)

pub returns-then-is_some : goal.returns-then-is_some
returns-then-is_some c =
    let found = edge_found _ _ _ c.args.self.now c.self.view_is c.self.invariant (name_in c.args.dir.number c.args.name.now) c.find.result c.find.ensures.found in
    sym (refusal_of c.args.self.now.edges (name_in c.args.dir.number c.args.name.now) false true (nat_le limit.MAX_NAMES (finite.len c.args.self.now.edges)) (sym c.removed.ensures ∙ c.if-removed.false)
    (ap is_some (sym found) ∙ some_mapped _ _ ∙ sym c.is_some.ensures ∙ c.if-is_some.true) refl)

pub returns-then-len-ge-MAX_NAMES : goal.returns-then-len-ge-MAX_NAMES
returns-then-len-ge-MAX_NAMES c =
    let found = edge_found _ _ _ c.args.self.now c.self.view_is c.self.invariant (name_in c.args.dir.number c.args.name.now) c.find.result c.find.ensures.found in
    let count = c.len.ensures ∙ sym (len-edges_of c.self.inside.edges) ∙ ap (λ (g : Kept). finite.len g.edges) c.self.view_is in
    let full : nat_le limit.MAX_NAMES (finite.len c.args.self.now.edges) ≡ true = rw (← count) (grind (arith, nat_tests)) in
    sym (refusal_of c.args.self.now.edges (name_in c.args.dir.number c.args.name.now) false false true (sym c.removed.ensures ∙ c.if-removed.false)
    (ap is_some (sym found) ∙ some_mapped _ _ ∙ sym c.is_some.ensures ∙ c.if-is_some.false) full)

pub returns : goal.returns
returns c =
    let found = edge_found _ _ _ c.args.self.now c.self.view_is c.self.invariant (name_in c.args.dir.number c.args.name.now) c.find.result c.find.ensures.found in
    let count = c.len.ensures ∙ sym (len-edges_of c.self.inside.edges) ∙ ap (λ (g : Kept). finite.len g.edges) c.self.view_is in
    let room : nat_le limit.MAX_NAMES (finite.len c.args.self.now.edges) ≡ false = rw (← count) (grind (arith, nat_tests)) in
    sym (refusal_of c.args.self.now.edges (name_in c.args.dir.number c.args.name.now) false false false (sym c.removed.ensures ∙ c.if-removed.false)
    (ap is_some (sym found) ∙ some_mapped _ _ ∙ sym c.is_some.ensures ∙ c.if-is_some.false) room)

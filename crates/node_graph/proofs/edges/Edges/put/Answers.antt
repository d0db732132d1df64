use Rattle.std.proofs.Common.{ap, ◌∙◌, sym, subst, ◌≤◌, length}
use Rattle.std.specs.Prelude.{Some}
use Rattle.std.specs.FinMap as finite
use Rattle.fidl_names.specs.declared.limits.TheConstants as limit
use Rattle.node_graph.specs.Tree.{EdgeKey}
use Rattle.node_graph.specs.Ends.{Ends, name_in}
use Rattle.node_graph.proofs.Ordered.{map_of, map_put, named_put}
use Rattle.node_graph.proofs.Indexed.{changed_at, index_stays}
use Rattle.node_graph.proofs.edges.Edges.put.Goals as goal

pub invariant_of-self-in-None : goal.invariant_of-self-in-None
invariant_of-self-in-None c =
    let names = c.self.inside.names in
    let after = c.insert.new.self in
    let some = let P : EdgeKey → Type 0 = λ k. 1 ≤ length k.name in subst P (sym c.new.ensures) c.requires.some in
    let few = let P : EdgeKey → Type 0 = λ k. length k.name ≤ limit.MAX_NAME in subst P (sym c.new.ensures) c.requires.few in
    let changed = changed_at names after c.new.result (name_in c.args.directory c.args.name.now) (Some c.args.to) c.in_ok-insert-in-None.ensures.updates c.new.ensures in (
      named_put names after c.new.result c.args.to c.self.invariant.0 some few c.in_ok-insert-in-None.ensures.updates c.in_ok-insert-in-None.ensures.ordered,
      index_stays c.self.inside.short.found.entries c.self.inside.short.whole (map_of names.entries) (map_of after.entries) c.args.directory c.args.name.now (Some c.args.to) c.in-None.ensures c.self.invariant.1 changed,
    )

pub returns-in_ok-insert-in-None-clause-put : goal.returns-in_ok-insert-in-None-clause-put
returns-in_ok-insert-in-None-clause-put c =
    map_put c.self.inside.names c.insert.new.self c.new.result c.args.to c.in_ok-insert-in-None.ensures.updates
    ∙ ap (λ (k : EdgeKey). finite.insert (map_of c.self.inside.names.entries) k c.args.to) c.new.ensures
    ∙ ap (λ (m : Ends). finite.insert m (name_in c.args.directory c.args.name.now) c.args.to) c.self.view_is

use Rattle.std.proofs.Common.{ap, ◌∙◌, sym, subst, List, ◌≤◌, length}
use Rattle.std.specs.Prelude.{Some}
use Rattle.std.specs.FinMap as finite
use Rattle.fidl_names.specs.declared.limits.TheConstants as limit
use Rattle.node_graph.specs.declared.nodes.Entry.{Entry}
use Rattle.node_graph.specs.Tree.{EdgeKey}
use Rattle.node_graph.specs.Ends.{Ends, IsNamed, name_in}
use Rattle.node_graph.specs.Short.{IsIndex}
use Rattle.node_graph.proofs.Ordered.{map_of, map_put, named_put}
use Rattle.node_graph.proofs.Indexed.{changed_at, index_kept, index_puts}
use Rattle.node_graph.proofs.edges.Edges.put_short.Goals as goal

pub invariant_of-self : goal.invariant_of-self
invariant_of-self c =
    (c.self.invariant.0, index_kept c.self.inside.short.found.entries c.reserve.new.self.found.entries c.self.inside.short.whole c.reserve.new.self.whole (map_of c.self.inside.names.entries) c.reserve.ensures.found c.reserve.ensures.whole c.self.invariant.1)

pub invariant_of-self-in_err-insert : goal.invariant_of-self-in_err-insert
invariant_of-self-in_err-insert c =
    subst (λ (names : List (EdgeKey × Entry)). IsNamed names × IsIndex c.reserve.new.self.found.entries c.reserve.new.self.whole (map_of names)) (sym c.in_err-insert.ensures.err)
    (c.self.invariant.0, index_kept c.self.inside.short.found.entries c.reserve.new.self.found.entries c.self.inside.short.whole c.reserve.new.self.whole (map_of c.self.inside.names.entries) c.reserve.ensures.found c.reserve.ensures.whole c.self.invariant.1)

pub invariant_of-self-2 : goal.invariant_of-self-2
invariant_of-self-2 c =
    let names = c.self.inside.names in
    let after = c.insert.new.self in
    let some = let P : EdgeKey → Type 0 = λ k. 1 ≤ length k.name in subst P (sym c.new.ensures) c.requires.some in
    let few = let P : EdgeKey → Type 0 = λ k. length k.name ≤ limit.MAX_NAME in subst P (sym c.new.ensures) c.requires.few in
    let changed = changed_at names after c.new.result (name_in c.args.directory c.args.name.now) (Some c.args.to.now) c.in_ok-insert.ensures.updates c.new.ensures in
    let index = index_kept c.self.inside.short.found.entries c.reserve.new.self.found.entries c.self.inside.short.whole c.reserve.new.self.whole (map_of names.entries) c.reserve.ensures.found c.reserve.ensures.whole c.self.invariant.1 in (
      named_put names after c.new.result c.args.to.now c.self.invariant.0 some few c.in_ok-insert.ensures.updates c.in_ok-insert.ensures.ordered,
      index_puts c.reserve.new.self.found.entries c.put.new.self.found.entries c.reserve.new.self.whole c.put.new.self.whole (map_of names.entries) (map_of after.entries) c.args.short c.args.directory c.args.name.now c.args.to.now c.requires.key index c.put.ensures changed,
    )

pub returns-clause-put : goal.returns-clause-put
returns-clause-put c =
    map_put c.self.inside.names c.insert.new.self c.new.result c.args.to.now c.in_ok-insert.ensures.updates
    ∙ ap (λ (k : EdgeKey). finite.insert (map_of c.self.inside.names.entries) k c.args.to.now) c.new.ensures
    ∙ ap (λ (m : Ends). finite.insert m (name_in c.args.directory c.args.name.now) c.args.to.now) c.self.view_is

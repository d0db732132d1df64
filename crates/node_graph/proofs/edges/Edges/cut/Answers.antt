use Rattle.std.proofs.Common.{◌≡◌, ap, ◌∙◌, None}
use Rattle.std.specs.FinMap as finite
use Rattle.std.specs.BTreeMap.{BTreeMap, UpdatesBy}
use Rattle.node_graph.specs.declared.nodes.Entry.{Entry}
use Rattle.node_graph.specs.Tree.{EdgeKey, edge_cmp}
use Rattle.node_graph.specs.Ends.{Ends, name_in}
use Rattle.node_graph.proofs.Ordered.{map_of, map_cut, named_cut}
use Rattle.node_graph.proofs.Indexed.{changed_at, index_cut, index_stays}
use Rattle.node_graph.proofs.edges.Edges.cut.Goals as goal

-- the names without a key are those without the name that it is
removed : (old new : BTreeMap EdgeKey Entry) (names : Ends) (key name : EdgeKey) → UpdatesBy edge_cmp (edge_cmp key) old new None → key ≡ name → map_of old.entries ≡ names → map_of new.entries ≡ finite.remove names name
removed old new names key name u is view = map_cut old new key u ∙ ap (finite.remove (map_of old.entries)) is ∙ ap (λ (m : Ends). finite.remove m name) view

pub invariant_of-self : goal.invariant_of-self
invariant_of-self c = (
  named_cut c.self.inside.names c.remove.new.self c.new-key.result c.self.invariant.0 c.remove.ensures.updates c.remove.ensures.ordered,
  index_stays c.self.inside.short.found.entries c.self.inside.short.whole (map_of c.self.inside.names.entries) (map_of c.remove.new.self.entries) c.args.directory c.args.name.now None c.in_default.ensures c.self.invariant.1
      (changed_at c.self.inside.names c.remove.new.self c.new-key.result _ None c.remove.ensures.updates c.new-key.ensures),
)

pub returns-in_default : goal.returns-in_default
returns-in_default c = removed c.self.inside.names c.remove.new.self _ c.new-key.result (name_in c.args.directory c.args.name.now) c.remove.ensures.updates c.new-key.ensures c.self.view_is

pub invariant_of-self-2 : goal.invariant_of-self-2
invariant_of-self-2 c = (
  named_cut c.self.inside.names c.remove.new.self c.new-key.result c.self.invariant.0 c.remove.ensures.updates c.remove.ensures.ordered,
  index_cut c.self.inside.short.found.entries c.cut.new.self.found.entries c.self.inside.short.whole c.cut.new.self.whole (map_of c.self.inside.names.entries) (map_of c.remove.new.self.entries) c.in-Some.short c.args.directory c.args.name.now c.in-Some.ensures c.self.invariant.1 c.cut.ensures.found c.cut.ensures.whole
      (changed_at c.self.inside.names c.remove.new.self c.new-key.result _ None c.remove.ensures.updates c.new-key.ensures),
)

pub returns : goal.returns
returns c = removed c.self.inside.names c.remove.new.self _ c.new-key.result (name_in c.args.directory c.args.name.now) c.remove.ensures.updates c.new-key.ensures c.self.view_is

use Rattle.std.proofs.Common.{List, ap, sym, subst, ◌∙◌, ℕ, Option}
use Rattle.std.specs.Prelude.{All}
use Rattle.std.specs.Option.{option_map}
use Rattle.std.specs.declared.ops.Bound.{Bound}
use Rattle.std.specs.declared.ops.Bound.TheVariants.{Excluded}
use Rattle.std.specs.BTreeMap.Range.{entries_between}
use Rattle.node_graph.specs.Tree.{EdgeKey, edge_cmp}
use Rattle.node_graph.specs.Ends.{Ends, HasName, ends_after, start_of}
use Rattle.node_graph.proofs.Listed.{listed_between, listed_named}
use Rattle.node_graph.proofs.edges.Edges.after.Goals as goal

pub returns-clause-names : goal.returns-clause-names
returns-clause-names c =
    let place : Option (List ℕ) = option_map (λ name. name.now) c.args.place in
    c.range.ensures.between tt
    ∙ ap (λ (start : Bound EdgeKey). entries_between edge_cmp start (Excluded c.new-end.result) c.self.inside.names.entries) c.start_of.ensures
    ∙ ap (λ (end : EdgeKey). entries_between edge_cmp (start_of c.args.directory place) (Excluded end) c.self.inside.names.entries) c.new-end.ensures
    ∙ listed_between c.self.inside.names.entries c.args.directory place c.self.invariant.0
    ∙ ap (λ (ends : Ends). ends_after ends c.args.directory place) c.self.view_is

pub returns-clause-named : goal.returns-clause-named
returns-clause-named c =
    let place : Option (List ℕ) = option_map (λ name. name.now) c.args.place in
    subst (All HasName) (sym (
    c.range.ensures.between tt
    ∙ ap (λ (start : Bound EdgeKey). entries_between edge_cmp start (Excluded c.new-end.result) c.self.inside.names.entries) c.start_of.ensures
    ∙ ap (λ (end : EdgeKey). entries_between edge_cmp (start_of c.args.directory place) (Excluded end) c.self.inside.names.entries) c.new-end.ensures
    ∙ listed_between c.self.inside.names.entries c.args.directory place c.self.invariant.0))
    (listed_named c.self.inside.names.entries c.args.directory place c.self.invariant.0)

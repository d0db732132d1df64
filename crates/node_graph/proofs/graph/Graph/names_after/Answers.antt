use Rattle.std.proofs.Common.{List, length, sym, ap, ◌∙◌, subst, map, ℕ, Option, ◌≡◌, Some, ◌≤◌}
use Rattle.std.specs.Prelude.{All}
use Rattle.std.specs.Option.{option_map}
use Rattle.fidl_names.specs.declared.limits.TheConstants as limit
use Rattle.node_graph.specs.declared.nodes.Entry.{Entry}
use Rattle.node_graph.specs.Tree.{EdgeKey}
use Rattle.node_graph.specs.Graph.{Kept, Listed, kind_at, listed_after}
use Rattle.node_graph.specs.Ends.{listed_of}
use Rattle.node_graph.proofs.Calls.{child_kind, number_small}
use Rattle.node_graph.proofs.Listed.{listed_names, all_listed, listed_all, listed_few}
use Rattle.node_graph.proofs.graph.Graph.names_after.Goals as goal

pub after-requires : goal.after-requires
after-requires c = number_small _ _ _ c.args.self.now c.self.view_is c.self.invariant c.args.dir c.requires.named

pub returns-clause-names : goal.returns-clause-names
returns-clause-names c =
    let place : Option (List ℕ) = option_map (λ name. name.now) c.args.after in
    ap (λ es. map {B = List ℕ × ℕ} (λ (l : Listed). (l.name, l.number)) (map listed_of es)) c.after.ensures.names
    ∙ listed_names c.self.inside.edges c.args.dir.number place
    ∙ ap (λ (g : Kept). listed_after g.edges c.args.dir.number place) c.self.view_is

pub returns-clause-kinds : goal.returns-clause-kinds
returns-clause-kinds c =
    let P : List (EdgeKey × Entry) → Type 0 = λ es. All (λ (l : Listed). kind_at c.args.self.now l.number ≡ Some l.kind) (map listed_of es) in
    subst P (sym c.after.ensures.names) (listed_all (λ (l : Listed). kind_at c.args.self.now l.number ≡ Some l.kind) c.self.inside.edges c.args.dir.number (option_map (λ name. name.now) c.args.after)
    (λ key to there. child_kind _ _ _ c.args.self.now c.self.view_is c.self.invariant key to there))

pub returns-clause-few : goal.returns-clause-few
returns-clause-few c =
    let P : List (EdgeKey × Entry) → Type 0 = λ es. length (map listed_of es) ≤ limit.MAX_NAMES in
    subst P (sym c.after.ensures.names) (listed_few c.self.inside.edges c.args.dir.number (option_map (λ name. name.now) c.args.after) c.self.invariant.few)

pub returns-clause-named : goal.returns-clause-named
returns-clause-named c = all_listed c.after.result c.after.ensures.named

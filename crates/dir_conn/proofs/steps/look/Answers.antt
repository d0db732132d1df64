-- What is found is linked by the edge that led to it.
use Rattle.std.proofs.Common.{◌≡◌, ◌∙◌, Option, Some, None, IfSome, ap, sym}
use Rattle.std.specs.FinMap as finite
use Rattle.std.specs.Option.{option_map}
use Rattle.node_graph.specs.Ends.{end_of}
use Rattle.node_graph.specs.declared.nodes.Entry.{Entry}
use Rattle.node_graph.specs.Graph.{Kept, Names, StandsFor, kind_at, number_of}
use Rattle.node_graph.specs.Tree.{EdgeKey, Edges, Tree, name_in}
use Rattle.conn_rules.specs.Nodes.{kind_here}
use Rattle.dir_conn.specs.Reaches.{IsKept}
use Rattle.dir_conn.proofs.Binding.{kind_kept}
use Rattle.dir_conn.proofs.Walking.{linked_by}
use Rattle.dir_conn.proofs.steps.look.Goals as goal

row_found : (graph : Kept) (found : Option Entry) → IfSome found (λ entry. kind_at graph (number_of entry.node) ≡ Some entry.kind) →
    IfSome found (λ entry. (tree : Tree) → StandsFor graph tree → kind_here tree (number_of entry.node) ≡ entry.kind)
row_found graph None kind = tt
row_found graph (Some entry) kind = λ tree stands. kind_kept graph tree (number_of entry.node) entry.kind stands kind

kept_found : (graph : Kept) (key : EdgeKey) (found : Option Entry) → option_map end_of found ≡ finite.get graph.edges key → IfSome found (λ entry. Names graph entry.node) →
    IfSome found (λ entry. kind_at graph (number_of entry.node) ≡ Some entry.kind) → IfSome found (IsKept graph)
kept_found graph key None edge named kind = tt
kept_found graph key (Some entry) edge named kind = record {
  named = named;
  kind = kind;
  linked = linked_by graph.edges key (end_of entry) (sym edge);
}

pub returns : goal.returns
returns c =
    let key = name_in (number_of c.args.directory) c.args.name.now in
    record {
      edge = λ tree stands. ap (λ (edges : Edges). finite.get edges key) (sym stands.edges) ∙ sym c.lookup.ensures.found;
      absent = λ none. sym c.lookup.ensures.found ∙ ap (option_map end_of) none;
      row = row_found c.args.graph.now c.lookup.result c.lookup.ensures.kind;
      kept = kept_found c.args.graph.now key c.lookup.result c.lookup.ensures.found c.lookup.ensures.kept c.lookup.ensures.kind;
    }

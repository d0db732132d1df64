use Rattle.std.proofs.Common.{◌≡◌, Bool, List, ℕ, IfOk, ap, sym, ◌∙◌, subst}
use Rattle.node_graph.specs.Refusals as graph
use Rattle.session_start.specs.Items.{NodeItem}
use Rattle.session_start.specs.RulesOnLists.{Place}
use Rattle.tree_file.proofs.Places.{IsPlacing, not_directory}
use Rattle.tree_file.proofs.rules.place_node.Goals as goal
use Rattle.tree_file.proofs.rules.place_node.Goals.{in-Directory, in_default}

same_place : (server server' : ℕ) (path path' : List ℕ) (directory directory' : Bool) → server ≡ server' → path ≡ path' → directory ≡ directory'
    → ◌≡◌ {A = Place} (record { server = server; path = path; directory = directory }) (record { server = server'; path = path'; directory = directory' })
same_place server server' path path' directory directory' s p d = cc

pub returns : goal.returns
returns c =
    let node = c.args.node.now in
    let directory : c.match-matches.matches ≡ graph.is_directory c.node.inside.kind = elim c.match-matches.branch [
      | in-Directory w ↦ w.matches-is ∙ ap graph.is_directory (sym w.in-Directory.is)
      | in_default w ↦ w.matches-is ∙ sym (not_directory c.node.inside.kind w.in_default.not-Directory)
    ] in
    let same = same_place c.node.inside.server node.server c.as_slice-path.result.now node.path c.match-matches.matches (graph.is_directory node.kind)
    (ap (λ (n : NodeItem). n.server) c.node.view_is) (c.as_slice-path.ensures ∙ ap (λ (n : NodeItem). n.path) c.node.view_is) (directory ∙ ap (λ (n : NodeItem). graph.is_directory n.kind) c.node.view_is) in
    subst (λ (place : Place). IfOk c.place.result (IsPlacing c.args.places.now c.place.new.places place)) same c.place.ensures

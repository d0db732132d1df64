use Rattle.std.proofs.Common.{◌≡◌, ◌≤◌, ◌∙◌, ℕ, List, ap, arith, refl, subst, sym}
use Rattle.std.proofs.lemmas.List.{length-map}
use Rattle.node_graph.specs.Graph.{Leads, create_refusal, number_of}
use Rattle.node_graph.specs.Tree.{Edges, kind_of, make, name_in}
use Rattle.session_start.specs.Lent.{node_item}
use Rattle.session_start.specs.Numbering.{Named, node_named, number_at, row_of_named, tree_from}
use Rattle.path_walk.specs.Parts.{last_name, parent_of}
use Rattle.path_walk.proofs.PartLemmas.{last_valid, name_short}
use Rattle.session_start.proofs.Standing.{free_in}
use Rattle.session_start.proofs.Trees.{parent_there}
use Rattle.session_start.specs.Growing.{Makes, key_in}
use Rattle.session_start.proofs.Nexts.{few, filled, grown}
use Rattle.session_start.proofs.Seated.{place_there, leads_to, kind_there, stands_more}
use Rattle.session_start.proofs.making.add.Goals as goal

pub node_at-dir-requires : goal.node_at-dir-requires
node_at-dir-requires c =
    let next = c.requires.next.3 in
    let one : Named = node_named (node_item c.args.node.now) in
    place_there c.requires.next.2 c.args.graph.now c.args.places.now next.stands c.parent_of.result
    (subst (λ (path : List ℕ). 1 ≤ number_at c.requires.next.2 path) (sym c.parent_of.ensures) (parent_there c.requires.next.2 one (grown c.requires.next.0 c.requires.next.1 c.requires.next.2 (node_named (node_item c.args.node.now)) c.args.graph.now c.args.places.now c.requires.next.3).1))

pub last_name-name-requires : goal.last_name-name-requires
last_name-name-requires c = let fits = (grown c.requires.next.0 c.requires.next.1 c.requires.next.2 (node_named (node_item c.args.node.now)) c.args.graph.now c.args.places.now c.requires.next.3).1 in record { below = fits.new.below }

pub make-requires-clause-directory : goal.make-requires-clause-directory
make-requires-clause-directory c =
    let next = c.requires.next.3 in
    let named = c.requires.next.2 in
    let fits = (grown c.requires.next.0 c.requires.next.1 c.requires.next.2 (node_named (node_item c.args.node.now)) c.args.graph.now c.args.places.now c.requires.next.3).1 in
    kind_there named c.args.graph.now c.args.places.now next.stands c.parent_of.result c.node_at-dir.result c.node_at-dir.ensures
    ∙ ap (λ (path : List ℕ). kind_of (tree_from named) (number_at named path)) c.parent_of.ensures ∙ fits.parent

pub make-requires-clause-some : goal.make-requires-clause-some
make-requires-clause-some c =
    let fits = (grown c.requires.next.0 c.requires.next.1 c.requires.next.2 (node_named (node_item c.args.node.now)) c.args.graph.now c.args.places.now c.requires.next.3).1 in
    rw c.last_name-name.ensures (name_short (last_name c.args.node.now.path.now) (last_valid c.args.node.now.path.now fits.new.below fits.valid)).0

pub make-requires-clause-few : goal.make-requires-clause-few
make-requires-clause-few c =
    let fits = (grown c.requires.next.0 c.requires.next.1 c.requires.next.2 (node_named (node_item c.args.node.now)) c.args.graph.now c.args.places.now c.requires.next.3).1 in
    rw c.last_name-name.ensures (name_short (last_name c.args.node.now.path.now) (last_valid c.args.node.now.path.now fits.new.below fits.valid)).1

pub make-requires-clause-room : goal.make-requires-clause-room
make-requires-clause-room c =
    let next = c.requires.next.3 in
    let named = c.requires.next.2 in
    let most = few c.requires.next.0 c.requires.next.1 named (node_named (node_item c.args.node.now)) c.args.graph.now c.args.places.now next in
    let tree = next.stands.tree in
    let made = tree.made in
    let size = length-map named row_of_named in
    omega (arith, most, made, size)

pub make-requires-clause-free : goal.make-requires-clause-free
make-requires-clause-free c =
    let next = c.requires.next.3 in
    let named = c.requires.next.2 in
    let one : Named = node_named (node_item c.args.node.now) in
    let grows = (grown c.requires.next.0 c.requires.next.1 c.requires.next.2 (node_named (node_item c.args.node.now)) c.args.graph.now c.args.places.now c.requires.next.3) in
    let parent : number_of c.node_at-dir.result ≡ number_at named (parent_of one.path) =
    leads_to named c.args.graph.now c.args.places.now next.stands c.parent_of.result c.node_at-dir.result c.node_at-dir.ensures ∙ ap (number_at named) c.parent_of.ensures in
    let tree = next.stands.tree in
    ap (λ (name : List ℕ). create_refusal c.args.graph.now.edges (name_in (number_of c.node_at-dir.result) name)) c.last_name-name.ensures
    ∙ ap (λ (edges : Edges). create_refusal edges (key_in (number_of c.node_at-dir.result) one.path)) tree.edges
    ∙ ap (λ (n : ℕ). create_refusal (tree_from named).edges (key_in n one.path)) parent
    ∙ free_in named one grows.0 grows.1 (few c.requires.next.0 c.requires.next.1 named one c.args.graph.now c.args.places.now next)

pub make-requires-clause-bytes : goal.make-requires-clause-bytes
make-requires-clause-bytes c =
    let is = filled c.requires.next.0 c.requires.next.1 c.requires.next.2 (node_named (node_item c.args.node.now)) c.args.graph.now c.args.places.now c.requires.next.3 in
    is.bytes

pub make-requires-clause-short : goal.make-requires-clause-short
make-requires-clause-short c =
    let is = filled c.requires.next.0 c.requires.next.1 c.requires.next.2 (node_named (node_item c.args.node.now)) c.args.graph.now c.args.places.now c.requires.next.3 in
    is.short

pub returns : goal.returns
returns c lists server named next =
    let one : Named = node_named (node_item c.args.node.now) in
    let grows = grown lists server named one c.args.graph.now c.args.places.now next in
    let parent : number_of c.node_at-dir.result ≡ number_at named (parent_of one.path) =
    leads_to named c.args.graph.now c.args.places.now next.stands c.parent_of.result c.node_at-dir.result c.node_at-dir.ensures ∙ ap (number_at named) c.parent_of.ensures in
    let tree = next.stands.tree in
    let leads = subst (λ (name : List ℕ). Leads c.args.graph.now c.make.new.self (make (name_in (number_of c.node_at-dir.result) name) (record { kind = one.kind; bytes = one.bytes }) one.mask)) c.last_name-name.ensures c.in_ok-made.ensures.created in
    let makes : Makes c.args.graph.now c.make.new.self (tree_from named) (key_in (number_of c.node_at-dir.result) one.path) one.kind one.mask one.bytes c.in_ok-made.made =
    record {
      grown = leads (tree_from named) tree;
      number = c.in_ok-made.ensures.number;
      named = c.in_ok-made.ensures.kept;
      holds = c.in_ok-made.ensures.holds;
      names = c.in_ok-made.ensures.names;
    } in
    stands_more named one grows.0 grows.1 c.args.graph.now c.make.new.self c.args.places.now c.insert.new.self next.stands
    c.node_at-dir.result c.in_ok-made.made parent makes c.args.node.now.path refl c.in_ok-insert.ensures.updates.0

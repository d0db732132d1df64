-- That each node and mount of an accepted tree stands behind those before it, on each server.
use Rattle.std.proofs.Common.{◌≡◌, ℕ, zero, suc, ◌+◌, ◌==◌, ◌&&◌, ◌||◌, Bool, true, false, cond, List, [], ◌∷◌, ◌++◌, length, map, filter, take, Option, Some, None, All, refl, sym, ap, ◌∙◌, subst, append_assoc, append-nil}
use Rattle.std.specs.Prelude.{is_none, unwrap_or}
use Rattle.std.specs.List.{find, position, enumerate_from}
use Rattle.std.specs.Option.{option_map, option_or}
use Rattle.std.specs.Str.{bytes_eq}
use Rattle.std.proofs.lemmas.Bool.{and_parts, eqb-true}
use Rattle.std.proofs.lemmas.List.{map-append}
use Rattle.std.proofs.lemmas.List.Elements.{All-head, All-tail, All-take, filter-append}
use Rattle.node_graph.specs.declared.nodes.NodeKind.{NodeKind}
use Rattle.node_graph.specs.declared.nodes.NodeKind.TheVariants.{Directory, File, Service, Mount}
use Rattle.node_graph.specs.Refusals as graph
use Rattle.node_graph.specs.Tree.{kind_of}
use Rattle.path_walk.specs.Names.{IsName}
use Rattle.path_walk.specs.Parts.{is_dot, parent_of}
use Rattle.path_walk.specs.Paths.{names_of}
use Rattle.path_walk.proofs.PathLemmas.{path_sound}
use Rattle.session_start.specs.Accepted.{AreAccepted, IsAt, IsNode, IsMount}
use Rattle.session_start.specs.Items.{NodeItem, MountItem, Lists}
use Rattle.session_start.specs.Numbering.{Named, node_named, mount_named, named_of, number_at, tree_from}
use Rattle.session_start.specs.RulesOnLists.{Place, node_place, mount_place, found_among, is_directory, fits_in, node_fits, mount_fits, first_failing}
use Rattle.session_start.proofs.Accepted.{passing, rules_kept}
use Rattle.session_start.proofs.Found.{find_push, enumerate_push, position_none}
use Rattle.session_start.proofs.Numbers.{at_path}
use Rattle.session_start.proofs.OnePlaceMore.{found_push, or_none}
use Rattle.session_start.proofs.Standing.{kind_below, kind_root}
use Rattle.session_start.proofs.Trees.{Fits, Grows, bare, more}

-- ---- the places of all servers, and the list of one

abbrev directory_found : List Named → List ℕ → Option Bool
directory_found named path = option_map (λ one. graph.is_directory one.kind) (find (at_path path) named)

-- a server has at each path what its own list has there, and that list grows
pub record Keeps (server : ℕ) (places : List Place) (named : List Named) : Type 0 where
  pub agree : (path : List ℕ) → found_among places server path ≡ directory_found named path
  pub grows : Grows named

or_of : (o : Option Named) (b : Bool) (one : Named) → option_map (λ (x : Named). graph.is_directory x.kind) (option_or o (cond b (Some one) None)) ≡ option_or (option_map (λ (x : Named). graph.is_directory x.kind) o) (cond b (Some (graph.is_directory one.kind)) None)
or_of None true one = refl
or_of None false one = refl
or_of (Some x) b one = refl

directory_push : (named : List Named) (one : Named) (path : List ℕ) → directory_found (named ++ one ∷ []) path ≡ option_or (directory_found named path) (cond (at_path path one) (Some (graph.is_directory one.kind)) None)
directory_push named one path =
    ap (option_map (λ (x : Named). graph.is_directory x.kind)) (find_push (at_path path) named one) ∙ or_of (find (at_path path) named) (at_path path one) one

agree_on : (server : ℕ) (places : List Place) (named : List Named) (place : Place) (one : Named) → ((path : List ℕ) → found_among places server path ≡ directory_found named path) → (place.server == server) ≡ true → place.path ≡ one.path → place.directory ≡ graph.is_directory one.kind →
    (path : List ℕ) → found_among (places ++ place ∷ []) server path ≡ directory_found (named ++ one ∷ []) path
agree_on server places named place one agree on same kind path =
    found_push places place server path
    ∙ ap (λ b. option_or (found_among places server path) (cond (b && bytes_eq place.path path) (Some place.directory) None)) on
    ∙ ap (λ (o : Option Bool). option_or o (cond (bytes_eq place.path path) (Some place.directory) None)) (agree path)
    ∙ ap (λ (text : List ℕ). option_or (directory_found named path) (cond (bytes_eq text path) (Some place.directory) None)) same
    ∙ ap (λ (d : Bool). option_or (directory_found named path) (cond (bytes_eq one.path path) (Some d) None)) kind
    ∙ sym (directory_push named one path)

agree_off : (server : ℕ) (places : List Place) (named : List Named) (place : Place) → ((path : List ℕ) → found_among places server path ≡ directory_found named path) → (place.server == server) ≡ false →
    (path : List ℕ) → found_among (places ++ place ∷ []) server path ≡ directory_found named path
agree_off server places named place agree off path =
    found_push places place server path
    ∙ ap (λ b. option_or (found_among places server path) (cond (b && bytes_eq place.path path) (Some place.directory) None)) off
    ∙ sym (or_none (found_among places server path)) ∙ agree path

-- ---- what is found there

by_kind : (k : NodeKind) → graph.is_directory k ≡ true → k ≡ Directory
by_kind Directory h = refl
by_kind File h = absurd (cc)
by_kind Service h = absurd (cc)
by_kind (Mount index) h = absurd (cc)

directory_alone : (o : Option Named) → unwrap_or (option_map (λ (one : Named). graph.is_directory one.kind) o) false ≡ true → option_map (λ (one : Named). one.kind) o ≡ Some Directory
directory_alone None h = absurd (cc)
directory_alone (Some one) h = ap Some (by_kind one.kind h)

pub directory_there : (server : ℕ) (places : List Place) (named : List Named) → Keeps server places named → (path : List ℕ) → is_directory places server path ≡ true → kind_of (tree_from named) (number_at named path) ≡ Some Directory
unfolding is_directory
directory_there server places named keeps path h = by_dot (is_dot path) refl h where
  by_dot : (b : Bool) → is_dot path ≡ b → (b || unwrap_or (found_among places server path) false) ≡ true → kind_of (tree_from named) (number_at named path) ≡ Some Directory
  by_dot true is h = kind_root named path is
  by_dot false is h = kind_below named path is ∙ directory_alone (find (at_path path) named) (ap (λ (o : Option Bool). unwrap_or o false) (sym (keeps.agree path)) ∙ h)

none_mapped : (o : Option Named) → is_none (option_map (λ (one : Named). graph.is_directory one.kind) o) ≡ true → o ≡ None
none_mapped None h = refl
none_mapped (Some one) h = absurd (cc)

free_there : (server : ℕ) (places : List Place) (named : List Named) → Keeps server places named → (path : List ℕ) → is_none (found_among places server path) ≡ true → position (at_path path) named ≡ None
free_there server places named keeps path h =
    position_none (at_path path) named (none_mapped (find (at_path path) named) (ap is_none (sym (keeps.agree path)) ∙ h))

pub fits_there : (server : ℕ) (places : List Place) (named : List Named) → Keeps server places named → (one : Named) → fits_in places server one.path ≡ true → is_dot one.path ≡ false → All IsName (names_of one.path) → Fits named one
fits_there server places named keeps one h below valid =
    let parts = and_parts (is_directory places server (parent_of one.path)) (is_none (found_among places server one.path)) h in
    record {
      new = record { below = below; free = free_there server places named keeps one.path parts.1 };
      valid = valid;
      parent = directory_there server places named keeps (parent_of one.path) parts.0;
    }

keep_push : (server : ℕ) (places : List Place) (named : List Named) → Keeps server places named → (place : Place) (one : Named) → place.path ≡ one.path → place.directory ≡ graph.is_directory one.kind →
    fits_in places place.server one.path ≡ true → is_dot one.path ≡ false → All IsName (names_of one.path) → (b : Bool) → (place.server == server) ≡ b → Keeps server (places ++ place ∷ []) (named ++ cond b (one ∷ []) [])
keep_push server places named keeps place one same kind fits below valid true on =
    let here : fits_in places server one.path ≡ true = ap (λ (s : ℕ). fits_in places s one.path) (sym (eqb-true place.server server on)) ∙ fits in
    record {
      agree = agree_on server places named place one keeps.agree on same kind;
      grows = more named one keeps.grows (fits_there server places named keeps one here below valid);
    }
keep_push server places named keeps place one same kind fits below valid false off =
    subst (λ (n : List Named). Keeps server (places ++ place ∷ []) n) (sym (append-nil named))
    (record { agree = agree_off server places named place keeps.agree off; grows = keeps.grows })

valid_names : (count host : ℕ) (path : List ℕ) → IsAt count host path → All IsName (names_of path)
valid_names count host path at = let is = path_sound path at.path in is.valid

-- ---- nodes

abbrev pub nodes_on : ℕ → List NodeItem → List Named
nodes_on server nodes = map node_named (filter (λ node. node.server == server) nodes)

mapped_cond : {X Y : Type 0} (f : X → Y) (b : Bool) (x : X) → map f (cond b (x ∷ []) []) ≡ cond b (f x ∷ []) []
mapped_cond f true x = refl
mapped_cond f false x = refl

pub nodes_push : (server : ℕ) (nodes : List NodeItem) (node : NodeItem) → nodes_on server (nodes ++ node ∷ []) ≡ nodes_on server nodes ++ cond (node.server == server) (node_named node ∷ []) []
nodes_push server nodes node =
    ap (map node_named) (filter-append (λ (n : NodeItem). n.server == server) nodes (node ∷ []))
    ∙ map-append node_named (filter (λ (n : NodeItem). n.server == server) nodes) (cond (node.server == server) (node ∷ []) [])
    ∙ ap (λ more. nodes_on server nodes ++ more) (mapped_cond node_named (node.server == server) node)

keep_node : (count server : ℕ) (earlier : List NodeItem) (node : NodeItem) → Keeps server (map node_place earlier) (nodes_on server earlier) → node_fits earlier node ≡ true → IsNode count node →
    Keeps server (map node_place (earlier ++ node ∷ [])) (nodes_on server (earlier ++ node ∷ []))
keep_node count server earlier node keeps fits is =
    subst (λ (p : List Place). Keeps server p (nodes_on server (earlier ++ node ∷ []))) (sym (map-append node_place earlier (node ∷ [])))
    (subst (λ (n : List Named). Keeps server (map node_place earlier ++ node_place node ∷ []) n) (sym (nodes_push server earlier node))
    (keep_push server (map node_place earlier) (nodes_on server earlier) keeps (node_place node) (node_named node) refl refl fits is.below (valid_names count node.server node.path is.at) (node.server == server) refl))

keep_nodes : (count server : ℕ) (earlier nodes : List NodeItem) → Keeps server (map node_place earlier) (nodes_on server earlier) → first_failing node_fits earlier nodes ≡ None → All (IsNode count) nodes →
    Keeps server (map node_place (earlier ++ nodes)) (nodes_on server (earlier ++ nodes))
keep_nodes count server earlier [] keeps h all = subst (λ (l : List NodeItem). Keeps server (map node_place l) (nodes_on server l)) (sym (append-nil earlier)) keeps
keep_nodes count server earlier (node ∷ nodes) keeps h all =
    let passes = passing node_fits earlier node nodes h in
    subst (λ (l : List NodeItem). Keeps server (map node_place l) (nodes_on server l)) (append_assoc earlier (node ∷ []) nodes)
    (keep_nodes count server (earlier ++ node ∷ []) nodes (keep_node count server earlier node keeps passes.0 (All-head (IsNode count) node nodes all)) passes.1 (All-tail (IsNode count) node nodes all))

failing_take : {X : Type 0} (passes : List X → X → Bool) (earlier xs : List X) (i : ℕ) → first_failing passes earlier xs ≡ None → first_failing passes earlier (take i xs) ≡ None
unfolding first_failing
failing_take passes earlier xs zero h = refl
failing_take passes earlier [] (suc i) h = refl
failing_take passes earlier (x ∷ xs) (suc i) h =
    let first = passing passes earlier x xs h in
    ap (λ b. cond b (first_failing passes (earlier ++ x ∷ []) (take i xs)) (Some (length earlier))) first.0 ∙ failing_take passes (earlier ++ x ∷ []) xs i first.1

keeps_none : (server : ℕ) → Keeps server [] []
unfolding found_among
keeps_none server = record { agree = λ path. refl; grows = bare }

-- the first nodes
pub keeps_nodes : (lists : Lists) → AreAccepted lists → (server i : ℕ) → Keeps server (map node_place (take i lists.nodes)) (nodes_on server (take i lists.nodes))
keeps_nodes lists accepted server i =
    let n = length lists.servers in
    let kept = rules_kept lists accepted in
    keep_nodes n server [] (take i lists.nodes) (keeps_none server) (failing_take node_fits [] lists.nodes i kept.nodes) (All-take (IsNode n) i lists.nodes accepted.items.nodes)

-- ---- mounts

abbrev pub mounts_on : ℕ → List MountItem → List Named
mounts_on server mounts = map mount_named (filter (λ mount. mount.1.server == server) (enumerate_from 0 mounts))

mounts_push : (server : ℕ) (mounts : List MountItem) (mount : MountItem) → mounts_on server (mounts ++ mount ∷ []) ≡ mounts_on server mounts ++ cond (mount.server == server) (mount_named (0 + length mounts, mount) ∷ []) []
mounts_push server mounts mount =
    ap (λ (l : List (ℕ × MountItem)). map mount_named (filter (λ m. m.1.server == server) l)) (enumerate_push 0 mounts mount)
    ∙ ap (map mount_named) (filter-append (λ (m : ℕ × MountItem). m.1.server == server) (enumerate_from 0 mounts) ((0 + length mounts, mount) ∷ []))
    ∙ map-append mount_named (filter (λ (m : ℕ × MountItem). m.1.server == server) (enumerate_from 0 mounts)) (cond (mount.server == server) ((0 + length mounts, mount) ∷ []) [])
    ∙ ap (λ more. mounts_on server mounts ++ more) (mapped_cond mount_named (mount.server == server) (0 + length mounts, mount))

abbrev all_places : List NodeItem → List MountItem → List Place
all_places nodes mounts = map node_place nodes ++ map mount_place mounts

abbrev all_on : ℕ → List NodeItem → List MountItem → List Named
all_on server nodes mounts = nodes_on server nodes ++ mounts_on server mounts

keep_mount : (count server : ℕ) (nodes : List NodeItem) (earlier : List MountItem) (mount : MountItem) → Keeps server (all_places nodes earlier) (all_on server nodes earlier) → mount_fits nodes earlier mount ≡ true → IsMount count mount →
    Keeps server (all_places nodes (earlier ++ mount ∷ [])) (all_on server nodes (earlier ++ mount ∷ []))
keep_mount count server nodes earlier mount keeps fits is =
    let places : all_places nodes earlier ++ mount_place mount ∷ [] ≡ all_places nodes (earlier ++ mount ∷ []) =
    append_assoc (map node_place nodes) (map mount_place earlier) (mount_place mount ∷ []) ∙ ap (λ more. map node_place nodes ++ more) (sym (map-append mount_place earlier (mount ∷ []))) in
    let one = mount_named (0 + length earlier, mount) in
    let named : all_on server nodes earlier ++ cond (mount.server == server) (one ∷ []) [] ≡ all_on server nodes (earlier ++ mount ∷ []) =
    append_assoc (nodes_on server nodes) (mounts_on server earlier) (cond (mount.server == server) (one ∷ []) []) ∙ ap (λ more. nodes_on server nodes ++ more) (sym (mounts_push server earlier mount)) in
    let in_place = and_parts (fits_in (all_places nodes earlier) mount.server mount.path) (is_directory (all_places nodes earlier) mount.target mount.at) fits in
    subst (λ (p : List Place). Keeps server p (all_on server nodes (earlier ++ mount ∷ []))) places
    (subst (λ (n : List Named). Keeps server (all_places nodes earlier ++ mount_place mount ∷ []) n) named
    (keep_push server (all_places nodes earlier) (all_on server nodes earlier) keeps (mount_place mount) one refl refl in_place.0 is.below (valid_names count mount.server mount.path is.at) (mount.server == server) refl))

keep_mounts : (count server : ℕ) (nodes : List NodeItem) (earlier mounts : List MountItem) → Keeps server (all_places nodes earlier) (all_on server nodes earlier) → first_failing (mount_fits nodes) earlier mounts ≡ None → All (IsMount count) mounts →
    Keeps server (all_places nodes (earlier ++ mounts)) (all_on server nodes (earlier ++ mounts))
keep_mounts count server nodes earlier [] keeps h all = subst (λ (l : List MountItem). Keeps server (all_places nodes l) (all_on server nodes l)) (sym (append-nil earlier)) keeps
keep_mounts count server nodes earlier (mount ∷ mounts) keeps h all =
    let passes = passing (mount_fits nodes) earlier mount mounts h in
    subst (λ (l : List MountItem). Keeps server (all_places nodes l) (all_on server nodes l)) (append_assoc earlier (mount ∷ []) mounts)
    (keep_mounts count server nodes (earlier ++ mount ∷ []) mounts (keep_mount count server nodes earlier mount keeps passes.0 (All-head (IsMount count) mount mounts all)) passes.1 (All-tail (IsMount count) mount mounts all))

-- all nodes, then all mounts
pub keeps_all : (lists : Lists) → AreAccepted lists → (server : ℕ) → Keeps server (map node_place lists.nodes ++ map mount_place lists.mounts) (named_of lists server)
keeps_all lists accepted server =
    let n = length lists.servers in
    let kept = rules_kept lists accepted in
    let nodes = keep_nodes n server [] lists.nodes (keeps_none server) kept.nodes accepted.items.nodes in
    keep_mounts n server lists.nodes [] lists.mounts
    (subst (λ (p : List Place). Keeps server p (all_on server lists.nodes [])) (sym (append-nil (map node_place lists.nodes)))
    (subst (λ (l : List Named). Keeps server (map node_place lists.nodes) l) (sym (append-nil (nodes_on server lists.nodes))) nodes))
    kept.mounts accepted.items.mounts

-- What holds of each accepted tree: the lemmas that crates above cite.
use Rattle.std.proofs.Common.{◌≡◌, ℕ, suc, ◌+◌, ◌<◌, ◌≤◌, ◌==◌, ◌||◌, Bool, true, false, cond, List, [], ◌∷◌, ◌++◌, length, map, filter, take, drop, get_or, Option, Some, None, All, refl, sym, ap, ◌∙◌, subst, inr, arith, append_assoc, length-append}
use Rattle.std.specs.Prelude.{unwrap_or}
use Rattle.std.specs.List.{find, enumerate_from}
use Rattle.std.specs.Option.{option_map}
use Rattle.std.proofs.lemmas.Bool.{and_parts, leb-true}
use Rattle.std.proofs.lemmas.List.{length-map, map-append, take-append-drop}
use Rattle.std.proofs.lemmas.List.Elements.{All-append, All-filter, All-map, All-weaker}
use Rattle.std.proofs.lemmas.List.Sums.{length-filter}
use Rattle.fidl_names.specs.HandleNumber.{is_client}
use Rattle.fidl_names.specs.declared.limits.TheConstants as limit
use Rattle.node_graph.specs.Tree.{IsSound}
use Rattle.path_walk.specs.Parts.{is_dot}
use Rattle.session_start.specs.Accepted.{AreAccepted, IsNode, IsMount, IsClient}
use Rattle.session_start.specs.Items.{NodeItem, MountItem, ClientItem, Lists}
use Rattle.session_start.specs.Numbering.{node_named, mount_named, named_of, tree_of}
use Rattle.session_start.specs.RulesOnLists.{Place, node_place, mount_place, is_at_place, found_among, is_directory, fits_in, mount_fits, client_fits, bytes_fit, names_held}
use Rattle.session_start.specs.Sound.{AreSound, IsDirectoryAt}
use Rattle.session_start.proofs.Accepted.{each_passes, rules_kept, few_names, few_connections}
use Rattle.session_start.proofs.Edges.{mount_known, one_edge}
use Rattle.session_start.proofs.Placing.{nodes_on, mounts_on, keeps_all, directory_there}
use Rattle.session_start.proofs.Rising.{IsFilled, sound_from}
use Rattle.session_start.proofs.Standing.{in_place}

-- ---- the trees

short_nodes : (lists : Lists) → AreAccepted lists → All (λ node. length node.bytes ≤ limit.MAX_FILE) lists.nodes
short_nodes lists accepted k d within = leb-true (length (get_or lists.nodes k d).bytes) limit.MAX_FILE (each_passes bytes_fit [] lists.nodes (rules_kept lists accepted).bytes k d within)

node_filled : (count : ℕ) (node : NodeItem) → IsNode count node → length node.bytes ≤ limit.MAX_FILE → IsFilled (node_named node)
node_filled count node is short = record { bytes = is.bytes; short = short }

pub all_filled : (lists : Lists) → AreAccepted lists → (server : ℕ) → All IsFilled (named_of lists server)
all_filled lists accepted server =
    All-append IsFilled (nodes_on server lists.nodes) (mounts_on server lists.mounts)
    (All-map IsFilled node_named (filter (λ node. node.server == server) lists.nodes)
    (All-filter (λ (node : NodeItem). node.server == server) (λ (node : NodeItem). IsFilled (node_named node)) lists.nodes
    (λ k d within. node_filled (length lists.servers) (get_or lists.nodes k d) (accepted.items.nodes k d within) (short_nodes lists accepted k d within))))
    (All-map IsFilled mount_named (filter (λ mount. mount.1.server == server) (enumerate_from 0 lists.mounts))
    (λ k d within. record { bytes = inr refl; short = omega arith }))

count_enumerated : (n server : ℕ) (mounts : List MountItem) → length (filter (λ mount. mount.1.server == server) (enumerate_from n mounts)) ≡ length (filter (λ mount. mount.server == server) mounts)
count_enumerated n server [] = refl
count_enumerated n server (mount ∷ mounts) = by_test (mount.server == server) (count_enumerated (n + 1) server mounts) where
  by_test : (b : Bool) → length (filter (λ mount. mount.1.server == server) (enumerate_from (n + 1) mounts)) ≡ length (filter (λ mount. mount.server == server) mounts) →
      length (cond b ((n, mount) ∷ filter (λ mount. mount.1.server == server) (enumerate_from (n + 1) mounts)) (filter (λ mount. mount.1.server == server) (enumerate_from (n + 1) mounts)))
      ≡ length (cond b (mount ∷ filter (λ mount. mount.server == server) mounts) (filter (λ mount. mount.server == server) mounts))
  by_test true rest = ap suc rest
  by_test false rest = rest

-- a server has as many names as nodes and mounts
pub named_count : (lists : Lists) (server : ℕ) → length (named_of lists server) ≡ names_held lists.nodes lists.mounts server
named_count lists server =
    let nodes = filter (λ (node : NodeItem). node.server == server) lists.nodes in
    let mounts = filter (λ (mount : ℕ × MountItem). mount.1.server == server) (enumerate_from 0 lists.mounts) in
    let all = length-append (nodes_on server lists.nodes) (mounts_on server lists.mounts) in
    let a = length-map nodes node_named in
    let b = length-map mounts mount_named in
    let c = length-filter (λ (node : NodeItem). node.server == server) lists.nodes in
    let d = count_enumerated 0 server lists.mounts in
    let e = length-filter (λ (mount : MountItem). mount.server == server) lists.mounts in
    omega (arith, all, a, b, c, d, e)

pub tree_sound : (lists : Lists) → AreAccepted lists → (server : ℕ) → server < length lists.servers → IsSound (tree_of lists server)
tree_sound lists accepted server within =
    let keeps = keeps_all lists accepted server in
    let count = named_count lists server in
    let few = few_names lists accepted server within in
    sound_from (named_of lists server) keeps.grows (all_filled lists accepted server) (omega (arith, count, few))

-- ---- directories

found_stays : (places rest : List Place) (server : ℕ) (path : List ℕ) (d : Bool) → found_among places server path ≡ Some d → found_among (places ++ rest) server path ≡ Some d
unfolding found_among
found_stays [] rest server path d h = absurd (cc)
found_stays (place ∷ places) rest server path d h = by_test (is_at_place server path place) h (λ g. found_stays places rest server path d g) where
  by_test : (b : Bool) → option_map (λ (p : Place). p.directory) (cond b (Some place) (find (is_at_place server path) places)) ≡ Some d →
      (option_map (λ (p : Place). p.directory) (find (is_at_place server path) places) ≡ Some d → option_map (λ (p : Place). p.directory) (find (is_at_place server path) (places ++ rest)) ≡ Some d) →
      option_map (λ (p : Place). p.directory) (cond b (Some place) (find (is_at_place server path) (places ++ rest))) ≡ Some d
  by_test true h rest = h
  by_test false h rest = rest h

some_true : (o : Option Bool) → unwrap_or o false ≡ true → o ≡ Some true
some_true None h = absurd (cc)
some_true (Some b) h = ap Some h

directory_stays : (places rest : List Place) (server : ℕ) (path : List ℕ) → is_directory places server path ≡ true → is_directory (places ++ rest) server path ≡ true
unfolding is_directory
directory_stays places rest server path h = by_dot (is_dot path) h where
  by_dot : (b : Bool) → (b || unwrap_or (found_among places server path) false) ≡ true → (b || unwrap_or (found_among (places ++ rest) server path) false) ≡ true
  by_dot true h = refl
  by_dot false h = ap (λ (o : Option Bool). unwrap_or o false) (found_stays places rest server path true (some_true (found_among places server path) h))

abbrev places_of : Lists → List Place
places_of lists = map node_place lists.nodes ++ map mount_place lists.mounts

pub clients_stand : (lists : Lists) → AreAccepted lists → All (λ client. IsDirectoryAt lists client.server client.path) lists.clients
clients_stand lists accepted k d within =
    let client = get_or lists.clients k d in
    directory_there client.server (places_of lists) (named_of lists client.server) (keeps_all lists accepted client.server) client.path
    (each_passes (client_fits (places_of lists)) [] lists.clients (rules_kept lists accepted).clients k d within)

pub targets_stand : (lists : Lists) → AreAccepted lists → All (λ mount. IsDirectoryAt lists mount.target mount.at) lists.mounts
targets_stand lists accepted k d within =
    let mount = get_or lists.mounts k d in
    let earlier = map node_place lists.nodes ++ map mount_place (take k lists.mounts) in
    let fits = and_parts (fits_in earlier mount.server mount.path) (is_directory earlier mount.target mount.at) (each_passes (mount_fits lists.nodes) [] lists.mounts (rules_kept lists accepted).mounts k d within) in
    let whole : earlier ++ map mount_place (drop k lists.mounts) ≡ places_of lists =
    append_assoc (map node_place lists.nodes) (map mount_place (take k lists.mounts)) (map mount_place (drop k lists.mounts))
    ∙ ap (λ more. map node_place lists.nodes ++ more) (sym (map-append mount_place (take k lists.mounts) (drop k lists.mounts)) ∙ ap (map mount_place) (take-append-drop k lists.mounts)) in
    directory_there mount.target (places_of lists) (named_of lists mount.target) (keeps_all lists accepted mount.target) mount.at
    (subst (λ (p : List Place). is_directory p mount.target mount.at ≡ true) whole (directory_stays earlier (map mount_place (drop k lists.mounts)) mount.target mount.at fits.1))

-- ---- all

pub start_sound : (lists : Lists) → AreAccepted lists → AreSound lists
start_sound lists accepted =
    let n = length lists.servers in
    record {
      trees = tree_sound lists accepted;
      places = λ server within. let keeps = keeps_all lists accepted server in in_place (named_of lists server) keeps.grows;
      edges = λ index mount there. one_edge lists accepted index mount there;
      mounts = mount_known lists accepted;
      clients = clients_stand lists accepted;
      targets = targets_stand lists accepted;
      servers = record {
        few = accepted.items.servers.few;
        nodes = All-weaker (IsNode n) (λ (node : NodeItem). node.server < n) (λ node h. h.at.server) lists.nodes accepted.items.nodes;
        mounts = All-weaker (IsMount n) (λ (mount : MountItem). mount.server < n) (λ mount h. h.at.server) lists.mounts accepted.items.mounts;
        targets = All-weaker (IsMount n) (λ (mount : MountItem). mount.target < n) (λ mount h. h.target.server) lists.mounts accepted.items.mounts;
        clients = All-weaker (IsClient n) (λ (client : ClientItem). client.server < n) (λ client h. h.at.server) lists.clients accepted.items.clients;
      };
      names = few_names lists accepted;
      connections = few_connections lists accepted;
      endpoints = All-weaker (IsClient n) (λ (client : ClientItem). is_client client.endpoint ≡ true) (λ client h. h.endpoint) lists.clients accepted.items.clients;
      apart = accepted.items.apart;
    }

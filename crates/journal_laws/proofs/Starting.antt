-- The start that a tree file stands for has its endpoints apart.
use Rattle.std.proofs.Common.{◌≡◌, ◌≢◌, ◌+◌, AllPairs, ℕ, zero, suc, ◌<◌, ◌≤◌, ◌==◌, ◌⊎◌, Bool, true, false, cond, nat_lt, List, [], ◌∷◌, ◌++◌, length, map, filter, count_by, slice_get, slice_index_or, Some, All, Contains, refl, sym, ap, ◌∙◌, subst, inl, inr, arith}
use Rattle.std.specs.List.{enumerate_from, range_with_len}
use Rattle.std.proofs.lemmas.Bool.{cases_order, ne_eqb, true≢false, and_right, le-ltb}
use Rattle.std.proofs.lemmas.List.FromFn.{get_or-map-range_with_len, length-map-range_with_len}
use Rattle.std.proofs.lemmas.List.{length-map}
use Rattle.std.proofs.lemmas.List.Sums.{sum_by-append, sum_by-cons}
use Rattle.std.proofs.lemmas.List.Kept.{AllPairs-cons}
use Rattle.journal_laws.proofs.Lists.{all_numbered, both_hold, pairs-append, pairs-map}
use Rattle.std.proofs.lemmas.List.Elements.{All-nil, All-cons, All-head, All-tail, All-append, All-map, All-filter, All-weaker, All-contains_itself}
use Rattle.fidl_names.specs.HandleNumber.{is_client, end_of_mount}
use Rattle.fidl_names.specs.declared.limits.TheConstants as limit
use Rattle.io_rights.specs.Operations.{OperationSet}
use Rattle.node_graph.specs.Tree.{IsSound, Tree, bare_tree, kind_of}
use Rattle.node_graph.specs.declared.nodes.NodeKind.{NodeKind}
use Rattle.node_graph.specs.declared.nodes.NodeKind.TheVariants.{Directory, File, Service, Mount}
use Rattle.session_start.specs.Accepted.{AreAccepted, HasFilesOfBytes, IsClient, IsNode, IsPlain}
use Rattle.session_start.specs.Items.{NodeItem, MountItem, ClientItem, Lists}
use Rattle.session_start.specs.Numbering.{Named, node_named, mount_named, named_of, number_in, row_of_named, tree_of}
use Rattle.session_start.specs.Sound.{AreSound, HasOneEdge, IsDirectoryAt}
use Rattle.session_start.proofs.Soundness.{named_count, start_sound}
use Rattle.journal_laws.specs.Contents.{HasBytes, HasNames}
use Rattle.journal_laws.specs.Soundness.{IsStart, OtherEndpoint, HasEnd, HasRoom, AreMounted, AreMountedOnce, IsOnDirectory, mount_ends}
use Rattle.vfs_journal.specs.History.{tree_at}
use Rattle.vfs_journal.specs.Starts.{Bound, Start, start_of, directory_birth, first_of_client, end_of}
use Rattle.journal_laws.proofs.Acts.{IsMade}
use Rattle.journal_laws.proofs.KnowingStarts.{mounts_in_order}
use Rattle.journal_laws.proofs.Members.{contains_map}
use Rattle.journal_laws.proofs.StartBytes.{starts_have_bytes}
use Rattle.journal_laws.proofs.StartNames.{starts_have_names}

-- ---- the lists of an accepted tree

record AreApart (lists : Lists) : Type 0 where
  nodes : All (λ node. IsMade node.kind) lists.nodes
  clients : All (λ client. is_client client.endpoint ≡ true) lists.clients
  distinct : AllPairs (λ one other. one.endpoint ≢ other.endpoint) lists.clients

made_kind : (kind : NodeKind) → IsPlain kind → IsMade kind
made_kind Directory h = tt
made_kind File h = tt
made_kind Service h = tt
made_kind (Mount index) h = h

lists_apart : (lists : Lists) → AreAccepted lists → AreApart lists
lists_apart lists accepted =
    let n = length lists.servers in
    record {
      nodes = All-weaker (IsNode n) (λ (node : NodeItem). IsMade node.kind) (λ node h. made_kind node.kind h.plain) lists.nodes accepted.items.nodes;
      clients = All-weaker (IsClient n) (λ (client : ClientItem). is_client client.endpoint ≡ true) (λ client h. h.endpoint) lists.clients accepted.items.clients;
      distinct = accepted.items.apart;
    }

-- ---- the start

abbrev mounts_of : Lists → List (ℕ × MountItem)
mounts_of lists = enumerate_from 0 lists.mounts

end_there : (lists : Lists) (mount : ℕ × MountItem) → Contains (mounts_of lists) mount → Contains (mount_ends (start_of lists)) (end_of_mount mount.0)
end_there lists mount h =
    contains_map (λ (bound : Bound). bound.endpoint) (map (end_of lists) (mounts_of lists)) (end_of lists mount) (contains_map (end_of lists) (mounts_of lists) mount h)

mount_row : (lists : Lists) (mount : ℕ × MountItem) → Contains (mounts_of lists) mount → HasEnd (start_of lists) (row_of_named (mount_named mount))
mount_row lists mount h index e =
    let same : mount.0 ≡ index = index_same e in
    subst (λ (n : ℕ). Contains (mount_ends (start_of lists)) (end_of_mount n)) same (end_there lists mount h) where
      index_same : {m n : ℕ} → Mount m ≡ Mount n → m ≡ n
      index_same e = cc

made_row : (start : Start) (kind : NodeKind) (bytes : List ℕ) → IsMade kind → HasEnd start (record { kind = kind; bytes = bytes })
made_row start Directory bytes h index e = absurd (cc)
made_row start File bytes h index e = absurd (cc)
made_row start Service bytes h index e = absurd (cc)
made_row start (Mount i) bytes h index e = absurd h

named_rows : (lists : Lists) (server : ℕ) → AreApart lists → All (λ named. HasEnd (start_of lists) (row_of_named named)) (named_of lists server)
named_rows lists server apart =
    let P : Named → Type 0 = λ named. HasEnd (start_of lists) (row_of_named named) in
    All-append (λ named. HasEnd (start_of lists) (row_of_named named)) (map node_named (filter (λ node. node.server == server) lists.nodes)) (map mount_named (filter (λ mount. mount.1.server == server) (mounts_of lists)))
    (All-map (λ named. HasEnd (start_of lists) (row_of_named named)) node_named (filter (λ node. node.server == server) lists.nodes)
    (All-weaker (λ (node : NodeItem). IsMade node.kind) (λ node. HasEnd (start_of lists) (row_of_named (node_named node))) (λ node h. made_row (start_of lists) node.kind node.bytes h) (filter (λ node. node.server == server) lists.nodes)
    (All-filter (λ node. node.server == server) (λ (node : NodeItem). IsMade node.kind) lists.nodes apart.nodes)))
    (All-map (λ named. HasEnd (start_of lists) (row_of_named named)) mount_named (filter (λ mount. mount.1.server == server) (mounts_of lists))
    (All-weaker (Contains (mounts_of lists)) (λ mount. HasEnd (start_of lists) (row_of_named (mount_named mount))) (λ mount h. mount_row lists mount h) (filter (λ mount. mount.1.server == server) (mounts_of lists))
    (All-filter (λ mount. mount.1.server == server) (Contains (mounts_of lists)) (mounts_of lists) (All-contains_itself (mounts_of lists)))))

tree_rows : (lists : Lists) (server : ℕ) → AreApart lists → AreMounted (start_of lists) (tree_of lists server)
tree_rows lists server apart =
    All-cons (HasEnd (start_of lists)) (record { kind = Directory; bytes = [] }) (map row_of_named (named_of lists server)) (made_row (start_of lists) Directory [] tt)
    (All-map (HasEnd (start_of lists)) row_of_named (named_of lists server) (named_rows lists server apart))

end_no_client : (index : ℕ) → is_client (end_of_mount index) ≡ false
end_no_client index = and_right (nat_lt 0 (end_of_mount index)) (nat_lt (end_of_mount index) 0x40000000) (le-ltb (end_of_mount index) 0x40000000 (omega arith))

always : {X : Type 0} (P : X → Type 0) → ((x : X) → P x) → (xs : List X) → All P xs
always P h [] = All-nil P
always P h (x ∷ xs) = All-cons P x xs (h x) (always P h xs)

later_mounts : (n : ℕ) (mounts : List MountItem) → All (λ mount. n ≤ mount.0) (enumerate_from n mounts)
later_mounts n [] = All-nil (λ (mount : ℕ × MountItem). n ≤ mount.0)
later_mounts n (mount ∷ mounts) =
    All-cons (λ (m : ℕ × MountItem). n ≤ m.0) (n, mount) (enumerate_from (n + 1) mounts) (omega arith)
    (All-weaker (λ (m : ℕ × MountItem). n + 1 ≤ m.0) (λ (m : ℕ × MountItem). n ≤ m.0) (λ m l. omega arith) (enumerate_from (n + 1) mounts) (later_mounts (n + 1) mounts))

other_mounts : (n : ℕ) (mounts : List MountItem) → AllPairs (λ one other. end_of_mount one.0 ≢ end_of_mount other.0) (enumerate_from n mounts)
other_mounts n [] = λ i j d l m. absurd (omega arith)
other_mounts n (mount ∷ mounts) =
    AllPairs-cons (λ (one other : ℕ × MountItem). end_of_mount one.0 ≢ end_of_mount other.0) (n, mount) (enumerate_from (n + 1) mounts)
    (All-weaker (λ (m : ℕ × MountItem). n + 1 ≤ m.0) (λ (m : ℕ × MountItem). end_of_mount n ≢ end_of_mount m.0) (λ m l e. omega arith) (enumerate_from (n + 1) mounts) (later_mounts (n + 1) mounts))
    (other_mounts (n + 1) mounts)

kinds_apart : (firsts ends : List Bound) → All (λ bound. is_client bound.endpoint ≡ true) firsts → All (λ bound. is_client bound.endpoint ≡ false) ends → All (λ one. All (OtherEndpoint one) ends) firsts
kinds_apart firsts ends a b =
    All-weaker (λ (bound : Bound). is_client bound.endpoint ≡ true) (λ one. All (OtherEndpoint one) ends)
    (λ one client. All-weaker (λ (bound : Bound). is_client bound.endpoint ≡ false) (OtherEndpoint one) (λ other end same. true≢false (sym client ∙ ap is_client same ∙ end)) ends b)
    firsts a

client_firsts : (lists : Lists) → AreApart lists → All (λ bound. is_client bound.endpoint ≡ true) (map (first_of_client lists) lists.clients)
client_firsts lists apart = All-map (λ (bound : Bound). is_client bound.endpoint ≡ true) (first_of_client lists) lists.clients apart.clients

other_ends : (lists : Lists) → All (λ bound. is_client bound.endpoint ≡ false) (map (end_of lists) (mounts_of lists))
other_ends lists = All-map (λ (bound : Bound). is_client bound.endpoint ≡ false) (end_of lists) (mounts_of lists) (always (λ (mount : ℕ × MountItem). is_client (end_of_mount mount.0) ≡ false) (λ mount. end_no_client mount.0) (mounts_of lists))

-- ---- the trees by their servers

abbrev trees_in : Lists → List Tree
trees_in lists = (start_of lists).trees

-- a server's tree; the tree of no server is bare
tree_there : (lists : Lists) (server : ℕ) → server < length lists.servers → tree_at (trees_in lists) server ≡ tree_of lists server
tree_there lists server within = get_or-map-range_with_len (tree_of lists) 0 (length lists.servers) server server bare_tree within (omega arith)

many_trees : (lists : Lists) → length (trees_in lists) ≡ length lists.servers
many_trees lists = length-map-range_with_len (tree_of lists) 0 (length lists.servers)

tree_beyond : (lists : Lists) (server : ℕ) → length lists.servers ≤ server → tree_at (trees_in lists) server ≡ bare_tree
tree_beyond lists server beyond = get_or_beyond (trees_in lists) server bare_tree (let many = many_trees lists in omega (arith, many, beyond)) where
  get_or_beyond : (trees : List Tree) (k : ℕ) (bare : Tree) → length trees ≤ k → slice_index_or trees k bare ≡ bare
  get_or_beyond [] k bare h = refl
  get_or_beyond (tree ∷ trees) zero bare h = absurd (omega arith)
  get_or_beyond (tree ∷ trees) (suc k) bare h = get_or_beyond trees k bare (omega (arith, h))

trees_sound : (lists : Lists) → AreSound lists → All IsSound (trees_in lists)
trees_sound lists sound k d within =
    let low : k < length lists.servers = (let many = many_trees lists in omega (arith, many, within)) in
    subst IsSound (sym (get_or-map-range_with_len (tree_of lists) 0 (length lists.servers) k k d low (omega arith))) (sound.trees k low)

-- a root, and a node for each name that an accepted server has
trees_small : (lists : Lists) → AreSound lists → All (λ tree. length tree.nodes ≤ 1 + limit.MAX_NAMES) (trees_in lists)
trees_small lists sound k d within =
    let low : k < length lists.servers = (let many = many_trees lists in omega (arith, many, within)) in
    subst (λ (tree : Tree). length tree.nodes ≤ 1 + limit.MAX_NAMES) (sym (get_or-map-range_with_len (tree_of lists) 0 (length lists.servers) k k d low (omega arith)))
    (let few = sound.names k low in
    let held = named_count lists k in
    let rows = length-map (named_of lists k) row_of_named in
    omega (arith, few, held, rows))

-- no mount is in the bare tree
no_mount : (node index : ℕ) → kind_of bare_tree node ≡ Some (Mount index) → ⊥
no_mount zero index e = absurd (cc)
no_mount (suc zero) index e = absurd (cc)
no_mount (suc (suc node)) index e = absurd (cc)

-- ---- what is bound

on_directory : (lists : Lists) (server : ℕ) (path : List ℕ) (endpoint : ℕ) (rights : OperationSet) → server < length lists.servers → IsDirectoryAt lists server path →
    IsOnDirectory (trees_in lists) (record { endpoint = endpoint; server = server; birth = directory_birth (number_in lists server path) rights; mask = 0 })
on_directory lists server path endpoint rights within at = record {
  server = let many = many_trees lists in omega (arith, many, within);
  node = ap (λ (tree : Tree). kind_of tree (number_in lists server path)) (tree_there lists server within) ∙ at;
  protocol = refl;
  mask = refl;
}

all_placed : (lists : Lists) → AreSound lists → All (IsOnDirectory (trees_in lists)) ((start_of lists).firsts ++ (start_of lists).mounts)
all_placed lists sound =
    All-append (IsOnDirectory (trees_in lists)) (map (first_of_client lists) lists.clients) (map (end_of lists) (mounts_of lists))
    (All-map (IsOnDirectory (trees_in lists)) (first_of_client lists) lists.clients
    (All-weaker (λ (client : ClientItem). (client.server < length lists.servers) × IsDirectoryAt lists client.server client.path) (λ client. IsOnDirectory (trees_in lists) (first_of_client lists client))
    (λ client h. on_directory lists client.server client.path client.endpoint client.rights h.0 h.1) lists.clients
    (both_hold (λ (client : ClientItem). client.server < length lists.servers) (λ client. IsDirectoryAt lists client.server client.path) lists.clients sound.servers.clients sound.clients)))
    (All-map (IsOnDirectory (trees_in lists)) (end_of lists) (mounts_of lists)
    (All-weaker (λ (mount : ℕ × MountItem). (mount.1.target < length lists.servers) × IsDirectoryAt lists mount.1.target mount.1.at) (λ mount. IsOnDirectory (trees_in lists) (end_of lists mount))
    (λ mount h. on_directory lists mount.1.target mount.1.at (end_of_mount mount.0) mount.1.rights h.0 h.1) (mounts_of lists)
    (all_numbered (λ (mount : MountItem). (mount.target < length lists.servers) × IsDirectoryAt lists mount.target mount.at) 0 lists.mounts
    (both_hold (λ (mount : MountItem). mount.target < length lists.servers) (λ mount. IsDirectoryAt lists mount.target mount.at) lists.mounts sound.servers.targets sound.targets))))

-- ---- mounts

mount_at : (lists : Lists) (n : ℕ) (mounts : List MountItem) (index : ℕ) (end : Bound) → slice_get (map (end_of lists) (enumerate_from n mounts)) index ≡ Some end →
    (mount : MountItem) × (slice_get mounts index ≡ Some mount) × (end ≡ end_of lists (n + index, mount))
mount_at lists n [] index end e = absurd (cc)
mount_at lists n (mount ∷ mounts) zero end e = (mount, refl, (let same : end_of lists (n, mount) ≡ end = cc in let at : n ≡ n + 0 = omega arith in sym same ∙ ap (λ (m : ℕ). end_of lists (m, mount)) at))
mount_at lists n (mount ∷ mounts) (suc index) end e =
    let rest = mount_at lists (n + 1) mounts index end e in
    (rest.0, rest.1, (let at : n + 1 + index ≡ n + suc index = omega arith in rest.2 ∙ ap (λ (m : ℕ). end_of lists (m, rest.0)) at))

mounted_once : (lists : Lists) → AreSound lists → AreMountedOnce (start_of lists) (trees_in lists)
mounted_once lists sound index end there =
    let at = mount_at lists 0 lists.mounts index end there in
    let mount = at.0 in
    let within : mount.server < length lists.servers = in_range lists.mounts index mount at.1 sound.servers.mounts in
    record {
      host = mount.server;
      edge = subst (λ (tree : Tree). HasOneEdge tree index end.birth.rights) (sym (tree_there lists mount.server within))
          (subst (λ (bound : Bound). HasOneEdge (tree_of lists mount.server) index bound.birth.rights) (sym at.2) (sound.edges index mount at.1));
      alone = λ server node e. by_range mount at.1 server node e (cases_below server (length lists.servers));
    } where
      in_range : (mounts : List MountItem) (k : ℕ) (mount : MountItem) → slice_get mounts k ≡ Some mount → All (λ (m : MountItem). m.server < length lists.servers) mounts → mount.server < length lists.servers
      in_range [] k mount e h = absurd (cc)
      in_range (m ∷ mounts) zero mount e h = let same : m ≡ mount = cc in subst (λ (x : MountItem). x.server < length lists.servers) same (All-head (λ (x : MountItem). x.server < length lists.servers) m mounts h)
      in_range (m ∷ mounts) (suc k) mount e h = in_range mounts k mount e (All-tail (λ (x : MountItem). x.server < length lists.servers) m mounts h)

      cases_below : (a b : ℕ) → (a < b) ⊎ (b ≤ a)
      cases_below a b = by_order (cases_order a b) where
        by_order : (a ≡ b) ⊎ ((a < b) ⊎ (b < a)) → (a < b) ⊎ (b ≤ a)
        by_order (inl e) = inr (omega (arith, e))
        by_order (inr (inl l)) = inl l
        by_order (inr (inr l)) = inr (omega (arith, l))

      by_range : (mount : MountItem) → slice_get lists.mounts index ≡ Some mount → (server node : ℕ) → kind_of (tree_at (trees_in lists) server) node ≡ Some (Mount index) → (server < length lists.servers) ⊎ (length lists.servers ≤ server) → server ≡ mount.server
      by_range mount is server node e (inl within) =
          let other = sound.mounts server node index (ap (λ (tree : Tree). kind_of tree node) (sym (tree_there lists server within)) ∙ e) in
          let same : other.0 ≡ mount = (let f = other.1 in cc) in
          sym other.2 ∙ ap (λ (m : MountItem). m.server) same
      by_range mount is server node e (inr beyond) = absurd (no_mount node index (ap (λ (tree : Tree). kind_of tree node) (sym (tree_beyond lists server beyond)) ∙ e))

-- ---- room

abbrev count_at : ℕ → List Bound → ℕ
count_at server bounds = count_by (λ bound. bound.server == server) bounds

count_clients : (lists : Lists) (server : ℕ) (clients : List ClientItem) → count_at server (map (first_of_client lists) clients) ≡ count_by (λ client. client.server == server) clients
count_clients lists server [] = refl
count_clients lists server (client ∷ clients) =
    sum_by-cons (λ (bound : Bound). cond (bound.server == server) 1 0) (first_of_client lists client) (map (first_of_client lists) clients)
    ∙ ap (λ (n : ℕ). cond (client.server == server) 1 0 + n) (count_clients lists server clients)
    ∙ sym (sum_by-cons (λ (c : ClientItem). cond (c.server == server) 1 0) client clients)

count_mounts : (lists : Lists) (server n : ℕ) (mounts : List MountItem) → count_at server (map (end_of lists) (enumerate_from n mounts)) ≡ count_by (λ mount. mount.target == server) mounts
count_mounts lists server n [] = refl
count_mounts lists server n (mount ∷ mounts) =
    sum_by-cons (λ (bound : Bound). cond (bound.server == server) 1 0) (end_of lists (n, mount)) (map (end_of lists) (enumerate_from (n + 1) mounts))
    ∙ ap (λ (m : ℕ). cond (mount.target == server) 1 0 + m) (count_mounts lists server (n + 1) mounts)
    ∙ sym (sum_by-cons (λ (m : MountItem). cond (m.target == server) 1 0) mount mounts)

zero_more : (n : ℕ) → 0 + n ≡ n
zero_more n = omega arith

count_none : (server most : ℕ) (bounds : List Bound) → most ≤ server → All (λ (bound : Bound). bound.server < most) bounds → count_at server bounds ≡ 0
count_none server most [] beyond low = refl
count_none server most (b ∷ bounds) beyond low =
    let here : b.server < most = All-head (λ (bound : Bound). bound.server < most) b bounds low in
    sum_by-cons (λ (bound : Bound). cond (bound.server == server) 1 0) b bounds
    ∙ ap (λ (t : Bool). cond t 1 0 + count_at server bounds) (ne_eqb b.server server (λ e. omega (arith, e, here, beyond)))
    ∙ zero_more (count_at server bounds)
    ∙ count_none server most bounds beyond (All-tail (λ (bound : Bound). bound.server < most) b bounds low)

has_room : (lists : Lists) → AreSound lists → HasRoom (start_of lists)
has_room lists sound server = by_range (cases_below server (length lists.servers)) where
  cases_below : (a b : ℕ) → (a < b) ⊎ (b ≤ a)
  cases_below a b = by_order (cases_order a b) where
    by_order : (a ≡ b) ⊎ ((a < b) ⊎ (b < a)) → (a < b) ⊎ (b ≤ a)
    by_order (inl e) = inr (omega (arith, e))
    by_order (inr (inl l)) = inl l
    by_order (inr (inr l)) = inr (omega (arith, l))

  all : List Bound
  all = (start_of lists).firsts ++ (start_of lists).mounts

  by_range : (server < length lists.servers) ⊎ (length lists.servers ≤ server) → count_at server ((start_of lists).firsts ++ (start_of lists).mounts) ≤ limit.MAX_CONNECTIONS
  by_range (inl within) =
      let few = sound.connections server within in
      let parts = sum_by-append (λ (bound : Bound). cond (bound.server == server) 1 0) (start_of lists).firsts (start_of lists).mounts in
      let clients = count_clients lists server lists.clients in
      let mounts = count_mounts lists server 0 lists.mounts in
      omega (arith, few, parts, clients, mounts)
  by_range (inr beyond) =
      let none = count_none server (length (trees_in lists)) ((start_of lists).firsts ++ (start_of lists).mounts) (let many = many_trees lists in omega (arith, many, beyond))
      (All-weaker (IsOnDirectory (trees_in lists)) (λ (bound : Bound). bound.server < length (trees_in lists)) (λ bound h. h.server) ((start_of lists).firsts ++ (start_of lists).mounts) (all_placed lists sound)) in
      omega (arith, none)

start_apart : (lists : Lists) → AreApart lists → AreSound lists → All HasNames (start_of lists).trees → All HasBytes (start_of lists).trees → IsStart (start_of lists)
start_apart lists apart sound names bytes = record {
  names = names;
  bytes = bytes;
  few = let many = many_trees lists in let few' = sound.servers.few in omega (arith, many, few');
  trees = trees_sound lists sound;
  small = trees_small lists sound;
  numbered = mounts_in_order lists 0 lists.mounts;
  placed = all_placed lists sound;
  edges = mounted_once lists sound;
  room = has_room lists sound;
  apart = pairs-append OtherEndpoint (map (first_of_client lists) lists.clients) (map (end_of lists) (mounts_of lists))
      (pairs-map OtherEndpoint (first_of_client lists) lists.clients apart.distinct)
      (pairs-map OtherEndpoint (end_of lists) (mounts_of lists) (other_mounts 0 lists.mounts))
      (kinds_apart (map (first_of_client lists) lists.clients) (map (end_of lists) (mounts_of lists)) (client_firsts lists apart) (other_ends lists));
  firsts = All-map (λ (bound : Bound). is_client bound.endpoint ≡ true) (first_of_client lists) lists.clients apart.clients;
  ends = All-map (λ (bound : Bound). is_client bound.endpoint ≡ false) (end_of lists) (mounts_of lists) (always (λ (mount : ℕ × MountItem). is_client (end_of_mount mount.0) ≡ false) (λ mount. end_no_client mount.0) (mounts_of lists));
  mounted = All-map (AreMounted (start_of lists)) (tree_of lists) (range_with_len 0 (length lists.servers)) (always (λ server. AreMounted (start_of lists) (tree_of lists server)) (λ server. tree_rows lists server apart) (range_with_len 0 (length lists.servers)));
}

pub accepted_starts_are_starts : (lists : Lists) → AreAccepted lists → HasFilesOfBytes lists → IsStart (start_of lists)
accepted_starts_are_starts lists accepted files =
    start_apart lists (lists_apart lists accepted) (start_sound lists accepted) (starts_have_names lists accepted) (starts_have_bytes lists accepted files)

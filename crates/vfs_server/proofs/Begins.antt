-- What a server of an accepted file begins with.
use Rattle.std.proofs.Common.{◌≡◌, ◌≢◌, ℕ, zero, suc, ◌+◌, ◌<◌, ◌≤◌, ◌==◌, nat_lt, true, false, cond, List, [], ◌∷◌, ◌++◌, length, map, filter, take, drop, get_or, Some, None, All, AllPairs, refl, sym, ap, ◌∙◌, subst, arith, append_assoc, append-nil, length-append}
use Rattle.std.specs.Prelude.{slice_get, find}
use Rattle.std.specs.List.{count_by, enumerate_from}
use Rattle.std.proofs.lemmas.Bool.{and_right, eq-eqb, le-ltb, ne_eqb, true≢false}
use Rattle.std.proofs.lemmas.List.{length-map, take_all}
use Rattle.std.proofs.lemmas.List.Elements.{All-append, All-cons, All-filter, All-get_or, All-head, All-map, All-nil, All-tail, All-weaker, filter-append}
use Rattle.std.proofs.lemmas.List.FromFn.{length-enumerate_from}
use Rattle.std.proofs.lemmas.List.Kept.{AllPairs-cons, AllPairs-filter}
use Rattle.std.proofs.lemmas.List.Sums.{length-filter, sum_by-cons}
use Rattle.std.proofs.lemmas.Option.{slice_get_within, get_or_from_slice_get}
use Rattle.fidl_names.specs.HandleNumber.{end_of_mount, is_client}
use Rattle.fidl_names.specs.declared.limits.TheConstants as limit
use Rattle.io_messages.specs.declared.protocols.Protocol.TheVariants as protocol
use Rattle.node_graph.specs.declared.nodes.NodeKind.TheVariants.{Directory}
use Rattle.node_graph.specs.Tree.{kind_of}
use Rattle.session_start.specs.Accepted.{AreAccepted, IsClient}
use Rattle.session_start.specs.Items.{MountItem, ClientItem, Lists}
use Rattle.session_start.specs.Numbering.{tree_of}
use Rattle.session_start.specs.RulesOnLists.{connections_held}
use Rattle.session_start.specs.Sound.{IsDirectoryAt}
use Rattle.session_start.proofs.Accepted.{few_connections}
use Rattle.session_start.proofs.Found.{enumerate_at}
use Rattle.session_start.proofs.Soundness.{clients_stand, targets_stand}
use Rattle.vfs_journal.specs.History.{is_watcher}
use Rattle.vfs_journal.specs.Starts.{Bound, end_of, first_of_client}
use Rattle.vfs_server.specs.Beginning.{begins_with, bound_among, clients_among, ends_among}
use Rattle.session_start.proofs.Chosen.{chosen_more, chosen_same, chosen_split, enumerated, filter-map, found_none, get_or_behind, get_or_before, within_behind}

abbrev pub OtherEndpoint : Bound → Bound → Type 0
OtherEndpoint one other = one.endpoint ≢ other.endpoint

abbrev pub firsts_of : Lists → List Bound
firsts_of lists = map (first_of_client lists) lists.clients

abbrev pub ends_of : Lists → List Bound
ends_of lists = map (end_of lists) (enumerate_from 0 lists.mounts)

-- ---- pairs

pub pairs-head : {X : Type 0} (R : X → X → Type 0) (x : X) (xs : List X) → AllPairs R (x ∷ xs) → All (R x) xs
pairs-head R x xs h = λ k d within. h 0 (suc k) d (omega arith) (omega arith)

pub pairs-tail : {X : Type 0} (R : X → X → Type 0) (x : X) (xs : List X) → AllPairs R (x ∷ xs) → AllPairs R xs
pairs-tail R x xs h = λ i j d before within. h (suc i) (suc j) d (omega arith) (omega arith)

pairs-append : {X : Type 0} (R : X → X → Type 0) (xs ys : List X) → AllPairs R xs → AllPairs R ys → All (λ x. All (R x) ys) xs → AllPairs R (xs ++ ys)
pairs-append R [] ys a b c = b
pairs-append R (x ∷ xs) ys a b c =
    AllPairs-cons R x (xs ++ ys) (All-append (R x) xs ys (pairs-head R x xs a) (All-head (λ z. All (R z) ys) x xs c))
    (pairs-append R xs ys (pairs-tail R x xs a) b (All-tail (λ z. All (R z) ys) x xs c))

pairs-map : {X Y : Type 0} (R : Y → Y → Type 0) (f : X → Y) (xs : List X) → AllPairs (λ a b. R (f a) (f b)) xs → AllPairs R (map f xs)
pairs-map R f [] a = λ i j d l m. absurd (omega arith)
pairs-map R f (x ∷ xs) a =
    AllPairs-cons R (f x) (map f xs) (All-map (R (f x)) f xs (pairs-head (λ b c. R (f b) (f c)) x xs a)) (pairs-map R f xs (pairs-tail (λ b c. R (f b) (f c)) x xs a))

-- ---- endpoints are apart

later_mounts : (n : ℕ) (mounts : List MountItem) → All (λ mount. n ≤ mount.0) (enumerate_from n mounts)
later_mounts n [] = All-nil (λ (mount : ℕ × MountItem). n ≤ mount.0)
later_mounts n (mount ∷ mounts) =
    All-cons (λ (m : ℕ × MountItem). n ≤ m.0) (n, mount) (enumerate_from (n + 1) mounts) (omega arith)
    (All-weaker (λ (m : ℕ × MountItem). n + 1 ≤ m.0) (λ (m : ℕ × MountItem). n ≤ m.0) (λ m l. omega arith) (enumerate_from (n + 1) mounts) (later_mounts (n + 1) mounts))

other_mounts : (n : ℕ) (mounts : List MountItem) → AllPairs (λ one other. end_of_mount one.0 ≢ end_of_mount other.0) (enumerate_from n mounts)
other_mounts n [] = λ i j d l m. absurd (omega arith)
other_mounts n (mount ∷ mounts) =
    AllPairs-cons (λ (one other : ℕ × MountItem). end_of_mount one.0 ≢ end_of_mount other.0) (n, mount) (enumerate_from (n + 1) mounts)
    (All-weaker (λ (m : ℕ × MountItem). n + 1 ≤ m.0) (λ (m : ℕ × MountItem). end_of_mount n ≢ end_of_mount m.0) (λ m l e. omega arith) (enumerate_from (n + 1) mounts) (later_mounts (n + 1) mounts))
    (other_mounts (n + 1) mounts)

end_no_client : (index : ℕ) → is_client (end_of_mount index) ≡ false
end_no_client index = and_right (nat_lt 0 (end_of_mount index)) (nat_lt (end_of_mount index) 0x40000000) (le-ltb (end_of_mount index) 0x40000000 (omega arith))

always : {X : Type 0} (P : X → Type 0) → ((x : X) → P x) → (xs : List X) → All P xs
always P h [] = All-nil P
always P h (x ∷ xs) = All-cons P x xs (h x) (always P h xs)

kinds_apart : (firsts ends : List Bound) → All (λ bound. is_client bound.endpoint ≡ true) firsts → All (λ bound. is_client bound.endpoint ≡ false) ends → All (λ one. All (OtherEndpoint one) ends) firsts
kinds_apart firsts ends a b =
    All-weaker (λ (bound : Bound). is_client bound.endpoint ≡ true) (λ one. All (OtherEndpoint one) ends)
    (λ one client. All-weaker (λ (bound : Bound). is_client bound.endpoint ≡ false) (OtherEndpoint one) (λ other end same. true≢false (sym client ∙ ap is_client same ∙ end)) ends b)
    firsts a

module _ (lists : Lists) (accepted : AreAccepted lists) where
  pub apart : AllPairs OtherEndpoint (firsts_of lists ++ ends_of lists)
  apart =
      pairs-append OtherEndpoint (firsts_of lists) (ends_of lists)
      (pairs-map OtherEndpoint (first_of_client lists) lists.clients accepted.items.apart)
      (pairs-map OtherEndpoint (end_of lists) (enumerate_from 0 lists.mounts) (other_mounts 0 lists.mounts))
      (kinds_apart (firsts_of lists) (ends_of lists)
      (All-map (λ (bound : Bound). is_client bound.endpoint ≡ true) (first_of_client lists) lists.clients
      (All-weaker (IsClient (length lists.servers)) (λ (client : ClientItem). is_client client.endpoint ≡ true) (λ client h. h.endpoint) lists.clients accepted.items.clients))
      (All-map (λ (bound : Bound). is_client bound.endpoint ≡ false) (end_of lists) (enumerate_from 0 lists.mounts) (always (λ (mount : ℕ × MountItem). is_client (end_of_mount mount.0) ≡ false) (λ mount. end_no_client mount.0) (enumerate_from 0 lists.mounts))))

  -- ---- each stands on a directory

  ends_stand : All (λ mount. IsDirectoryAt lists mount.1.target mount.1.at) (enumerate_from 0 lists.mounts)
  ends_stand =
      All-weaker (λ (item : ℕ × MountItem). (k : ℕ) × (item.0 ≡ 0 + k) × (slice_get lists.mounts k ≡ Some item.1)) (λ (mount : ℕ × MountItem). IsDirectoryAt lists mount.1.target mount.1.at)
      (λ item at.
      let within = slice_get_within lists.mounts at.0 item.1 at.2 in
      subst (λ (mount : MountItem). IsDirectoryAt lists mount.target mount.at) (get_or_from_slice_get lists.mounts at.0 item.1 item.1 at.2)
      (All-get_or (λ (mount : MountItem). IsDirectoryAt lists mount.target mount.at) lists.mounts at.0 item.1 within (targets_stand lists accepted)))
      (enumerate_from 0 lists.mounts) (enumerate_at 0 lists.mounts)

  all_stand : All (λ bound. kind_of (tree_of lists bound.server) bound.birth.node ≡ Some Directory) (firsts_of lists ++ ends_of lists)
  all_stand =
      All-append (λ (bound : Bound). kind_of (tree_of lists bound.server) bound.birth.node ≡ Some Directory) (firsts_of lists) (ends_of lists)
      (All-map (λ (bound : Bound). kind_of (tree_of lists bound.server) bound.birth.node ≡ Some Directory) (first_of_client lists) lists.clients (clients_stand lists accepted))
      (All-map (λ (bound : Bound). kind_of (tree_of lists bound.server) bound.birth.node ≡ Some Directory) (end_of lists) (enumerate_from 0 lists.mounts) ends_stand)

  -- ---- what a server begins with

  module _ (index : ℕ) (within : index < length lists.servers) where
    count_ends : (n : ℕ) (mounts : List MountItem) → count_by (λ (mount : ℕ × MountItem). mount.1.target == index) (enumerate_from n mounts) ≡ count_by (λ (mount : MountItem). mount.target == index) mounts
    count_ends n [] = refl
    count_ends n (mount ∷ mounts) =
        let rest = count_ends (n + 1) mounts in
        let one = sum_by-cons (λ (m : ℕ × MountItem). cond {A = ℕ} (m.1.target == index) 1 0) (n, mount) (enumerate_from (n + 1) mounts) in
        let other = sum_by-cons (λ (m : MountItem). cond {A = ℕ} (m.target == index) 1 0) mount mounts in
        omega (arith, rest, one, other)

    length_begins : length (begins_with lists index) ≡ connections_held lists.mounts lists.clients index
    length_begins =
        let split = ap (λ (bounds : List Bound). length bounds) (filter-append (λ (bound : Bound). bound.server == index) (firsts_of lists) (ends_of lists)) in
        let both = length-append (filter (λ (bound : Bound). bound.server == index) (firsts_of lists)) (filter (λ (bound : Bound). bound.server == index) (ends_of lists)) in
        let firsts = ap (λ (bounds : List Bound). length bounds) (filter-map (first_of_client lists) (λ (bound : Bound). bound.server == index) lists.clients) in
        let ends = ap (λ (bounds : List Bound). length bounds) (filter-map (end_of lists) (λ (bound : Bound). bound.server == index) (enumerate_from 0 lists.mounts)) in
        let clients = length-map (filter (λ (client : ClientItem). client.server == index) lists.clients) (first_of_client lists) in
        let mounts = length-map (filter (λ (mount : ℕ × MountItem). mount.1.target == index) (enumerate_from 0 lists.mounts)) (end_of lists) in
        let a = length-filter (λ (client : ClientItem). client.server == index) lists.clients in
        let b = length-filter (λ (mount : ℕ × MountItem). mount.1.target == index) (enumerate_from 0 lists.mounts) in
        let c = count_ends 0 lists.mounts in
        omega (arith, split, both, firsts, ends, clients, mounts, a, b, c)

    pub few_begin : length (begins_with lists index) ≤ limit.MAX_CONNECTIONS
    few_begin =
        let held = few_connections lists accepted index within in
        let size = length_begins in
        omega (arith, held, size)

    module _ (bounds : List Bound) (bound : Bound) (later : List Bound) (whole : begins_with lists index ≡ bounds ++ bound ∷ later) where
      pub few_before : length bounds < limit.MAX_CONNECTIONS
      few_before =
          let few = few_begin in
          let size = ap (λ (all : List Bound). length all) whole in
          let behind = within_behind bounds bound later in
          omega (arith, few, size, behind)

      pub stands_on : kind_of (tree_of lists bound.server) bound.birth.node ≡ Some Directory
      stands_on =
          let all = subst (All (λ (one : Bound). kind_of (tree_of lists one.server) one.birth.node ≡ Some Directory)) whole
          (All-filter (λ (one : Bound). one.server == index) (λ (one : Bound). kind_of (tree_of lists one.server) one.birth.node ≡ Some Directory) (firsts_of lists ++ ends_of lists) all_stand) in
          subst (λ (one : Bound). kind_of (tree_of lists one.server) one.birth.node ≡ Some Directory) (get_or_behind bounds bound later)
          (All-get_or (λ (one : Bound). kind_of (tree_of lists one.server) one.birth.node ≡ Some Directory) (bounds ++ bound ∷ later) (length bounds) bound (within_behind bounds bound later) all)

      pub not_before : find (λ (one : Bound). one.endpoint == bound.endpoint) bounds ≡ None
      not_before =
          found_none (λ (one : Bound). one.endpoint == bound.endpoint) bounds (λ k d inside.
          let pairs = subst (AllPairs OtherEndpoint) whole (AllPairs-filter OtherEndpoint (λ (one : Bound). one.server == index) (firsts_of lists ++ ends_of lists) apart) in
          let other = pairs k (length bounds) bound inside (within_behind bounds bound later) in
          let here : get_or (bounds ++ bound ∷ later) (length bounds) bound ≡ bound = get_or_behind bounds bound later in
          let there : get_or (bounds ++ bound ∷ later) k bound ≡ get_or bounds k bound = get_or_before bounds (bound ∷ later) k bound inside in
          let same : get_or bounds k bound ≡ get_or bounds k d = default_same bounds k bound d inside in
          ne_eqb (get_or bounds k d).endpoint bound.endpoint (λ is. other (ap (λ (one : Bound). one.endpoint) (there ∙ same) ∙ is ∙ ap (λ (one : Bound). one.endpoint) (sym here))))
        where
          default_same : (xs : List Bound) (k : ℕ) (x y : Bound) → k < length xs → get_or xs k x ≡ get_or xs k y
          default_same [] k x y inside = absurd (omega arith)
          default_same (b ∷ xs) zero x y inside = refl
          default_same (b ∷ xs) (suc k) x y inside = default_same xs k x y (omega arith)

-- ---- one by one

module _ (lists : Lists) (index item : ℕ) where
  module _ (client : ClientItem) (there : slice_get lists.clients item ≡ Some client) where
    pub clients_more : client.server ≡ index → clients_among lists index (item + 1) ≡ clients_among lists index item ++ first_of_client lists client ∷ []
    clients_more is =
        filter-map (first_of_client lists) (λ (bound : Bound). bound.server == index) (take (item + 1) lists.clients)
        ∙ chosen_more (first_of_client lists) (λ (one : ClientItem). one.server == index) lists.clients item client there (eq-eqb client.server index is)
        ∙ ap (λ (bounds : List Bound). bounds ++ first_of_client lists client ∷ []) (sym (filter-map (first_of_client lists) (λ (bound : Bound). bound.server == index) (take item lists.clients)))

    pub clients_same : (client.server ≡ index → ⊥) → clients_among lists index (item + 1) ≡ clients_among lists index item
    clients_same isnt =
        filter-map (first_of_client lists) (λ (bound : Bound). bound.server == index) (take (item + 1) lists.clients)
        ∙ chosen_same (first_of_client lists) (λ (one : ClientItem). one.server == index) lists.clients item client there (ne_eqb client.server index isnt)
        ∙ sym (filter-map (first_of_client lists) (λ (bound : Bound). bound.server == index) (take item lists.clients))

    pub clients_split : client.server ≡ index → (later : List Bound) × (begins_with lists index ≡ clients_among lists index item ++ first_of_client lists client ∷ later)
    clients_split is =
        let tail : List Bound = map (first_of_client lists) (filter (λ (one : ClientItem). one.server == index) (drop (suc item) lists.clients)) in
        let ends : List Bound = filter (λ (bound : Bound). bound.server == index) (ends_of lists) in (
          tail ++ ends,
          filter-append (λ (bound : Bound). bound.server == index) (firsts_of lists) (ends_of lists)
              ∙ ap (λ (bounds : List Bound). bounds ++ ends)
              (filter-map (first_of_client lists) (λ (bound : Bound). bound.server == index) lists.clients
              ∙ chosen_split (first_of_client lists) (λ (one : ClientItem). one.server == index) lists.clients item client there (eq-eqb client.server index is)
              ∙ ap (λ (bounds : List Bound). bounds ++ first_of_client lists client ∷ tail) (sym (filter-map (first_of_client lists) (λ (bound : Bound). bound.server == index) (take item lists.clients))))
              ∙ append_assoc (clients_among lists index item) (first_of_client lists client ∷ tail) ends,
        )

  module _ (mount : MountItem) (there : slice_get lists.mounts item ≡ Some mount) where
    listed : slice_get (enumerate_from 0 lists.mounts) item ≡ Some (item, mount)
    listed =
        let here : 0 + item ≡ item = omega arith in
        enumerated 0 lists.mounts item mount there ∙ ap (λ n. Some (n, mount)) here

    pub ends_more : mount.target ≡ index → bound_among lists index (item + 1) ≡ bound_among lists index item ++ end_of lists (item, mount) ∷ []
    ends_more is =
        ap (λ (bounds : List Bound). clients_among lists index (length lists.clients) ++ bounds)
        (filter-map (end_of lists) (λ (bound : Bound). bound.server == index) (take (item + 1) (enumerate_from 0 lists.mounts))
        ∙ chosen_more (end_of lists) (λ (one : ℕ × MountItem). one.1.target == index) (enumerate_from 0 lists.mounts) item (item, mount) listed (eq-eqb mount.target index is)
        ∙ ap (λ (bounds : List Bound). bounds ++ end_of lists (item, mount) ∷ []) (sym (filter-map (end_of lists) (λ (bound : Bound). bound.server == index) (take item (enumerate_from 0 lists.mounts)))))
        ∙ sym (append_assoc (clients_among lists index (length lists.clients)) (ends_among lists index item) (end_of lists (item, mount) ∷ []))

    pub ends_same : (mount.target ≡ index → ⊥) → bound_among lists index (item + 1) ≡ bound_among lists index item
    ends_same isnt =
        ap (λ (bounds : List Bound). clients_among lists index (length lists.clients) ++ bounds)
        (filter-map (end_of lists) (λ (bound : Bound). bound.server == index) (take (item + 1) (enumerate_from 0 lists.mounts))
        ∙ chosen_same (end_of lists) (λ (one : ℕ × MountItem). one.1.target == index) (enumerate_from 0 lists.mounts) item (item, mount) listed (ne_eqb mount.target index isnt)
        ∙ sym (filter-map (end_of lists) (λ (bound : Bound). bound.server == index) (take item (enumerate_from 0 lists.mounts))))

    pub ends_split : mount.target ≡ index → (later : List Bound) × (begins_with lists index ≡ bound_among lists index item ++ end_of lists (item, mount) ∷ later)
    ends_split is =
        let tail : List Bound = map (end_of lists) (filter (λ (one : ℕ × MountItem). one.1.target == index) (drop (suc item) (enumerate_from 0 lists.mounts))) in (
          tail,
          filter-append (λ (bound : Bound). bound.server == index) (firsts_of lists) (ends_of lists)
              ∙ ap (λ (bounds : List Bound). bounds ++ filter (λ (bound : Bound). bound.server == index) (ends_of lists)) (sym all_clients)
              ∙ ap (λ (bounds : List Bound). clients_among lists index (length lists.clients) ++ bounds)
              (filter-map (end_of lists) (λ (bound : Bound). bound.server == index) (enumerate_from 0 lists.mounts)
              ∙ chosen_split (end_of lists) (λ (one : ℕ × MountItem). one.1.target == index) (enumerate_from 0 lists.mounts) item (item, mount) listed (eq-eqb mount.target index is)
              ∙ ap (λ (bounds : List Bound). bounds ++ end_of lists (item, mount) ∷ tail) (sym (filter-map (end_of lists) (λ (bound : Bound). bound.server == index) (take item (enumerate_from 0 lists.mounts)))))
              ∙ sym (append_assoc (clients_among lists index (length lists.clients)) (ends_among lists index item) (end_of lists (item, mount) ∷ tail)),
        )
      where
        all_clients : clients_among lists index (length lists.clients) ≡ filter (λ (bound : Bound). bound.server == index) (firsts_of lists)
        all_clients = ap (λ (clients : List ClientItem). filter (λ (bound : Bound). bound.server == index) (map (first_of_client lists) clients)) (take_all (length lists.clients) lists.clients (omega arith))

pub bound_none : (lists : Lists) (index : ℕ) → bound_among lists index 0 ≡ clients_among lists index (length lists.clients)
bound_none lists index = append-nil (clients_among lists index (length lists.clients))

pub bound_whole : (lists : Lists) (index : ℕ) → bound_among lists index (length lists.mounts) ≡ begins_with lists index
bound_whole lists index =
    ap (λ (clients : List ClientItem). filter (λ (bound : Bound). bound.server == index) (map (first_of_client lists) clients) ++ ends_among lists index (length lists.mounts)) (take_all (length lists.clients) lists.clients (omega arith))
    ∙ ap (λ (mounts : List (ℕ × MountItem)). filter (λ (bound : Bound). bound.server == index) (firsts_of lists) ++ filter (λ (bound : Bound). bound.server == index) (map (end_of lists) mounts))
    (take_all (length lists.mounts) (enumerate_from 0 lists.mounts) (omega (arith, length-enumerate_from 0 lists.mounts)))
    ∙ sym (filter-append (λ (bound : Bound). bound.server == index) (firsts_of lists) (ends_of lists))

-- no first connection and no mount's end is a watcher
pub all_directories : (lists : Lists) → All (λ (bound : Bound). is_watcher bound.birth.protocol ≡ false) (firsts_of lists ++ ends_of lists)
all_directories lists =
    All-append (λ (bound : Bound). is_watcher bound.birth.protocol ≡ false) (firsts_of lists) (ends_of lists)
    (All-map (λ (bound : Bound). is_watcher bound.birth.protocol ≡ false) (first_of_client lists) lists.clients (always (λ (client : ClientItem). is_watcher protocol.Directory ≡ false) (λ client. refl) lists.clients))
    (All-map (λ (bound : Bound). is_watcher bound.birth.protocol ≡ false) (end_of lists) (enumerate_from 0 lists.mounts) (always (λ (mount : ℕ × MountItem). is_watcher protocol.Directory ≡ false) (λ mount. refl) (enumerate_from 0 lists.mounts)))

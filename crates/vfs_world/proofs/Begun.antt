-- How what is bound grows while a session begins, and that in the end servers, queues and what is known hold what the start says.
use Rattle.std.proofs.Common.{◌≡◌, ◌≢◌, ℕ, zero, suc, ◌+◌, ◌<◌, ◌≤◌, ◌==◌, Bool, true, false, cond, List, [], ◌∷◌, ◌++◌, length, map, filter, take, drop, get_or, Option, Some, None, All, AllPairs, refl, sym, ap, ◌∙◌, subst, arith, append_assoc, append-nil, length-append}
use Rattle.std.specs.Prelude.{find, if◌then◌else◌, slice_get}
use Rattle.std.specs.List.{enumerate_from}
use Rattle.std.specs.Option.{option_map, option_or}
use Rattle.std.proofs.lemmas.Bool.{eqb-true, eqb-false, eq-eqb, ne_eqb}
use Rattle.std.proofs.lemmas.List.{get_or-take, length-map, length-take-le, take_more}
use Rattle.std.proofs.lemmas.List.Elements.{All-from_get_or, All-head, All-map, All-tail, All-weaker}
use Rattle.std.proofs.lemmas.List.Folds.{find-append, list_any_none}
use Rattle.std.proofs.lemmas.List.FromFn.{length-enumerate_from, length-map-range_with_len}
use Rattle.std.proofs.lemmas.Option.{get_or_from_slice_get, same_Some, slice_get-map, slice_get_within}
use Rattle.fidl_names.specs.HandleNumber.{end_of_mount, is_client}
use Rattle.fidl_names.specs.declared.limits.TheConstants as limit
use Rattle.link_admission.specs.Standings.{Known, Starts}
use Rattle.link_admission.specs.Tables.{AreEachOnce}
use Rattle.session_start.specs.Accepted.{AreAccepted, IsClient}
use Rattle.session_start.specs.Items.{ClientItem, Lists, MountItem}
use Rattle.session_start.specs.Numbering.{tree_of}
use Rattle.session_start.proofs.Accepted.{few_of}
use Rattle.conn_rules.specs.Births.{Position}
use Rattle.vfs_journal.specs.History.{living}
use Rattle.vfs_journal.specs.Lawful as journals
use Rattle.vfs_journal.specs.Past.{history_of}
use Rattle.vfs_journal.specs.Starts.{Bound, Start, end_of, first_of_client, start_of}
use Rattle.vfs_journal.specs.View.{view_of, with_position}
use Rattle.journal_laws.specs.Knowing.{IsNumbered, Knows}
use Rattle.journal_laws.specs.Soundness.{IsOnDirectory, IsStart, OtherEndpoint}
use Rattle.journal_laws.proofs.KnowingServes.{starts_known}
use Rattle.journal_laws.proofs.KnowingStarts.{files_numbered}
use Rattle.journal_laws.proofs.Lists.{pairs-head, pairs-map, pairs-tail}
use Rattle.message_queues.specs.Queues.{Binds, IsNew, Queues, server_of}
use Rattle.vfs_server.specs.Holding.{HoldsAt}
use Rattle.vfs_server.specs.Servers.{Server}
use Rattle.vfs_world.specs.Holding.{HoldsEach, HoldsQueues}
use Rattle.vfs_world.specs.World.{StandsFor}
use Rattle.vfs_world.specs.Beginning.{BindsJust}

-- ---- lists

split_at : {X : Type 0} (xs : List X) (i : ℕ) (x : X) → slice_get xs i ≡ Some x → xs ≡ take i xs ++ x ∷ drop (suc i) xs
split_at [] i x e = absurd (cc)
split_at (y ∷ xs) zero x e = ap (λ z. z ∷ xs) (same_Some y x e)
split_at (y ∷ xs) (suc i) x e = ap (λ rest. y ∷ rest) (split_at xs i x e)

pub one_more : {X : Type 0} (xs : List X) (i : ℕ) (x : X) → slice_get xs i ≡ Some x → take (i + 1) xs ≡ take i xs ++ x ∷ []
one_more xs i x there = take_more xs i x (slice_get_within xs i x there) ∙ ap (λ y. take i xs ++ y ∷ []) (get_or_from_slice_get xs i x x there)

within : {X : Type 0} (P : X → Type 0) (xs ys : List X) (y : X) → All P (xs ++ y ∷ ys) → P y
within P [] ys y h = All-head P y ys h
within P (x ∷ xs) ys y h = within P xs ys y (All-tail P x (xs ++ y ∷ ys) h)

-- what holds of each place of a list and of the next place holds of each place of one more
each_more : {X : Type 0} (P : ℕ → X → Type 0) (xs : List X) (y : X) → ((i : ℕ) (x : X) → slice_get xs i ≡ Some x → P i x) → P (length xs) y →
    (i : ℕ) (x : X) → slice_get (xs ++ y ∷ []) i ≡ Some x → P i x
each_more P [] y h p zero x e = subst (P 0) (same_Some y x e) p
each_more P [] y h p (suc i) x e = absurd (cc)
each_more P (z ∷ xs) y h p zero x e = h 0 x e
each_more P (z ∷ xs) y h p (suc i) x e = each_more (λ k. P (suc k)) xs y (λ k w there. h (suc k) w there) p i x e

distinct : (ns : List ℕ) → AllPairs (λ n m. n ≢ m) ns → AreEachOnce ns
distinct ns apart i inside =
    list_any_none (λ (m : ℕ). m == get_or ns i 0) (take i ns)
    (All-from_get_or (λ (m : ℕ). (m == get_or ns i 0) ≡ false) (take i ns) 0
    (λ k front.
    let size = length-take-le i ns (omega arith) in
    let before : k < i = omega (arith, size, front) in
    rw (get_or-take i ns k 0 before) (ne_eqb (get_or ns k 0) (get_or ns i 0) (apart k i 0 before inside))))

-- ---- servers

-- so many servers were begun
pub record AreBegun (start : Start) (count : ℕ) (servers : List Server) : Type 0 where
  pub many : length servers ≡ count
  pub index : (index : ℕ) (server : Server) → slice_get servers index ≡ Some server → server.index ≡ index
  pub each : (index : ℕ) (server : Server) → slice_get servers index ≡ Some server → HoldsAt (view_of start []) server

pub none_begun : (start : Start) → AreBegun start 0 []
none_begun start = record { many = refl; index = λ index server e. absurd (cc); each = λ index server e. absurd (cc) }

pub one_begun : (start : Start) (count : ℕ) (servers : List Server) (server : Server) → AreBegun start count servers → server.index ≡ count → HoldsAt (view_of start []) server →
    AreBegun start (count + 1) (servers ++ server ∷ [])
one_begun start count servers server begun at holds = record {
  many = let many = begun.many in let more = length-append servers (server ∷ []) in omega (arith, many, more);
  index = each_more (λ i one. one.index ≡ i) servers server begun.index (at ∙ sym begun.many);
  each = each_more (λ i one. HoldsAt (view_of start []) one) servers server begun.each holds;
}

many_trees : (lists : Lists) → length (start_of lists).trees ≡ length lists.servers
many_trees lists = length-map-range_with_len (tree_of lists) 0 (length lists.servers)

pub all_begun : (lists : Lists) (servers : List Server) → AreBegun (start_of lists) (length lists.servers) servers → HoldsEach (view_of (start_of lists) []) servers
all_begun lists servers begun = record { many = begun.many ∙ sym (many_trees lists); index = begun.index; each = begun.each }

-- ---- queues

pub none_bound : (lists : Lists) (queues : Queues) → IsNew queues (length lists.servers) → BindsJust (start_of lists) [] queues
none_bound lists queues new = record { waiting = new.waiting; bound = new.bound; those = new.those ∙ sym (many_trees lists) }

-- what stands before an endpoint is on others
none_before : (bounds later : List Bound) (bound : Bound) → AllPairs OtherEndpoint (bounds ++ bound ∷ later) → find (λ one. one.endpoint == bound.endpoint) bounds ≡ None
none_before [] later bound apart = refl
none_before (one ∷ bounds) later bound apart =
    let other = within (OtherEndpoint one) bounds later bound (pairs-head OtherEndpoint one (bounds ++ bound ∷ later) apart) in
    rw (ne_eqb one.endpoint bound.endpoint other) (none_before bounds later bound (pairs-tail OtherEndpoint one (bounds ++ bound ∷ later) apart))

or_none : {X : Type 0} (o : Option X) → option_or o None ≡ o
or_none None = refl
or_none (Some x) = refl

module _ (start : Start) (sound : IsStart start) (bounds later : List Bound) (bound : Bound) (whole : start.firsts ++ start.mounts ≡ bounds ++ bound ∷ later) (queues : Queues) (just : BindsJust start bounds queues) where
  not_before : find (λ one. one.endpoint == bound.endpoint) bounds ≡ None
  not_before = none_before bounds later bound (subst (AllPairs OtherEndpoint) whole sound.apart)

  pub unbound : server_of queues bound.endpoint ≡ None
  unbound = just.bound bound.endpoint ∙ ap (option_map (λ (b : Bound). b.server)) not_before

  pub one_of : bound.server < queues.servers
  one_of =
      let low = (within (IsOnDirectory start.trees) bounds later bound (subst (All (IsOnDirectory start.trees)) whole sound.placed)).server in
      let those = just.those in
      omega (arith, low, those)

  -- a look-up among these and one more
  found : (endpoint : ℕ) (b : Bool) → (endpoint == bound.endpoint) ≡ b →
      (if b then Some bound.server else server_of queues endpoint) ≡ option_map (λ (one : Bound). one.server) (option_or (find (λ (one : Bound). one.endpoint == endpoint) bounds) (cond (bound.endpoint == endpoint) (Some bound) None))
  found endpoint true e =
      let same : endpoint ≡ bound.endpoint = eqb-true endpoint bound.endpoint e in
      let none : find (λ (one : Bound). one.endpoint == endpoint) bounds ≡ None = ap (λ (n : ℕ). find (λ (one : Bound). one.endpoint == n) bounds) same ∙ not_before in
      sym (ap (λ o. option_map (λ (one : Bound). one.server) (option_or o (cond (bound.endpoint == endpoint) (Some bound) None))) none
      ∙ ap (λ t. option_map (λ (one : Bound). one.server) (cond t (Some bound) None)) (eq-eqb bound.endpoint endpoint (sym same)))
  found endpoint false e =
      just.bound endpoint
      ∙ sym (ap (λ t. option_map (λ (one : Bound). one.server) (option_or (find (λ (one : Bound). one.endpoint == endpoint) bounds) (cond t (Some bound) None))) (ne_eqb bound.endpoint endpoint (λ is. eqb-false endpoint bound.endpoint e (sym is)))
      ∙ ap (option_map (λ (one : Bound). one.server)) (or_none (find (λ (one : Bound). one.endpoint == endpoint) bounds)))

  pub one_bound : (new : Queues) → Binds queues bound.endpoint bound.server new → BindsJust start (bounds ++ bound ∷ []) new
  one_bound new binds = record {
    waiting = λ endpoint. binds.waiting endpoint ∙ just.waiting endpoint;
    bound = λ endpoint.
        binds.bound endpoint ∙ found endpoint (endpoint == bound.endpoint) refl
        ∙ ap (option_map (λ (one : Bound). one.server)) (sym (find-append (λ (one : Bound). one.endpoint == endpoint) bounds (bound ∷ [])));
    those = binds.those ∙ just.those;
  }

-- ---- one by one

module _ (lists : Lists) (item : ℕ) where
  pub client_listed : (client : ClientItem) → slice_get lists.clients item ≡ Some client → slice_get (start_of lists).firsts item ≡ Some (first_of_client lists client)
  client_listed client there = slice_get-map (first_of_client lists) lists.clients item ∙ ap (option_map (first_of_client lists)) there

  client_whole : (client : ClientItem) → slice_get lists.clients item ≡ Some client →
      (start_of lists).firsts ++ (start_of lists).mounts ≡ take item (start_of lists).firsts ++ first_of_client lists client ∷ (drop (suc item) (start_of lists).firsts ++ (start_of lists).mounts)
  client_whole client there =
      ap (λ (bounds : List Bound). bounds ++ (start_of lists).mounts) (split_at (start_of lists).firsts item (first_of_client lists client) (client_listed client there))
      ∙ append_assoc (take item (start_of lists).firsts) (first_of_client lists client ∷ drop (suc item) (start_of lists).firsts) (start_of lists).mounts

  enumerated : (n i : ℕ) (mounts : List MountItem) (mount : MountItem) → slice_get mounts i ≡ Some mount → slice_get (enumerate_from n mounts) i ≡ Some (n + i, mount)
  enumerated n i [] mount e = absurd (cc)
  enumerated n zero (one ∷ mounts) mount e = let here : n ≡ n + 0 = omega arith in ap (λ (m : MountItem). Some (n, m)) (same_Some one mount e) ∙ ap (λ (k : ℕ). Some (k, mount)) here
  enumerated n (suc i) (one ∷ mounts) mount e = let here : n + 1 + i ≡ n + suc i = omega arith in enumerated (n + 1) i mounts mount e ∙ ap (λ (k : ℕ). Some (k, mount)) here

  mount_listed : (mount : MountItem) → slice_get lists.mounts item ≡ Some mount → slice_get (start_of lists).mounts item ≡ Some (end_of lists (item, mount))
  mount_listed mount there =
      let here : 0 + item ≡ item = omega arith in
      slice_get-map (end_of lists) (enumerate_from 0 lists.mounts) item
      ∙ ap (option_map (end_of lists)) (enumerated 0 item lists.mounts mount there ∙ ap (λ (k : ℕ). Some (k, mount)) here)

  mount_whole : (mount : MountItem) → slice_get lists.mounts item ≡ Some mount →
      (start_of lists).firsts ++ (start_of lists).mounts ≡ ((start_of lists).firsts ++ take item (start_of lists).mounts) ++ end_of lists (item, mount) ∷ drop (suc item) (start_of lists).mounts
  mount_whole mount there =
      ap (λ (bounds : List Bound). (start_of lists).firsts ++ bounds) (split_at (start_of lists).mounts item (end_of lists (item, mount)) (mount_listed mount there))
      ∙ sym (append_assoc (start_of lists).firsts (take item (start_of lists).mounts) (end_of lists (item, mount) ∷ drop (suc item) (start_of lists).mounts))

module _ (lists : Lists) (sound : IsStart (start_of lists)) (item : ℕ) (queues : Queues) where
  module _ (client : ClientItem) (there : slice_get lists.clients item ≡ Some client) (just : BindsJust (start_of lists) (take item (start_of lists).firsts) queues) where
    pub client_unbound : server_of queues client.endpoint ≡ None
    client_unbound = unbound (start_of lists) sound (take item (start_of lists).firsts) (drop (suc item) (start_of lists).firsts ++ (start_of lists).mounts) (first_of_client lists client) (client_whole lists item client there) queues just

    pub client_one_of : client.server < queues.servers
    client_one_of = one_of (start_of lists) sound (take item (start_of lists).firsts) (drop (suc item) (start_of lists).firsts ++ (start_of lists).mounts) (first_of_client lists client) (client_whole lists item client there) queues just

    pub client_bound : (new : Queues) → Binds queues client.endpoint client.server new → BindsJust (start_of lists) (take (item + 1) (start_of lists).firsts) new
    client_bound new binds =
        subst (λ (bounds : List Bound). BindsJust (start_of lists) bounds new) (sym (one_more (start_of lists).firsts item (first_of_client lists client) (client_listed lists item client there)))
        (one_bound (start_of lists) sound (take item (start_of lists).firsts) (drop (suc item) (start_of lists).firsts ++ (start_of lists).mounts) (first_of_client lists client) (client_whole lists item client there) queues just new binds)

  module _ (mount : MountItem) (there : slice_get lists.mounts item ≡ Some mount) (just : BindsJust (start_of lists) ((start_of lists).firsts ++ take item (start_of lists).mounts) queues) where
    pub mount_unbound : server_of queues (end_of_mount item) ≡ None
    mount_unbound =
        unbound (start_of lists) sound ((start_of lists).firsts ++ take item (start_of lists).mounts) (drop (suc item) (start_of lists).mounts) (end_of lists (item, mount))
        (mount_whole lists item mount there) queues just

    pub mount_one_of : mount.target < queues.servers
    mount_one_of =
        one_of (start_of lists) sound ((start_of lists).firsts ++ take item (start_of lists).mounts) (drop (suc item) (start_of lists).mounts) (end_of lists (item, mount))
        (mount_whole lists item mount there) queues just

    pub mount_bound : (new : Queues) → Binds queues (end_of_mount item) mount.target new → BindsJust (start_of lists) ((start_of lists).firsts ++ take (item + 1) (start_of lists).mounts) new
    mount_bound new binds =
        subst (λ (bounds : List Bound). BindsJust (start_of lists) bounds new)
        (append_assoc (start_of lists).firsts (take item (start_of lists).mounts) (end_of lists (item, mount) ∷ [])
        ∙ sym (ap (λ (bounds : List Bound). (start_of lists).firsts ++ bounds) (one_more (start_of lists).mounts item (end_of lists (item, mount)) (mount_listed lists item mount there))))
        (one_bound (start_of lists) sound ((start_of lists).firsts ++ take item (start_of lists).mounts) (drop (suc item) (start_of lists).mounts) (end_of lists (item, mount))
        (mount_whole lists item mount there) queues just new binds)

-- ---- the view of the start

all_pass : {X : Type 0} (xs : List X) → filter (λ x. true) xs ≡ xs
all_pass [] = refl
all_pass (x ∷ xs) = ap (λ rest. x ∷ rest) (all_pass xs)

servers_found : (endpoint : ℕ) (bounds : List Bound) →
    option_map (λ (bound : Bound). bound.server) (find (λ (bound : Bound). bound.endpoint == endpoint) bounds)
    ≡ option_map (λ (pair : Bound × Position). pair.0.server) (find (λ (pair : Bound × Position). pair.0.endpoint == endpoint) (map (with_position []) bounds))
servers_found endpoint [] = refl
servers_found endpoint (bound ∷ bounds) = by_test (bound.endpoint == endpoint) refl (servers_found endpoint bounds) where
  by_test : (b : Bool) → (bound.endpoint == endpoint) ≡ b →
      option_map (λ (one : Bound). one.server) (find (λ (one : Bound). one.endpoint == endpoint) bounds)
      ≡ option_map (λ (pair : Bound × Position). pair.0.server) (find (λ (pair : Bound × Position). pair.0.endpoint == endpoint) (map (with_position []) bounds)) →
      option_map (λ (one : Bound). one.server) (find (λ (one : Bound). one.endpoint == endpoint) (bound ∷ bounds))
      ≡ option_map (λ (pair : Bound × Position). pair.0.server) (find (λ (pair : Bound × Position). pair.0.endpoint == endpoint) (map (with_position []) (bound ∷ bounds)))
  by_test true e rest = rw e refl
  by_test false e rest = rw e rest

pub holds_queues : (start : Start) (queues : Queues) → BindsJust start (start.firsts ++ start.mounts) queues → HoldsQueues (view_of start []) queues
holds_queues start queues just = record {
  queue = just.waiting;
  bound = λ endpoint.
      just.bound endpoint ∙ servers_found endpoint (start.firsts ++ start.mounts)
      ∙ ap (λ (bounds : List Bound). option_map (λ (pair : Bound × Position). pair.0.server) (find (λ (pair : Bound × Position). pair.0.endpoint == endpoint) (map (with_position []) bounds))) (sym lives);
  those = just.those;
} where
  lives : living start [] ≡ start.firsts ++ start.mounts
  lives = all_pass (start.firsts ++ start.mounts ++ []) ∙ append-nil (start.firsts ++ start.mounts)

-- ---- what is known

module _ (lists : Lists) (accepted : AreAccepted lists) where
  numbered : IsNumbered (start_of lists)
  numbered = files_numbered lists accepted.items.apart

  pub clients_are : All (λ n. is_client n ≡ true) (map (λ (bound : Bound). bound.endpoint) (start_of lists).firsts)
  clients_are =
      All-map (λ (n : ℕ). is_client n ≡ true) (λ (bound : Bound). bound.endpoint) (start_of lists).firsts
      (All-map (λ (bound : Bound). is_client bound.endpoint ≡ true) (first_of_client lists) lists.clients
      (All-weaker (IsClient (length lists.servers)) (λ (client : ClientItem). is_client client.endpoint ≡ true) (λ client is. is.endpoint) lists.clients accepted.items.clients))

  pub clients_distinct : AreEachOnce (map (λ (bound : Bound). bound.endpoint) (start_of lists).firsts)
  clients_distinct = distinct (map (λ (bound : Bound). bound.endpoint) (start_of lists).firsts) (pairs-map (λ (n m : ℕ). n ≢ m) (λ (bound : Bound). bound.endpoint) (start_of lists).firsts numbered.firsts)

  pub few_live : length (map (λ (bound : Bound). bound.endpoint) (start_of lists).firsts) + length lists.mounts ≤ limit.MAX_LIVE
  few_live =
      let few = few_of lists accepted in
      let clients = few.clients in
      let mounts = few.mounts in
      let a = length-map (start_of lists).firsts (λ (bound : Bound). bound.endpoint) in
      let b = length-map lists.clients (first_of_client lists) in
      omega (arith, clients, mounts, a, b)

  pub knows : (known : Known) → Starts (map (λ (bound : Bound). bound.endpoint) (start_of lists).firsts) (length lists.mounts) (length lists.servers) known → Knows (start_of lists) [] known
  knows known starts =
      let mounts : length (start_of lists).mounts ≡ length lists.mounts = length-map (enumerate_from 0 lists.mounts) (end_of lists) ∙ length-enumerate_from 0 lists.mounts in
      starts_known (start_of lists) known numbered
      (subst (λ (m : ℕ). Starts (map (λ (bound : Bound). bound.endpoint) (start_of lists).firsts) m (length (start_of lists).trees) known) (sym mounts)
      (subst (λ (n : ℕ). Starts (map (λ (bound : Bound). bound.endpoint) (start_of lists).firsts) (length lists.mounts) n known) (sym (many_trees lists)) starts))

-- ---- the whole

pub stands : (lists : Lists) (servers : List Server) (queues : Queues) (known : Known) → IsStart (start_of lists) → HoldsEach (view_of (start_of lists) []) servers →
    HoldsQueues (view_of (start_of lists) []) queues → Knows (start_of lists) [] known →
    StandsFor (start_of lists) (record { servers = servers; queues = queues; known = known; places = 0; spent = false; frames = 0 }) []
unfolding history_of
stands lists servers queues known sound each bound knows = record {
  able = refl;
  sound = sound;
  lawful = journals.begun;
  knows = knows;
  holds = record { servers = each; queues = bound; places = refl };
}

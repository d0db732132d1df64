-- How what is bound at a server grows while it begins, and that in the end it is what the start says.
use Rattle.std.proofs.Common.{◌≡◌, ℕ, ◌+◌, ◌<◌, ◌≤◌, ◌==◌, Bool, true, false, cond, List, [], ◌∷◌, ◌++◌, length, map, filter, Bor, Option, Some, None, AllPairs, refl, sym, ap, ◌∙◌, subst, arith, append-nil, length-append, rules}
use Rattle.std.specs.Prelude.{IsSome, find, if◌then◌else◌, count_by, slice_get}
use Rattle.std.specs.BTreeMap.{BTreeMap, get}
use Rattle.std.specs.FinMap as finite
use Rattle.std.specs.List.{range_with_len}
use Rattle.std.specs.Option.{option_map, option_map_or, option_or}
use Rattle.std.specs.Ordering.{nat_cmp}
use Rattle.std.proofs.lemmas.Bool.{eqb-true, eq-eqb, eqb-false, ne_eqb}
use Rattle.std.proofs.lemmas.List.{get_or-map}
use Rattle.std.proofs.lemmas.List.Elements.{All-filter, All-nil, All-weaker}
use Rattle.std.proofs.lemmas.List.FromFn.{get_or-range_with_len, length-range_with_len}
use Rattle.std.proofs.lemmas.List.Sums.{sum_by-append}
use Rattle.fidl_names.specs.HandleNumber.{end_of_mount}
use Rattle.io_messages.specs.declared.protocols.Protocol.TheVariants as protocol
use Rattle.io_rights.specs.Operations.{OperationSet}
use Rattle.node_graph.specs.declared.nodes.NodeKind.TheVariants.{Directory}
use Rattle.node_graph.specs.declared.nodes.NodeRef.{NodeRef}
use Rattle.node_graph.specs.Graph.{Kept, Names, StandsFor, holds_at, is_kept, kind_at, number_of}
use Rattle.node_graph.specs.Tree.{bare_tree, kind_of}
use Rattle.session_start.specs.Accepted.{AreAccepted}
use Rattle.session_start.specs.Items.{ClientItem, Lists, MountItem}
use Rattle.session_start.specs.Numbering.{named_of, number_at, tree_of}
use Rattle.session_start.proofs.Found.{find_push}
use Rattle.session_start.proofs.Trees.{number_some, placed}
use Rattle.conn_rules.specs.declared.births.Birth as code
use Rattle.conn_rules.specs.Births.{Connection, Position, fresh}
use Rattle.conn_rules.specs.Shared.{is_spoken_at}
use Rattle.vfs_journal.specs.History.{is_watcher, living, tree_at}
use Rattle.vfs_journal.specs.Starts.{Bound, end_of, first_of_client, start_of}
use Rattle.vfs_journal.specs.View.{at_in, bounds_in, view_of, with_position}
use Rattle.session_start.specs.Places.{Stands, path_cmp}
use Rattle.vfs_server.specs.declared.watching.Seat.{Seat}
use Rattle.vfs_server.specs.Binding.{Binds, HasPlace, IsDirectory}
use Rattle.vfs_server.specs.Beginning.{HoldsJust, IsNextBound, begins_with, begun, bound_among, clients_among}
use Rattle.vfs_server.specs.Holding.{HoldsAt, bound_to, if_at, living_at, named_by}
use Rattle.vfs_server.specs.Kept.{IsSound, Tokens}
use Rattle.vfs_server.specs.Servers.{Server, bound_with, seen, seen_as}
use Rattle.vfs_server.proofs.Begins.{OtherEndpoint, apart, clients_split, ends_of, ends_split, few_before, firsts_of, not_before, pairs-head, pairs-tail, stands_on, all_directories}
use Rattle.session_start.proofs.Chosen.{find-map, found_none, none_chosen}
use Rattle.vfs_server.proofs.Held.{at_node, to_node}
use Rattle.vfs_server.proofs.Maps.{count_none, one_if}
use Rattle.session_start.proofs.NamedNodes.{named_kind, named_some}
use Rattle.session_start.proofs.Nexts.{grows_whole}
use Rattle.session_start.proofs.Seated.{kept_by, leads_in, place_in}

-- ---- none

pub sound_none : (graph : Kept) → ((number : ℕ) → holds_at graph number ≡ 0) → IsSound graph finite.empty [] finite.empty
sound_none graph unheld = record {
  each = λ endpoint connection there. absurd (let wrong : None ≡ Some connection = sym (finite.get-empty nat_cmp endpoint) ∙ there in cc);
  watched = All-nil (λ (entry : ℕ × Seat). IsDirectory graph entry.1.directory);
  named = λ token directory there. absurd (let wrong : None ≡ Some directory = sym (finite.get-empty nat_cmp token) ∙ there in cc);
  holds = λ number.
      let bare = unheld number in
      let connected = count_none (to_node number) in
      let named = count_none (at_node number) in
      omega (arith, bare, connected, named);
  apart = λ endpoint some. refl;
  few = let none = finite.len-empty nat_cmp Connection in omega (arith, none);
  rare = let none = finite.len-empty nat_cmp NodeRef in omega (arith, none);
}

pub holds_none : (lists : Lists) (index : ℕ) (graph : Kept) (places : BTreeMap (Bor (List ℕ)) NodeRef) (server : Server) → Stands (named_of lists index) graph places →
    server ≡ record { index = index; graph = graph; connections = finite.empty; watchers = []; tokens = finite.empty } → HoldsJust lists index [] server places
holds_none lists index graph places server stands is = subst (λ (one : Server). HoldsJust lists index [] one places) (sym is) (record {
  at = refl;
  watchers = refl;
  tokens = refl;
  bound = λ endpoint. ap (seen_as index [] endpoint) (finite.get-empty nat_cmp endpoint);
  count = let none = finite.len-empty nat_cmp Connection in omega (arith, none);
  holds = stands.unheld;
  tree = stands.tree;
  numbered = stands.numbered;
  kept = stands.kept;
})

-- ---- one more

module _ (lists : Lists) (index endpoint : ℕ) (path : Bor (List ℕ)) (rights : OperationSet) (bounds : List Bound) (server : Server) (places : BTreeMap (Bor (List ℕ)) NodeRef)
    (next : IsNextBound lists index bounds (begun lists index endpoint path.now rights) server places) where
  directory : kind_of (tree_of lists index) (number_at (named_of lists index) path.now) ≡ Some Directory
  directory = stands_on lists next.accepted index next.within bounds (begun lists index endpoint path.now rights) next.later next.whole

  pub some_place : IsSome (get path_cmp places path)
  some_place =
      place_in (named_of lists index) places next.holds.numbered path
      (number_some (tree_of lists index) (number_at (named_of lists index) path.now) Directory directory)

  pub unbound : seen server endpoint ≡ None
  unbound =
      next.holds.bound endpoint
      ∙ ap (option_map (λ (bound : Bound). (bound, fresh))) (not_before lists next.accepted index next.within bounds (begun lists index endpoint path.now rights) next.later next.whole)

  module _ (node : NodeRef) (leads : get path_cmp places path ≡ Some node) where
    number_is : number_of node ≡ number_at (named_of lists index) path.now
    number_is = leads_in (named_of lists index) places next.holds.numbered path node leads

    abbrev birth : code.Birth
    birth = record { node = node; rights = rights; protocol = protocol.Directory; append = false; announce = false }

    kind_is : kind_at server.graph (number_of node) ≡ Some Directory
    kind_is =
        named_kind server.graph (tree_of lists index) node next.holds.tree (next.holds.kept path node leads)
        ∙ ap (kind_of (tree_of lists index)) number_is ∙ directory

    -- whatever its rights are
    pub has_place : (given : OperationSet) → HasPlace server (record { node = node; rights = given; protocol = protocol.Directory; append = false; announce = false })
    has_place given = record {
      node = record {
        named = next.holds.kept path node leads;
        spoken = ap (λ o. option_map_or (is_spoken_at protocol.Directory) o false) kind_is;
        connects = λ is. search rules;
      };
      room =
          let few = few_before lists next.accepted index next.within bounds (begun lists index endpoint path.now rights) next.later next.whole in
          let count = next.holds.count in
          omega (arith, few, count);
    }

    module _ (new : Server) (binds : Binds server (bound_with server.index endpoint birth) new) where
      bound_is : bound_with server.index endpoint birth ≡ begun lists index endpoint path.now rights
      bound_is =
          ap (λ (n : ℕ). bound_with n endpoint birth) next.holds.at
          ∙ ap (λ (n : ℕ). record { endpoint = endpoint; server = index; birth = record { node = n; rights = rights; protocol = protocol.Directory; append = false }; mask = 0 }) number_is

      abbrev newest : Bound
      newest = begun lists index endpoint path.now rights

      -- a look-up among these and one more
      among_more : (other : ℕ) (b : Bool) → (other == endpoint) ≡ b →
          (if b then Some (bound_with server.index endpoint birth, fresh) else seen server other) ≡ option_map (λ (bound : Bound). (bound, fresh)) (option_or (find (λ (bound : Bound). bound.endpoint == other) bounds) (cond (endpoint == other) (Some newest) None))
      among_more other true e =
          let same : other ≡ endpoint = eqb-true other endpoint e in
          let none : find (λ (bound : Bound). bound.endpoint == other) bounds ≡ None =
          ap (λ (n : ℕ). find (λ (bound : Bound). bound.endpoint == n) bounds) same
          ∙ not_before lists next.accepted index next.within bounds newest next.later next.whole in
          ap (λ (bound : Bound). Some (bound, fresh)) bound_is
          ∙ sym (ap (λ o. option_map (λ (bound : Bound). (bound, fresh)) (option_or o (cond (endpoint == other) (Some newest) None))) none
          ∙ ap (λ t. option_map (λ (bound : Bound). (bound, fresh)) (cond t (Some newest) None)) (eq-eqb endpoint other (sym same)))
      among_more other false e =
          next.holds.bound other
          ∙ sym (ap (λ t. option_map (λ (bound : Bound). (bound, fresh)) (option_or (find (λ (bound : Bound). bound.endpoint == other) bounds) (cond t (Some newest) None)))
          (ne_eqb endpoint other (λ is. eqb-false other endpoint e (sym is))) ∙ ap (option_map (λ (bound : Bound). (bound, fresh))) (or_none (find (λ (bound : Bound). bound.endpoint == other) bounds)))
        where
          or_none : (o : Option Bound) → option_or o None ≡ o
          or_none None = refl
          or_none (Some bound) = refl

      holds_more : (number : ℕ) (b : Bool) → (number == number_of node) ≡ b →
          (if b then holds_at server.graph (number_of node) + 1 else holds_at server.graph number) ≡ count_by (λ (bound : Bound). bound.birth.node == number) (bounds ++ newest ∷ [])
      holds_more number true e =
          let same : number ≡ number_of node = eqb-true number (number_of node) e in
          let one : one_if (newest.birth.node == number) ≡ 1 = ap one_if (eq-eqb newest.birth.node number (sym number_is ∙ sym same)) in
          let sum = sum_by-append (λ (bound : Bound). one_if (bound.birth.node == number)) bounds (newest ∷ []) in
          let before : holds_at server.graph (number_of node) ≡ count_by (λ (bound : Bound). bound.birth.node == number) bounds = ap (holds_at server.graph) (sym same) ∙ next.holds.holds number in
          omega arith
      holds_more number false e =
          let none : one_if (newest.birth.node == number) ≡ 0 = ap one_if (ne_eqb newest.birth.node number (λ is. eqb-false number (number_of node) e (sym is ∙ sym number_is))) in
          let sum = sum_by-append (λ (bound : Bound). one_if (bound.birth.node == number)) bounds (newest ∷ []) in
          let before = next.holds.holds number in
          omega arith

      new_tree : StandsFor new.graph (tree_of lists index)
      new_tree = binds.tree (tree_of lists index) next.holds.tree

      still_kept : (q : Bor (List ℕ)) (found : NodeRef) → get path_cmp places q ≡ Some found → Names new.graph found
      still_kept q found at =
          let number = leads_in (named_of lists index) places next.holds.numbered q found at in
          let some = some_number found (next.holds.kept q found at) in
          let kept : is_kept new.graph (number_of found) ≡ true =
          ap (is_kept new.graph) number ∙ kept_by new.graph (named_of lists index) new_tree.edges (placed (named_of lists index) (grows_whole lists next.accepted index)) q.now (omega (arith, number, some)) in
          (binds.names found (next.holds.kept q found at) kept).0
        where
          some_number : (found : NodeRef) → Names server.graph found → 1 ≤ number_of found
          some_number found names = named_some server.graph (tree_of lists index) found next.holds.tree names

      pub holds_one : HoldsJust lists index (bounds ++ begun lists index endpoint path.now rights ∷ []) new places
      holds_one = record {
        at = binds.index ∙ next.holds.at;
        watchers = binds.watchers ∙ append-nil server.watchers ∙ next.holds.watchers;
        tokens = binds.tokens ∙ next.holds.tokens;
        bound = λ other.
            binds.bound other ∙ among_more other (other == endpoint) refl
            ∙ ap (option_map (λ (bound : Bound). (bound, fresh))) (sym (find_push (λ (bound : Bound). bound.endpoint == other) bounds newest));
        count =
            let more = binds.count in
            let before = next.holds.count in
            let size = length-append bounds (newest ∷ []) in
            omega (arith, more, before, size);
        holds = λ number. binds.holds number ∙ holds_more number (number == number_of node) refl;
        tree = new_tree;
        numbered = next.holds.numbered;
        kept = still_kept;
      }

-- ---- the next one

module _ (lists : Lists) (accepted : AreAccepted lists) (index : ℕ) (within : index < length lists.servers) (item : ℕ) (server : Server) (places : BTreeMap (Bor (List ℕ)) NodeRef) where
  module _ (client : ClientItem) (there : slice_get lists.clients item ≡ Some client) (here : client.server ≡ index) where
    pub client_is : first_of_client lists client ≡ begun lists index client.endpoint client.path client.rights
    client_is = ap (λ (n : ℕ). begun lists n client.endpoint client.path client.rights) here

    pub client_next : HoldsJust lists index (clients_among lists index item) server places →
        IsNextBound lists index (clients_among lists index item) (begun lists index client.endpoint client.path client.rights) server places
    client_next holds =
        let split = clients_split lists index item client there here in
        record {
          accepted = accepted;
          within = within;
          later = split.0;
          whole = split.1 ∙ ap (λ (bound : Bound). clients_among lists index item ++ bound ∷ split.0) client_is;
          holds = holds;
        }

  module _ (mount : MountItem) (there : slice_get lists.mounts item ≡ Some mount) (here : mount.target ≡ index) where
    pub end_is : end_of lists (item, mount) ≡ begun lists index (end_of_mount item) mount.at mount.rights
    end_is = ap (λ (n : ℕ). begun lists n (end_of_mount item) mount.at mount.rights) here

    pub end_next : HoldsJust lists index (bound_among lists index item) server places →
        IsNextBound lists index (bound_among lists index item) (begun lists index (end_of_mount item) mount.at mount.rights) server places
    end_next holds =
        let split = ends_split lists index item mount there here in
        record {
          accepted = accepted;
          within = within;
          later = split.0;
          whole = split.1 ∙ ap (λ (bound : Bound). bound_among lists index item ++ bound ∷ split.0) end_is;
          holds = holds;
        }

-- ---- the start

all_pass : {X : Type 0} (xs : List X) → filter (λ x. true) xs ≡ xs
all_pass [] = refl
all_pass (x ∷ xs) = ap (λ rest. x ∷ rest) (all_pass xs)

map_first : (xs : List Bound) → map (λ (pair : Bound × Position). pair.0) (map (with_position []) xs) ≡ xs
map_first [] = refl
map_first (x ∷ xs) = ap (λ rest. x ∷ rest) (map_first xs)

-- endpoints that are apart are found among those at a server where they are there
found_at : (index endpoint : ℕ) (xs : List Bound) → AllPairs OtherEndpoint xs →
    option_map (λ (bound : Bound). (bound, fresh)) (find (λ (bound : Bound). bound.endpoint == endpoint) (filter (λ (bound : Bound). bound.server == index) xs))
    ≡ if_at index (option_map (λ (bound : Bound). (bound, fresh)) (find (λ (bound : Bound). bound.endpoint == endpoint) xs))
found_at index endpoint [] h = refl
found_at index endpoint (x ∷ xs) h = by_tests (x.endpoint == endpoint) refl (x.server == index) refl (found_at index endpoint xs (pairs-tail OtherEndpoint x xs h)) where
  rest_none : x.endpoint ≡ endpoint → find (λ (bound : Bound). bound.endpoint == endpoint) (filter (λ (bound : Bound). bound.server == index) xs) ≡ None
  rest_none is =
      found_none (λ (bound : Bound). bound.endpoint == endpoint) (filter (λ (bound : Bound). bound.server == index) xs)
      (All-filter (λ (bound : Bound). bound.server == index) (λ (bound : Bound). (bound.endpoint == endpoint) ≡ false) xs
      (All-weaker (OtherEndpoint x) (λ (bound : Bound). (bound.endpoint == endpoint) ≡ false) (λ bound other. ne_eqb bound.endpoint endpoint (λ same. other (is ∙ sym same))) xs (pairs-head OtherEndpoint x xs h)))

  by_tests : (s : Bool) → (x.endpoint == endpoint) ≡ s → (t : Bool) → (x.server == index) ≡ t →
      option_map (λ (bound : Bound). (bound, fresh)) (find (λ (bound : Bound). bound.endpoint == endpoint) (filter (λ (bound : Bound). bound.server == index) xs))
      ≡ if_at index (option_map (λ (bound : Bound). (bound, fresh)) (find (λ (bound : Bound). bound.endpoint == endpoint) xs)) →
      option_map (λ (bound : Bound). (bound, fresh)) (find (λ (bound : Bound). bound.endpoint == endpoint) (filter (λ (bound : Bound). bound.server == index) (x ∷ xs)))
      ≡ if_at index (option_map (λ (bound : Bound). (bound, fresh)) (find (λ (bound : Bound). bound.endpoint == endpoint) (x ∷ xs)))
  by_tests true e true f rest = rw (f, e, f) refl
  by_tests true e false f rest =
      let none = rest_none (eqb-true x.endpoint endpoint e) in
      rw (f, e, f) (ap (option_map (λ (bound : Bound). (bound, fresh))) none)
  by_tests false e true f rest = rw (f, e) rest
  by_tests false e false f rest = rw (f, e) rest

module _ (lists : Lists) (accepted : AreAccepted lists) (index : ℕ) (within : index < length lists.servers) where
  lives : living (start_of lists) [] ≡ firsts_of lists ++ ends_of lists
  lives = all_pass (firsts_of lists ++ ends_of lists ++ []) ∙ append-nil (firsts_of lists ++ ends_of lists)

  bounds_are : bounds_in (view_of (start_of lists) []) ≡ firsts_of lists ++ ends_of lists
  bounds_are = map_first (living (start_of lists) []) ∙ lives

  living_are : living_at (view_of (start_of lists) []) index ≡ begins_with lists index
  living_are = ap (filter (λ (bound : Bound). bound.server == index)) bounds_are

  at_is : (endpoint : ℕ) → at_in (view_of (start_of lists) []) endpoint ≡ option_map (λ (bound : Bound). (bound, fresh)) (find (λ (bound : Bound). bound.endpoint == endpoint) (firsts_of lists ++ ends_of lists))
  at_is endpoint =
      find-map (with_position []) (λ (pair : Bound × Position). pair.0.endpoint == endpoint) (living (start_of lists) [])
      ∙ ap (λ (bounds : List Bound). option_map (with_position []) (find (λ (bound : Bound). bound.endpoint == endpoint) bounds)) lives

  tree_is : tree_at (start_of lists).trees index ≡ tree_of lists index
  tree_is =
      let size = length-range_with_len 0 (length lists.servers) in
      let here : 0 + index ≡ index = omega arith in
      get_or-map (tree_of lists) (range_with_len 0 (length lists.servers)) index 0 bare_tree (omega (arith, size, within))
      ∙ ap (tree_of lists) (get_or-range_with_len 0 (length lists.servers) index 0 within ∙ here)

  pub holds_start : (server : Server) (places : BTreeMap (Bor (List ℕ)) NodeRef) → HoldsJust lists index (begins_with lists index) server places → HoldsAt (view_of (start_of lists) []) server
  holds_start server places just = record {
    bound = λ endpoint.
        just.bound endpoint ∙ found_at index endpoint (firsts_of lists ++ ends_of lists) (apart lists accepted)
        ∙ ap (if_at index) (sym (at_is endpoint)) ∙ ap (λ (n : ℕ). if_at n (at_in (view_of (start_of lists) []) endpoint)) (sym just.at);
    count = just.count ∙ ap (λ (bounds : List Bound). length bounds) (sym living_are) ∙ ap (λ (n : ℕ). length (living_at (view_of (start_of lists) []) n)) (sym just.at);
    watchers =
        just.watchers
        ∙ sym (ap (λ (n : ℕ). filter (λ (bound : Bound). is_watcher bound.birth.protocol) (living_at (view_of (start_of lists) []) n)) just.at
        ∙ ap (filter (λ (bound : Bound). is_watcher bound.birth.protocol)) living_are
        ∙ none_chosen (λ (bound : Bound). is_watcher bound.birth.protocol) (begins_with lists index)
        (All-filter (λ (bound : Bound). bound.server == index) (λ (bound : Bound). is_watcher bound.birth.protocol ≡ false) (firsts_of lists ++ ends_of lists) (all_directories lists)));
    tokens = λ token. ap (λ (tokens : Tokens). option_map number_of (finite.get tokens token)) just.tokens ∙ ap (option_map number_of) (finite.get-empty nat_cmp token);
    tree = subst (StandsFor server.graph) (sym (ap (λ (n : ℕ). tree_at (start_of lists).trees n) just.at ∙ tree_is)) just.tree;
    holds = λ number.
        let here : bound_to (view_of (start_of lists) []) server.index number ≡ count_by (λ (bound : Bound). bound.birth.node == number) (begins_with lists index) =
        ap (λ (n : ℕ). bound_to (view_of (start_of lists) []) n number) just.at ∙ ap (count_by (λ (bound : Bound). bound.birth.node == number)) living_are in
        let none : named_by (view_of (start_of lists) []) server.index number ≡ 0 = refl in
        let before = just.holds number in
        omega (arith, here, none, before);
  }

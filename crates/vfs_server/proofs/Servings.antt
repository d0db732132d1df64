-- What a server is behind a serving.
use Rattle.std.proofs.Common.{◌≡◌, ◌≢◌, ◌∙◌, ◌==◌, ℕ, ◌+◌, ◌<◌, ◌≤◌, ◌++◌, Bool, true, false, cond, List, [], ◌∷◌, length, All, Option, Some, None, Result, Ok, Err, IfOk, OnErr, refl, sym, ap, subst, arith, rules, append-nil, append_assoc, nat_le}
use Rattle.std.specs.Prelude.{filter, find, if◌then◌else◌}
use Rattle.std.proofs.lemmas.Bool.{eqb-true, eq-eqb, ne_eqb}
use Rattle.std.proofs.lemmas.Bool.Decides.{nat_tests}
use Rattle.std.proofs.lemmas.List.Elements.{All-nil}
use Rattle.std.specs.FinMap as finite
use Rattle.std.specs.Option.{option_map, option_map_or}
use Rattle.fidl_names.specs.declared.limits.TheConstants as limit
use Rattle.fidl_names.specs.declared.methods.Handle.{Handle}
use Rattle.link_frames.specs.Frames.{Frame, spellings}
use Rattle.io_messages.specs.declared.protocols.Protocol.{Protocol}
use Rattle.io_messages.specs.declared.protocols.Protocol.TheVariants as protocol
use Rattle.io_messages.specs.Requests.{request_of}
use Rattle.node_graph.specs.declared.nodes.NodeKind.{NodeKind}
use Rattle.node_graph.specs.declared.nodes.NodeKind.TheVariants.{Directory, File, Service, Mount}
use Rattle.node_graph.specs.Graph.{Kept, kind_at, number_of}
use Rattle.conn_rules.specs.declared.births.Birth as code
use Rattle.conn_rules.specs.declared.births.Room.{Room}
use Rattle.conn_rules.specs.Answers.{only, silent}
use Rattle.conn_rules.specs.Births.{Connection, Position, fresh}
use Rattle.conn_rules.specs.Opens.{is_full}
use Rattle.conn_rules.specs.Served.{KeepsHolds}
use Rattle.conn_rules.specs.Shared.{CanBeBound, is_spoken_at}
use Rattle.vfs_journal.specs.Entries.{message}
use Rattle.vfs_journal.specs.Handles.{AreByNumber, numbers_of}
use Rattle.vfs_journal.specs.Outcomes.{Outcome, outcome_with}
use Rattle.vfs_journal.specs.Output.{Begins}
use Rattle.vfs_journal.specs.Serving.{Moment, asker_of, outcome_of_message, outcome_of_read, outcome_of_sending, read_by}
use Rattle.vfs_journal.specs.Starts.{Bound}
use Rattle.vfs_journal.specs.View.{moved}
use Rattle.vfs_journal.specs.Watching.{first_frames, told_frames}
use Rattle.vfs_server.specs.declared.asking.Asking.{Asking}
use Rattle.vfs_server.specs.declared.deed.Deed.{Deed}
use Rattle.vfs_server.specs.declared.deed.Deed.TheVariants as deeds
use Rattle.vfs_server.specs.declared.watching.Seat.{Seat}
use Rattle.vfs_server.specs.Binding.{IsDirectory}
use Rattle.vfs_server.specs.Effects.{effects_done}
use Rattle.vfs_server.specs.Kept.{Connections, IsSound, Tokens}
use Rattle.vfs_server.specs.Servers.{bound_with, connected, in_use, seen_as}
use Rattle.vfs_server.specs.Serving.{IsMomentOf, frames_here, room_at}
use Rattle.vfs_server.specs.Steps.{Answers, AreNamed, CanBeTold, CanTell, Done, HasAnswered, IsAskedAt, IsPassedOver, room_for}
use Rattle.vfs_server.specs.Seats.{Seats, is_at, seat_at}
use Rattle.vfs_server.specs.Telling.{IsShort, told_of}
use Rattle.vfs_server.specs.Watched.{bound_at, bounds_at, first_of}
use Rattle.vfs_server.proofs.Answering.{no_watcher, ok_map}
use Rattle.vfs_server.proofs.Binding.{in_use_is, seen_watching, server_of}
use Rattle.vfs_server.proofs.Maps.{standing, same, other, get_put, get_put_other, as_long}
use Rattle.vfs_server.proofs.Seats.{counted_as, seated}
use Rattle.vfs_server.proofs.Sound.{sound_served}
use Rattle.vfs_server.proofs.Told.{first_is, one_behind, told_is}

-- ---- directories

-- what is spoken of as a directory is one
spoken_directory : (kind : Option NodeKind) → option_map_or (is_spoken_at protocol.Directory) kind false ≡ true → kind ≡ Some Directory
spoken_directory None spoken = search rules
spoken_directory (Some Directory) spoken = refl
spoken_directory (Some File) spoken = search rules
spoken_directory (Some Service) spoken = search rules
spoken_directory (Some (Mount index)) spoken = search rules

pub is_directory : (graph : Kept) (birth : code.Birth) → CanBeBound graph birth → birth.protocol ≡ protocol.Directory → IsDirectory graph birth.node
is_directory graph birth can is = record {
  kept = can.named;
  kind = spoken_directory (kind_at graph (number_of birth.node)) (subst (λ (p : Protocol). option_map_or (is_spoken_at p) (kind_at graph (number_of birth.node)) false ≡ true) is can.spoken);
}

-- ---- messages

by_protocol : (moment : Moment) (p : Protocol) (bytes numbers : List ℕ) → p ≢ protocol.Watcher →
    outcome_of_message moment p bytes numbers ≡ outcome_of_read moment (read_by p bytes numbers)
by_protocol moment protocol.Directory bytes numbers isnt = refl
by_protocol moment protocol.File bytes numbers isnt = refl
by_protocol moment protocol.Node bytes numbers isnt = refl
by_protocol moment protocol.Echo bytes numbers isnt = refl
by_protocol moment protocol.Watcher bytes numbers isnt = absurd (isnt refl)

pub of_message : (moment : Moment) (p : Protocol) (bytes : List ℕ) (handles : List Handle) → moment.bound.birth.protocol ≡ p → p ≢ protocol.Watcher → AreByNumber handles →
    outcome_of_read moment (request_of p bytes handles) ≡ outcome_of_sending moment (message bytes (numbers_of handles))
unfolding outcome_of_sending
of_message moment p bytes handles is isnt numbered =
    ap (λ hs. outcome_of_read moment (request_of p bytes hs)) (sym numbered)
    ∙ sym (by_protocol moment p bytes (numbers_of handles) isnt)
    ∙ ap (λ q. outcome_of_message moment q bytes (numbers_of handles)) (sym is)

-- what is sent to a watcher answers nothing
of_watcher : (moment : Moment) (bytes numbers : List ℕ) → moment.bound.birth.protocol ≡ protocol.Watcher →
    outcome_of_sending moment (message bytes numbers) ≡ outcome_with (asker_of moment.bound 0 0) (only moment.position silent)
unfolding outcome_of_sending
of_watcher moment bytes numbers is = ap (λ p. outcome_of_message moment p bytes numbers) is

-- ---- room

pub below : (limit_is n : ℕ) → nat_le limit_is n ≡ false → n < limit_is
below limit_is n free =
    let least : limit_is ≤ n → ⊥ = λ over. grind (arith, nat_tests) in
    omega (arith, least)

not_full : (room : Room) (n : ℕ) → room.connections ≡ n → is_full room ≡ false → n < limit.MAX_CONNECTIONS
not_full room n is free = let few = below limit.MAX_CONNECTIONS room.connections free in omega (arith, is, few)

-- ---- who moves

-- a watcher is found at its own endpoint
found_there : (endpoint : ℕ) (bounds : List Bound) (bound : Bound) → find (λ (one : Bound). one.endpoint == endpoint) bounds ≡ Some bound → bound.endpoint ≡ endpoint
found_there endpoint [] bound there = absurd (cc)
found_there endpoint (one ∷ later) bound there = by_test (one.endpoint == endpoint) refl there (found_there endpoint later bound) where
  by_test : (b : Bool) → (one.endpoint == endpoint) ≡ b → cond b (Some one) (find (λ (o : Bound). o.endpoint == endpoint) later) ≡ Some bound →
      (find (λ (o : Bound). o.endpoint == endpoint) later ≡ Some bound → bound.endpoint ≡ endpoint) → bound.endpoint ≡ endpoint
  by_test true is at rest = let same_one : one ≡ bound = cc in ap (λ (b : Bound). b.endpoint) (sym same_one) ∙ eqb-true one.endpoint endpoint is
  by_test false is at rest = rest at

-- so whoever is seen is seen at its own endpoint
seen_there : (index endpoint : ℕ) (bounds : List Bound) (o : Option Connection) (pair : Bound × Position) → seen_as index bounds endpoint o ≡ Some pair → pair.0.endpoint ≡ endpoint
seen_there index endpoint bounds (Some connection) pair there = let same_one : connected index endpoint connection ≡ pair = cc in ap (λ (p : Bound × Position). p.0.endpoint) (sym same_one)
seen_there index endpoint bounds None pair there = by_found (find (λ (one : Bound). one.endpoint == endpoint) bounds) refl there where
  by_found : (f : Option Bound) → find (λ (one : Bound). one.endpoint == endpoint) bounds ≡ f → option_map (λ (bound : Bound). (bound, fresh)) f ≡ Some pair → pair.0.endpoint ≡ endpoint
  by_found None is at = absurd (cc)
  by_found (Some bound) is at = let same_one : (bound, fresh) ≡ pair = cc in ap (λ (p : Bound × Position). p.0.endpoint) (sym same_one) ∙ found_there endpoint bounds bound is

-- others don't move
others_stay : (index served endpoint : ℕ) (bounds : List Bound) (o : Option Connection) (position : Position) → endpoint ≢ served →
    option_map (moved served position) (seen_as index bounds endpoint o) ≡ seen_as index bounds endpoint o
others_stay index served endpoint bounds o position apart = by_seen (seen_as index bounds endpoint o) refl where
  by_seen : (s : Option (Bound × Position)) → seen_as index bounds endpoint o ≡ s → option_map (moved served position) s ≡ s
  by_seen None is = refl
  by_seen (Some pair) is = ap (λ t. Some (if t then (pair.0, position) else pair)) (ne_eqb pair.0.endpoint served (λ e. apart (sym (seen_there index endpoint bounds o pair is) ∙ e)))

-- ---- on a connection

module _ (index : ℕ) (graph : Kept) (connections : Connections) (seats : Seats) (tokens : Tokens) (asking : Asking) (handles : List ℕ) (moment : Moment) (old : Connection)
    (there : finite.get connections asking.endpoint ≡ Some old) (used : asking.connections ≡ finite.len connections + length seats) (who : asking.watching.now ≡ seats)
    (asked : IsMomentOf (server_of index graph connections seats tokens) asking.endpoint asking.token handles moment) where
  both : (connected index asking.endpoint old) ≡ (moment.bound, moment.position)
  both =
      let one : Some (connected index asking.endpoint old) ≡ Some (moment.bound, moment.position) = sym (ap (seen_as index (bounds_at index seats) asking.endpoint) there) ∙ asked.bound in
      cc

  pub bound_is : moment.bound ≡ bound_with index asking.endpoint old.birth
  bound_is = sym (ap (λ (pair : Bound × Position). pair.0) both)

  -- the moment speaks of this server
  pub at_server : index ≡ moment.bound.server
  at_server = sym (ap (λ (bound : Bound). bound.server) bound_is)

  node_is : moment.bound.birth.node ≡ number_of old.birth.node
  node_is = ap (λ (bound : Bound). bound.birth.node) bound_is

  -- what comes with a message names there what it names here
  pub named_is : AreNamed tokens handles moment.directory
  named_is = asked.directory

  watchers_are : (node : ℕ) → length (filter (λ (bound : Bound). bound.birth.node == node) (bounds_at index seats)) ≡ length (filter (is_at node) asking.watching.now)
  watchers_are node = counted_as index node seats ∙ ap (λ (found : Seats). length (filter (is_at node) found)) (sym who)

  room_is : moment.room ≡ room_for asking (number_of old.birth.node)
  room_is =
      asked.room ∙ ap (λ node. room_at (server_of index graph connections seats tokens) node asking.token) node_is
      ∙ (λ i. record {
        connections = (in_use_is index graph connections seats tokens ∙ sym used) i;
        watchers = watchers_are (number_of old.birth.node) i;
        token = asking.token;
      })

  pub is_asked : IsAskedAt index asking graph old moment
  is_asked = record {
    bound = bound_is;
    position = sym (ap (λ (pair : Bound × Position). pair.1) both);
    room = room_is;
    tree = asked.tree;
  }

  module _ (changed : Kept) (new : Connection) (outcome : Outcome) (done : Done) (before between behind : List ℕ)
      (answers : Answers moment outcome done new graph changed before between) (keeps : KeepsHolds old new graph changed) (can_still : CanBeBound changed new.birth)
      (telling : behind ≡ between ++ spellings (first_of changed.edges done.deed ++ told_of seats done.told)) where
    firsts_are : option_map_or (λ bound. first_frames moment.tree bound) outcome.bound [] ≡ first_of changed.edges done.deed
    firsts_are =
        first_is moment.tree changed outcome.change moment.bound.endpoint moment.bound.server done.deed outcome.bound (answers.change moment.tree asked.tree)
        (λ object mask directory is. let watched = answers.watched object mask directory is in watched.still) (ap (λ e. e.bound) answers.effects)

    told_are : told_frames (bounds_at index seats) moment.bound.server outcome.told ≡ told_of seats done.told
    told_are = ap (λ (bound : Bound). told_frames (bounds_at index seats) bound.server outcome.told) bound_is ∙ told_is index seats outcome.told ∙ ap (told_of seats) answers.told

    frames_are : frames_here moment (bounds_at index seats) outcome ≡ outcome.frames ++ (first_of changed.edges done.deed ++ told_of seats done.told)
    frames_are =
        (λ i. outcome.frames ++ firsts_are i ++ told_are i)
        ∙ append_assoc outcome.frames (first_of changed.edges done.deed) (told_of seats done.told)

    endpoint_is : moment.bound.endpoint ≡ asking.endpoint
    endpoint_is = ap (λ (bound : Bound). bound.endpoint) bound_is

    moved_here : (one : ℕ) → one ≡ asking.endpoint → moved moment.bound.endpoint outcome.position (connected index one old) ≡ connected index one new
    moved_here one e =
        ap (λ t. if t then (bound_with index one old.birth, outcome.position) else connected index one old) (eq-eqb one moment.bound.endpoint (e ∙ sym endpoint_is))
        ∙ ap (λ (position : Position). (bound_with index one old.birth, position)) (sym answers.position)
        ∙ ap (λ (birth : code.Birth). (bound_with index one birth, new.position)) (sym keeps.birth)

    abbrev served : Connections
    served = finite.insert connections asking.endpoint new

    in_use_now : in_use (server_of index changed served seats tokens) ≡ in_use (server_of index graph connections seats tokens)
    in_use_now = omega (arith, as_long connections asking.endpoint old new there)

    few_now : is_full moment.room ≡ false → in_use (server_of index changed served seats tokens) < limit.MAX_CONNECTIONS
    few_now free =
        let few = not_full moment.room (in_use (server_of index graph connections seats tokens)) (ap (λ (room : Room). room.connections) asked.room) free in
        omega (arith, in_use_now, few)

    pub serves : HasAnswered moment outcome done.deed (server_of index graph connections seats tokens) (server_of index changed served seats tokens) before behind
    serves = record {
      frames = one_behind before between behind outcome.frames _ answers.frames telling ∙ ap (λ (fs : List Frame). before ++ spellings fs) (sym frames_are);
      effects = answers.effects;
      index = refl;
      bound = λ one. elim (standing one asking.endpoint) [
        | same e b ↦
            ap (seen_as index (bounds_at index seats) one) (ap (finite.get served) e ∙ get_put connections asking.endpoint new)
            ∙ ap Some (sym (moved_here one e))
            ∙ sym (ap (λ o. option_map (moved moment.bound.endpoint outcome.position) (seen_as index (bounds_at index seats) one o)) (ap (finite.get connections) e ∙ there))
        | other e b ↦
            ap (seen_as index (bounds_at index seats) one) (get_put_other connections asking.endpoint one new e)
            ∙ sym (others_stay index moment.bound.endpoint one (bounds_at index seats) (finite.get connections one) outcome.position (λ is. e (is ∙ endpoint_is)))
      ];
      count = in_use_now;
      watchers = refl;
      tokens = refl;
      tree = answers.change;
      holds = keeps.holds;
      has_place = λ object birth is. record { node = answers.bound object birth is; room = few_now (answers.room object birth is) };
      watched = λ object mask directory is.
          let watched = answers.watched object mask directory is in
          record {
            directory = subst (IsDirectory changed) watched.here.node (is_directory changed new.birth can_still watched.here.protocol);
            room = few_now watched.room;
            few =
                subst (λ (node : ℕ). length (filter (λ (bound : Bound). bound.birth.node == node) (bounds_at index seats)) < limit.MAX_WATCHERS)
                (node_is ∙ ap (λ (birth : code.Birth). number_of birth.node) (sym keeps.birth) ∙ ap number_of watched.here.node)
                (subst (λ (n : ℕ). n < limit.MAX_WATCHERS) (ap (λ (room : Room). room.watchers) asked.room) (below limit.MAX_WATCHERS moment.room.watchers watched.few));
          };
      given = λ given_token directory is.
          let on = answers.given given_token directory is in
          subst (IsDirectory changed) on.node (is_directory changed new.birth can_still on.protocol);
      mounted = answers.mounted;
    }

  -- a message that was served on it
  pub serves_message : (changed : Kept) (new : Connection) (bytes : List ℕ) (sent : List Handle) (done : Done) (before between behind : List ℕ) →
      numbers_of sent ≡ handles → AreByNumber sent → CanBeBound graph old.birth → KeepsHolds old new graph changed → CanBeBound changed new.birth →
      Answers moment (outcome_of_read moment (request_of old.birth.protocol bytes sent)) done new graph changed before between →
      behind ≡ between ++ spellings (first_of changed.edges done.deed ++ told_of seats done.told) →
      HasAnswered moment (outcome_of_sending moment (message bytes handles)) done.deed
      (server_of index graph connections seats tokens) (server_of index changed (finite.insert connections asking.endpoint new) seats tokens) before behind
  serves_message changed new bytes sent done before between behind same_handles numbered can keeps can_still answers telling =
      let outcome_is = of_message moment old.birth.protocol bytes sent (ap (λ (bound : Bound). bound.birth.protocol) bound_is) (no_watcher old.birth.protocol _ can.spoken) numbered
      ∙ ap (λ (numbers : List ℕ). outcome_of_sending moment (message bytes numbers)) same_handles in
      subst (λ outcome. HasAnswered moment outcome done.deed (server_of index graph connections seats tokens) (server_of index changed (finite.insert connections asking.endpoint new) seats tokens) before behind) outcome_is
      (serves changed new (outcome_of_read moment (request_of old.birth.protocol bytes sent)) done before between behind answers keeps can_still telling)

-- ---- on a watcher

-- a message that is passed over
module _ (index : ℕ) (graph : Kept) (connections : Connections) (seats : Seats) (tokens : Tokens) (endpoint : ℕ) (token : Option ℕ) (handles : List ℕ) (moment : Moment) (seat : Seat)
    (free : finite.get connections endpoint ≡ None) (there : seat_at seats endpoint ≡ Some seat)
    (asked : IsMomentOf (server_of index graph connections seats tokens) endpoint token handles moment) where
  pair_is : seated index endpoint seat ≡ (moment.bound, moment.position)
  pair_is =
      let one : Some (seated index endpoint seat) ≡ Some (moment.bound, moment.position) =
      sym (seen_watching index endpoint seats (finite.get connections endpoint) free ∙ ap (option_map (seated index endpoint)) there) ∙ asked.bound in
      cc

  watcher_is : moment.bound ≡ bound_at index (endpoint, seat)
  watcher_is = sym (ap (λ (pair : Bound × Position). pair.0) pair_is)

  pub watched_at : index ≡ moment.bound.server
  watched_at = sym (ap (λ (bound : Bound). bound.server) watcher_is)

  -- whoever is moved to its own position stays
  all_stay : (one : ℕ) (o : Option Connection) → finite.get connections one ≡ o →
      seen_as index (bounds_at index seats) one o ≡ option_map (moved moment.bound.endpoint moment.position) (seen_as index (bounds_at index seats) one o)
  all_stay one o is = elim (standing one endpoint) [
    | same e b ↦
        here one e o is
    | other e b ↦ sym (others_stay index moment.bound.endpoint one (bounds_at index seats) o moment.position (λ at. e (at ∙ ap (λ (bound : Bound). bound.endpoint) watcher_is)))
  ]
    where
      here : (one : ℕ) → one ≡ endpoint → (o : Option Connection) → finite.get connections one ≡ o →
          seen_as index (bounds_at index seats) one o ≡ option_map (moved moment.bound.endpoint moment.position) (seen_as index (bounds_at index seats) one o)
      here one e o is =
          let seen_is : seen_as index (bounds_at index seats) one o ≡ Some (moment.bound, moment.position) =
          ap (seen_as index (bounds_at index seats) one) (sym is) ∙ ap (λ (n : ℕ). seen_as index (bounds_at index seats) n (finite.get connections n)) e ∙ asked.bound in
          seen_is ∙ sym (ap (option_map (moved moment.bound.endpoint moment.position)) seen_is
          ∙ ap (λ t. Some (if t then (moment.bound, moment.position) else (moment.bound, moment.position))) (eq-eqb moment.bound.endpoint moment.bound.endpoint refl))

  pub passes_over : (bytes : List ℕ) (done : Done) (before between behind : List ℕ) → IsPassedOver done → between ≡ before →
      behind ≡ between ++ spellings (first_of graph.edges done.deed ++ told_of seats done.told) →
      HasAnswered moment (outcome_of_sending moment (message bytes handles)) done.deed (server_of index graph connections seats tokens) (server_of index graph connections seats tokens) before behind
  passes_over bytes done before between behind passed kept telling =
      subst (λ outcome. HasAnswered moment outcome done.deed (server_of index graph connections seats tokens) (server_of index graph connections seats tokens) before behind)
      (sym (of_watcher moment bytes handles (ap (λ (bound : Bound). bound.birth.protocol) watcher_is)))
      (record {
        frames = telling ∙ (λ i. kept i ++ spellings (first_of graph.edges (passed.deed i) ++ told_of seats (passed.told i)));
        effects = ap (λ (fate : Deed). effects_done moment.bound.endpoint moment.bound.server fate) (sym passed.deed);
        index = refl;
        bound = λ one. all_stay one (finite.get connections one) refl;
        count = refl;
        watchers = refl;
        tokens = refl;
        tree = λ tree stands. stands;
        holds = λ number. refl;
        has_place = λ object birth is. absurd (let wrong : deeds.Stays ≡ deeds.Binds object birth = sym passed.deed ∙ is in search rules);
        watched = λ object mask directory is. absurd (let wrong : deeds.Stays ≡ deeds.Watches object directory mask = sym passed.deed ∙ is in search rules);
        given = λ given_token directory is. absurd (let wrong : deeds.Stays ≡ deeds.Gives given_token directory = sym passed.deed ∙ is in search rules);
        mounted = λ mount object flags rest is. absurd (let wrong : deeds.Stays ≡ deeds.Forwards mount object flags rest = sym passed.deed ∙ is in search rules);
      })

-- ---- what can be told

pub can_be_told : (asking : Asking) (sent : List Handle) (changed : Kept) (new : Connection) (done : Done) (before after : List ℕ) → CanBeBound changed new.birth → CanTell asking sent done new before after → CanBeTold changed done
can_be_told asking sent changed new done before after can tells = record {
  directory = λ object mask directory is.
      let on = tells.directory object mask directory is in
      subst (IsDirectory changed) on.node (is_directory changed new.birth can on.protocol);
  short = tells.short;
}

pub nothing_told_of : (graph : Kept) (done : Done) → IsPassedOver done → CanBeTold graph done
nothing_told_of graph done passed = record {
  directory = λ object mask directory is. absurd (let wrong : deeds.Stays ≡ deeds.Watches object directory mask = sym passed.deed ∙ is in search rules);
  short = subst (All IsShort) (sym passed.told) (All-nil IsShort);
}

pub ok_at : {X E : Type 0} (P : X → Type 0) (r : Result X E) (x : X) → r ≡ Ok x → IfOk r P → P x
ok_at P r x is holds = subst (λ one. IfOk one P) is holds

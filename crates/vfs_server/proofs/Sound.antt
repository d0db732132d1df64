-- A server is sound behind one connection, watcher or token more or less, and behind a serving.
use Rattle.std.proofs.Common.{◌≡◌, ℕ, ◌+◌, ◌-◌, ◌<◌, ◌==◌, Bool, true, false, [], ◌∷◌, ◌++◌, length, length-append, Some, None, refl, sym, ap, ◌∙◌, subst, arith}
use Rattle.std.specs.Prelude.{IsSome, if◌then◌else◌}
use Rattle.std.specs.FinMap as finite
use Rattle.std.proofs.lemmas.Bool.{eqb-true}
use Rattle.std.proofs.lemmas.List.Elements.{All-push}
use Rattle.fidl_names.specs.declared.limits.TheConstants as limit
use Rattle.node_graph.specs.declared.nodes.NodeRef.{NodeRef}
use Rattle.node_graph.specs.Graph.{Kept, HoldsNow, KeepsNames, holds_at, number_of}
use Rattle.conn_rules.specs.declared.births.Birth as code
use Rattle.conn_rules.specs.Births.{Connection}
use Rattle.conn_rules.specs.Served.{KeepsHolds}
use Rattle.conn_rules.specs.Shared.{CanBeBound}
use Rattle.vfs_server.specs.Binding.{IsDirectory}
use Rattle.vfs_server.specs.declared.watching.Seat.{Seat}
use Rattle.vfs_server.specs.Seats.{Seats, seat_at, watched_by, without}
use Rattle.vfs_server.specs.Kept.{Connections, IsSound, Tokens, naming}
use Rattle.vfs_server.proofs.Maps.{standing, same, other, count_put, count_cut, count_again, get_put, get_put_other, get_cut, get_cut_other, longer, shorter, as_long}
use Rattle.vfs_server.proofs.Held.{held_by, held_less, held_more, sound_again, to_node, at_node}
use Rattle.vfs_server.proofs.SeatLists.{all_less, at_more, count_less, count_more, length_less, other_less}

-- ---- one connection more

module _ (old new : Kept) (connections : Connections) (seats : Seats) (tokens : Tokens) (endpoint : ℕ) (connection : Connection) (sound : IsSound old connections seats tokens)
    (free : finite.get connections endpoint ≡ None) (unwatched : seat_at seats endpoint ≡ None) (can : CanBeBound old connection.birth)
    (held : HoldsNow old new (number_of connection.birth.node) (holds_at old (number_of connection.birth.node) + 1)) (keeps : KeepsNames old new)
    (few : finite.len connections + length seats < limit.MAX_CONNECTIONS) where
  could : (other_one : ℕ) (found : Connection) → finite.get (finite.insert connections endpoint connection) other_one ≡ Some found → CanBeBound old found.birth
  could other_one found there = elim (standing other_one endpoint) [
    | same e b ↦
        let is : Some connection ≡ Some found = sym (ap (finite.get (finite.insert connections endpoint connection)) e ∙ get_put connections endpoint connection) ∙ there in
        let same_one : connection ≡ found = cc in
        subst (λ (one : Connection). CanBeBound old one.birth) same_one can
    | other e b ↦ sound.each other_one found (sym (get_put_other connections endpoint other_one connection e) ∙ there)
  ]

  apart_more : (one : ℕ) → IsSome (finite.get (finite.insert connections endpoint connection) one) → seat_at seats one ≡ None
  apart_more one some = elim (standing one endpoint) [
    | same e b ↦ ap (seat_at seats) e ∙ unwatched
    | other e b ↦ sound.apart one (subst IsSome (get_put_other connections endpoint one connection e) some)
  ]

  pub sound_more : IsSound new (finite.insert connections endpoint connection) seats tokens
  sound_more =
      sound_again old new (finite.insert connections endpoint connection) seats tokens
      (record {
        each = could;
        watched = sound.watched;
        named = sound.named;
        apart = apart_more;
        few = omega (arith, longer connections endpoint connection free, few);
        rare = sound.rare;
      })
      (held_more old new (number_of connection.birth.node) (held_by connections seats tokens) (held_by (finite.insert connections endpoint connection) seats tokens) held sound.holds
      (λ number. let more = count_put (to_node number) connections endpoint connection free in omega (arith, more)))
      keeps

-- ---- one connection less

module _ (old new : Kept) (connections : Connections) (seats : Seats) (tokens : Tokens) (endpoint : ℕ) (connection : Connection) (sound : IsSound old connections seats tokens)
    (there : finite.get connections endpoint ≡ Some connection)
    (held : HoldsNow old new (number_of connection.birth.node) (holds_at old (number_of connection.birth.node) - 1)) (keeps : KeepsNames old new) where
  still_could : (other_one : ℕ) (found : Connection) → finite.get (finite.remove connections endpoint) other_one ≡ Some found → CanBeBound old found.birth
  still_could other_one found at = elim (standing other_one endpoint) [
    | same e b ↦
        let wrong : None ≡ Some found = sym (ap (finite.get (finite.remove connections endpoint)) e ∙ get_cut connections endpoint) ∙ at in
        absurd (cc)
    | other e b ↦ sound.each other_one found (sym (get_cut_other connections endpoint other_one e) ∙ at)
  ]

  apart_less : (one : ℕ) → IsSome (finite.get (finite.remove connections endpoint) one) → seat_at seats one ≡ None
  apart_less one some = elim (standing one endpoint) [
    | same e b ↦
        let none : false ≡ true = subst IsSome (ap (finite.get (finite.remove connections endpoint)) e ∙ get_cut connections endpoint) some in
        absurd (cc)
    | other e b ↦ sound.apart one (subst IsSome (get_cut_other connections endpoint one e) some)
  ]

  pub sound_less : IsSound new (finite.remove connections endpoint) seats tokens
  sound_less =
      let few = sound.few in
      sound_again old new (finite.remove connections endpoint) seats tokens
      (record {
        each = still_could;
        watched = sound.watched;
        named = sound.named;
        apart = apart_less;
        few = omega (arith, shorter connections endpoint connection there, few);
        rare = sound.rare;
      })
      (held_less old new (number_of connection.birth.node) (held_by connections seats tokens) (held_by (finite.remove connections endpoint) seats tokens) held sound.holds
      (λ number. let less = count_cut (to_node number) connections endpoint connection there in omega (arith, less)))
      keeps

-- ---- one served

module _ (graph changed : Kept) (connections : Connections) (seats : Seats) (tokens : Tokens) (endpoint : ℕ) (connection served : Connection) (sound : IsSound graph connections seats tokens)
    (there : finite.get connections endpoint ≡ Some connection) (keeps : KeepsHolds connection served graph changed) where
  as_before : (other_one : ℕ) (found : Connection) → finite.get (finite.insert connections endpoint served) other_one ≡ Some found → CanBeBound graph found.birth
  as_before other_one found at = elim (standing other_one endpoint) [
    | same e b ↦
        let is : Some served ≡ Some found = sym (ap (finite.get (finite.insert connections endpoint served)) e ∙ get_put connections endpoint served) ∙ at in
        let same_one : served ≡ found = cc in
        subst (CanBeBound graph) (sym keeps.birth ∙ ap (λ (one : Connection). one.birth) same_one) (sound.each endpoint connection there)
    | other e b ↦ sound.each other_one found (sym (get_put_other connections endpoint other_one served e) ∙ at)
  ]

  apart_served : (one : ℕ) → IsSome (finite.get (finite.insert connections endpoint served) one) → seat_at seats one ≡ None
  apart_served one some = elim (standing one endpoint) [
    | same e b ↦ sound.apart one (subst IsSome (sym (ap (finite.get connections) e ∙ there)) refl)
    | other e b ↦ sound.apart one (subst IsSome (get_put_other connections endpoint one served e) some)
  ]

  pub sound_served : IsSound changed (finite.insert connections endpoint served) seats tokens
  sound_served =
      let before = sound.few in
      sound_again graph changed (finite.insert connections endpoint served) seats tokens
      (record {
        each = as_before;
        watched = sound.watched;
        named = sound.named;
        apart = apart_served;
        few = omega (arith, as_long connections endpoint connection served there, before);
        rare = sound.rare;
      })
      (λ number.
      keeps.holds number ∙ sound.holds number
      ∙ ap (λ n. n + watched_by number seats + naming number tokens) (sym (count_again (to_node number) connections endpoint connection served there (ap (λ (birth : code.Birth). number_of birth.node == number) keeps.birth))))
      keeps.names

-- ---- one watcher more

module _ (old new : Kept) (connections : Connections) (seats : Seats) (tokens : Tokens) (endpoint : ℕ) (seat : Seat) (sound : IsSound old connections seats tokens)
    (free : finite.get connections endpoint ≡ None) (unwatched : seat_at seats endpoint ≡ None) (is_one : IsDirectory old seat.directory)
    (held : HoldsNow old new (number_of seat.directory) (holds_at old (number_of seat.directory) + 1)) (keeps : KeepsNames old new)
    (few : finite.len connections + length seats < limit.MAX_CONNECTIONS) where
  abbrev more_seats : Seats
  more_seats = seats ++ (endpoint, seat) ∷ []

  apart_watched : (one : ℕ) → IsSome (finite.get connections one) → seat_at more_seats one ≡ None
  apart_watched one some = at_more endpoint one seat seats unwatched ∙ by_same (one == endpoint) refl where
    by_same : (b : Bool) → (one == endpoint) ≡ b → (if b then Some seat else seat_at seats one) ≡ None
    by_same true is =
        let none : false ≡ true = subst IsSome (ap (finite.get connections) (eqb-true one endpoint is) ∙ free) some in
        absurd (cc)
    by_same false is = sound.apart one some

  pub sound_watched : IsSound new connections more_seats tokens
  sound_watched =
      let size = length-append seats ((endpoint, seat) ∷ []) in
      sound_again old new connections more_seats tokens
      (record {
        each = sound.each;
        watched = All-push (λ (entry : ℕ × Seat). IsDirectory old entry.1.directory) seats (endpoint, seat) sound.watched is_one;
        named = sound.named;
        apart = apart_watched;
        few = omega (arith, size, few);
        rare = sound.rare;
      })
      (held_more old new (number_of seat.directory) (held_by connections seats tokens) (held_by connections more_seats tokens) held sound.holds
      (λ number. let more = count_more number (endpoint, seat) seats in omega (arith, more)))
      keeps

-- ---- one watcher less

module _ (old new : Kept) (connections : Connections) (seats : Seats) (tokens : Tokens) (endpoint : ℕ) (seat : Seat) (sound : IsSound old connections seats tokens)
    (there : seat_at seats endpoint ≡ Some seat) (gone : seat_at (without endpoint seats) endpoint ≡ None)
    (held : HoldsNow old new (number_of seat.directory) (holds_at old (number_of seat.directory) - 1)) (keeps : KeepsNames old new) where
  apart_unwatched : (one : ℕ) → IsSome (finite.get connections one) → seat_at (without endpoint seats) one ≡ None
  apart_unwatched one some = elim (standing one endpoint) [
    | same e b ↦ ap (seat_at (without endpoint seats)) e ∙ gone
    | other e b ↦ other_less endpoint one seats e ∙ sound.apart one some
  ]

  pub sound_unwatched : IsSound new connections (without endpoint seats) tokens
  sound_unwatched =
      let few = sound.few in
      sound_again old new connections (without endpoint seats) tokens
      (record {
        each = sound.each;
        watched = all_less endpoint (λ (entry : ℕ × Seat). IsDirectory old entry.1.directory) seats sound.watched;
        named = sound.named;
        apart = apart_unwatched;
        few = omega (arith, length_less endpoint seat seats there, few);
        rare = sound.rare;
      })
      (held_less old new (number_of seat.directory) (held_by connections seats tokens) (held_by connections (without endpoint seats) tokens) held sound.holds
      (λ number. let less = count_less endpoint number seat seats there in omega (arith, less)))
      keeps

-- ---- one token more

module _ (old new : Kept) (connections : Connections) (seats : Seats) (tokens : Tokens) (token : ℕ) (directory : NodeRef) (sound : IsSound old connections seats tokens)
    (free : finite.get tokens token ≡ None) (is_one : IsDirectory old directory)
    (held : HoldsNow old new (number_of directory) (holds_at old (number_of directory) + 1)) (keeps : KeepsNames old new)
    (room : finite.len tokens < limit.MAX_TOKENS) where
  was_one : (other_one : ℕ) (found : NodeRef) → finite.get (finite.insert tokens token directory) other_one ≡ Some found → IsDirectory old found
  was_one other_one found there = elim (standing other_one token) [
    | same e b ↦
        let is : Some directory ≡ Some found = sym (ap (finite.get (finite.insert tokens token directory)) e ∙ get_put tokens token directory) ∙ there in
        let same_one : directory ≡ found = cc in
        subst (IsDirectory old) same_one is_one
    | other e b ↦ sound.named other_one found (sym (get_put_other tokens token other_one directory e) ∙ there)
  ]

  pub sound_given : IsSound new connections seats (finite.insert tokens token directory)
  sound_given =
      sound_again old new connections seats (finite.insert tokens token directory)
      (record {
        each = sound.each;
        watched = sound.watched;
        named = was_one;
        apart = sound.apart;
        few = sound.few;
        rare = omega (arith, longer tokens token directory free, room);
      })
      (held_more old new (number_of directory) (held_by connections seats tokens) (held_by connections seats (finite.insert tokens token directory)) held sound.holds
      (λ number. let more = count_put (at_node number) tokens token directory free in omega (arith, more)))
      keeps

-- ---- one token less

module _ (old new : Kept) (connections : Connections) (seats : Seats) (tokens : Tokens) (token : ℕ) (directory : NodeRef) (sound : IsSound old connections seats tokens)
    (there : finite.get tokens token ≡ Some directory)
    (held : HoldsNow old new (number_of directory) (holds_at old (number_of directory) - 1)) (keeps : KeepsNames old new) where
  still_one : (other_one : ℕ) (found : NodeRef) → finite.get (finite.remove tokens token) other_one ≡ Some found → IsDirectory old found
  still_one other_one found at = elim (standing other_one token) [
    | same e b ↦
        let wrong : None ≡ Some found = sym (ap (finite.get (finite.remove tokens token)) e ∙ get_cut tokens token) ∙ at in
        absurd (cc)
    | other e b ↦ sound.named other_one found (sym (get_cut_other tokens token other_one e) ∙ at)
  ]

  pub sound_forgotten : IsSound new connections seats (finite.remove tokens token)
  sound_forgotten =
      let rare = sound.rare in
      sound_again old new connections seats (finite.remove tokens token)
      (record {
        each = sound.each;
        watched = sound.watched;
        named = still_one;
        apart = sound.apart;
        few = sound.few;
        rare = omega (arith, shorter tokens token directory there, rare);
      })
      (held_less old new (number_of directory) (held_by connections seats tokens) (held_by connections seats (finite.remove tokens token)) held sound.holds
      (λ number. let less = count_cut (at_node number) tokens token directory there in omega (arith, less)))
      keeps

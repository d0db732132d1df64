-- Who watches, as the server sees them.
use Rattle.std.proofs.Common.{◌≡◌, ◌∙◌, ℕ, ◌==◌, Bool, true, false, cond, List, [], ◌∷◌, length, filter, Option, Some, None, refl, sym, ap, arith}
use Rattle.std.specs.Prelude.{find, not}
use Rattle.std.specs.Option.{option_map}
use Rattle.std.proofs.lemmas.Bool.{eqb-true, eq-eqb}
use Rattle.conn_rules.specs.Births.{Position, fresh}
use Rattle.vfs_journal.specs.Starts.{Bound}
use Rattle.vfs_server.specs.declared.watching.Seat.{Seat}
use Rattle.vfs_server.specs.Seats.{Seats, is_at, seat_at, without}
use Rattle.vfs_server.proofs.SeatLists.{others, others_left, turned}
use Rattle.vfs_server.specs.Servers.{watching}
use Rattle.vfs_server.specs.Watched.{bound_at, bounds_at}

found_as : (index endpoint : ℕ) (seats : Seats) →
    find (λ (bound : Bound). bound.endpoint == endpoint) (bounds_at index seats) ≡ option_map (λ (seat : Seat). bound_at index (endpoint, seat)) (seat_at seats endpoint)
found_as index endpoint [] = refl
found_as index endpoint (e ∷ es) = by_test (e.0 == endpoint) refl (found_as index endpoint es) where
  by_test : (b : Bool) → (e.0 == endpoint) ≡ b →
      find (λ (bound : Bound). bound.endpoint == endpoint) (bounds_at index es) ≡ option_map (λ (seat : Seat). bound_at index (endpoint, seat)) (seat_at es endpoint) →
      find (λ (bound : Bound). bound.endpoint == endpoint) (bounds_at index (e ∷ es)) ≡ option_map (λ (seat : Seat). bound_at index (endpoint, seat)) (seat_at (e ∷ es) endpoint)
  by_test true is rest =
      let same = eqb-true e.0 endpoint is in
      rw (is, eq-eqb endpoint e.0 (sym same)) (ap (λ (n : ℕ). Some (bound_at index (n, e.1))) same)
  by_test false is rest = let back : (endpoint == e.0) ≡ false = turned endpoint e.0 ∙ is in rw (is, back) rest

-- a watcher stays at its beginning
abbrev at_beginning : Bound → Bound × Position
at_beginning bound = (bound, fresh)

abbrev pub seated : ℕ → ℕ → Seat → Bound × Position
seated index endpoint seat = (bound_at index (endpoint, seat), fresh)

-- what an endpoint is bound to, where it watches
pub watching_as : (index endpoint : ℕ) (seats : Seats) →
    watching (bounds_at index seats) endpoint ≡ option_map (seated index endpoint) (seat_at seats endpoint)
watching_as index endpoint seats = ap (option_map at_beginning) (found_as index endpoint seats) ∙ twice (seat_at seats endpoint) where
  twice : (o : Option Seat) → option_map at_beginning (option_map (λ (seat : Seat). bound_at index (endpoint, seat)) o) ≡ option_map (seated index endpoint) o
  twice None = refl
  twice (Some seat) = refl

-- how many watch a directory
pub counted_as : (index directory : ℕ) (seats : Seats) →
    length (filter (λ (bound : Bound). bound.birth.node == directory) (bounds_at index seats)) ≡ length (filter (is_at directory) seats)
counted_as index directory [] = refl
counted_as index directory (e ∷ es) = by_test (is_at directory e) (counted_as index directory es) where
  by_test : (b : Bool) → length (filter (λ (bound : Bound). bound.birth.node == directory) (bounds_at index es)) ≡ length (filter (is_at directory) es) →
      length (cond b (bound_at index e ∷ filter (λ (bound : Bound). bound.birth.node == directory) (bounds_at index es)) (filter (λ (bound : Bound). bound.birth.node == directory) (bounds_at index es)))
      ≡ length (cond b (e ∷ filter (is_at directory) es) (filter (is_at directory) es))
  by_test true rest = omega (arith, rest)
  by_test false rest = rest

-- ---- one less

module _ (endpoint : ℕ) where
  abbrev other_bounds : List Bound → List Bound
  other_bounds = filter (λ bound. not (bound.endpoint == endpoint))

  bounds_of_others : (index : ℕ) (seats : Seats) → bounds_at index (others endpoint seats) ≡ other_bounds (bounds_at index seats)
  bounds_of_others index [] = refl
  bounds_of_others index (e ∷ es) = by_test (not (e.0 == endpoint)) (bounds_of_others index es) where
    by_test : (b : Bool) → bounds_at index (others endpoint es) ≡ other_bounds (bounds_at index es) →
        bounds_at index (cond b (e ∷ others endpoint es) (others endpoint es)) ≡ cond b (bound_at index e ∷ other_bounds (bounds_at index es)) (other_bounds (bounds_at index es))
    by_test true rest = ap (λ found. bound_at index e ∷ found) rest
    by_test false rest = rest

  -- so as they are bound at a server
  pub bounds_left : (index : ℕ) (seats : Seats) → seat_at (without endpoint seats) endpoint ≡ None →
      bounds_at index (without endpoint seats) ≡ filter (λ (bound : Bound). not (bound.endpoint == endpoint)) (bounds_at index seats)
  bounds_left index seats none = ap (bounds_at index) (sym (others_left endpoint seats none)) ∙ bounds_of_others index seats

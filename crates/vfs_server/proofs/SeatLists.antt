-- Who watches: what a look-up finds, and what one more and one less leave.
use Rattle.std.proofs.Common.{◌≡◌, ◌≢◌, ◌∙◌, ℕ, ◌+◌, ◌==◌, Bool, true, false, cond, List, [], ◌∷◌, ◌++◌, length, map, filter, Some, None, All, refl, sym, ap, append-nil, arith}
use Rattle.std.specs.Prelude.{if◌then◌else◌, not}
use Rattle.std.specs.Cmp.{nat_eq_equiv}
use Rattle.std.proofs.lemmas.Bool.{eqb-true, ne_eqb}
use Rattle.std.proofs.lemmas.List.{map-append}
use Rattle.std.proofs.lemmas.List.Elements.{All-cons, All-head, All-tail, filter-append}
use Rattle.std.proofs.lemmas.List.Sums.{sum_by-append, sum_by-cons}
use Rattle.node_graph.specs.Graph.{number_of}
use Rattle.watch_events.specs.Messages.{Watcher}
use Rattle.watch_events.specs.Watching.{Adds, Removes, Watching, is_among, watchers_of}
use Rattle.vfs_server.specs.declared.watching.Seat.{Seat}
use Rattle.vfs_server.specs.Seats.{AreByDirectory, Seats, is_at, seat_at, watched_by, watcher_of, watchers_at, without}

abbrev pub one_if : Bool → ℕ
one_if b = cond b 1 0

pub turned : (a b : ℕ) → (a == b) ≡ (b == a)
turned a b = nat_eq_equiv.symm a b

-- ---- one more

-- a newcomer is found behind those before it
found_behind : (endpoint other : ℕ) (seat : Seat) (seats : Seats) → seat_at seats other ≡ None → (other == endpoint) ≡ true → seat_at (seats ++ (endpoint, seat) ∷ []) other ≡ Some seat
found_behind endpoint other seat [] none is = rw is refl
found_behind endpoint other seat (e ∷ es) none is = by_test (other == e.0) none (λ free. found_behind endpoint other seat es free is) where
  by_test : (b : Bool) → cond b (Some e.1) (seat_at es other) ≡ None → (seat_at es other ≡ None → seat_at (es ++ (endpoint, seat) ∷ []) other ≡ Some seat) →
      cond b (Some e.1) (seat_at (es ++ (endpoint, seat) ∷ []) other) ≡ Some seat
  by_test true some rest = absurd (cc)
  by_test false free rest = rest free

found_before : (endpoint other : ℕ) (seat : Seat) (seats : Seats) → (other == endpoint) ≡ false → seat_at (seats ++ (endpoint, seat) ∷ []) other ≡ seat_at seats other
found_before endpoint other seat [] isnt = rw isnt refl
found_before endpoint other seat (e ∷ es) isnt = ap (cond (other == e.0) (Some e.1)) (found_before endpoint other seat es isnt)

pub at_more : (endpoint other : ℕ) (seat : Seat) (seats : Seats) → seat_at seats endpoint ≡ None →
    seat_at (seats ++ (endpoint, seat) ∷ []) other ≡ (if other == endpoint then Some seat else seat_at seats other)
at_more endpoint other seat seats free = by_same (other == endpoint) refl where
  by_same : (b : Bool) → (other == endpoint) ≡ b → seat_at (seats ++ (endpoint, seat) ∷ []) other ≡ (if b then Some seat else seat_at seats other)
  by_same true is = found_behind endpoint other seat seats (ap (seat_at seats) (eqb-true other endpoint is) ∙ free) is
  by_same false is = found_before endpoint other seat seats is

pub count_more : (number : ℕ) (entry : ℕ × Seat) (seats : Seats) → watched_by number (seats ++ entry ∷ []) ≡ one_if (is_at number entry) + watched_by number seats
count_more number entry seats =
    let sum = sum_by-append (λ (e : ℕ × Seat). one_if (is_at number e)) seats (entry ∷ []) in
    let one = sum_by-cons (λ (e : ℕ × Seat). one_if (is_at number e)) entry [] in
    omega (arith, sum, one)

-- ---- one less

module _ (endpoint : ℕ) where
  -- where an endpoint has none, none is taken
  pub without_none : (seats : Seats) → seat_at seats endpoint ≡ None → without endpoint seats ≡ seats
  without_none [] none = refl
  without_none (e ∷ es) none = by_test (endpoint == e.0) (without_none es) none where
    by_test : (b : Bool) → (seat_at es endpoint ≡ None → without endpoint es ≡ es) → cond b (Some e.1) (seat_at es endpoint) ≡ None → cond b es (e ∷ without endpoint es) ≡ e ∷ es
    by_test true rest some = absurd (cc)
    by_test false rest free = ap (λ later. e ∷ later) (rest free)

  pub length_less : (seat : Seat) (seats : Seats) → seat_at seats endpoint ≡ Some seat → length (without endpoint seats) + 1 ≡ length seats
  length_less seat [] there = absurd (cc)
  length_less seat (e ∷ es) there = by_test (endpoint == e.0) (length_less seat es) there where
    by_test : (b : Bool) → (seat_at es endpoint ≡ Some seat → length (without endpoint es) + 1 ≡ length es) → cond b (Some e.1) (seat_at es endpoint) ≡ Some seat →
        length (cond b es (e ∷ without endpoint es)) + 1 ≡ length (e ∷ es)
    by_test true rest at = omega arith
    by_test false rest at = let less = rest at in omega (arith, less)

  pub count_less : (number : ℕ) (seat : Seat) (seats : Seats) → seat_at seats endpoint ≡ Some seat →
      watched_by number seats ≡ one_if (is_at number (endpoint, seat)) + watched_by number (without endpoint seats)
  count_less number seat [] there = absurd (cc)
  count_less number seat (e ∷ es) there = by_test (endpoint == e.0) (count_less number seat es) there where
    counted : (entry : ℕ × Seat) (later : Seats) → watched_by number (entry ∷ later) ≡ one_if (is_at number entry) + watched_by number later
    counted entry later = sum_by-cons (λ (one : ℕ × Seat). one_if (is_at number one)) entry later

    by_test : (b : Bool) → (seat_at es endpoint ≡ Some seat → watched_by number es ≡ one_if (is_at number (endpoint, seat)) + watched_by number (without endpoint es)) →
        cond b (Some e.1) (seat_at es endpoint) ≡ Some seat →
        watched_by number (e ∷ es) ≡ one_if (is_at number (endpoint, seat)) + watched_by number (cond b es (e ∷ without endpoint es))
    by_test true rest at =
        let same : e.1 ≡ seat = cc in
        counted e es ∙ ap (λ (s : Seat). one_if (is_at number (endpoint, s)) + watched_by number es) same
    by_test false rest at =
        let less = rest at in
        let was = counted e es in
        let now = counted e (without endpoint es) in
        omega (arith, less, was, now)

  pub all_less : (P : ℕ × Seat → Type 0) (seats : Seats) → All P seats → All P (without endpoint seats)
  all_less P [] all = all
  all_less P (e ∷ es) all = by_test (endpoint == e.0) (all_less P es (All-tail P e es all)) where
    by_test : (b : Bool) → All P (without endpoint es) → All P (cond b es (e ∷ without endpoint es))
    by_test true rest = All-tail P e es all
    by_test false rest = All-cons P e (without endpoint es) (All-head P e es all) rest

  pub other_less : (other : ℕ) (seats : Seats) → other ≢ endpoint → seat_at (without endpoint seats) other ≡ seat_at seats other
  other_less other [] apart = refl
  other_less other (e ∷ es) apart = by_test (endpoint == e.0) refl (other_less other es apart) where
    by_test : (b : Bool) → (endpoint == e.0) ≡ b → seat_at (without endpoint es) other ≡ seat_at es other → seat_at (cond b es (e ∷ without endpoint es)) other ≡ seat_at (e ∷ es) other
    by_test true is rest =
        let here : (other == e.0) ≡ false = ne_eqb other e.0 (λ same. apart (same ∙ sym (eqb-true endpoint e.0 is))) in
        sym (ap (λ t. cond t (Some e.1) (seat_at es other)) here)
    by_test false is rest = ap (cond (other == e.0) (Some e.1)) rest

  abbrev pub others : Seats → Seats
  others = filter (λ entry. not (entry.0 == endpoint))

  all_others : (seats : Seats) → seat_at seats endpoint ≡ None → others seats ≡ seats
  all_others [] free = refl
  all_others (e ∷ es) free = by_test (endpoint == e.0) refl (all_others es) free where
    by_test : (b : Bool) → (endpoint == e.0) ≡ b → (seat_at es endpoint ≡ None → others es ≡ es) → cond b (Some e.1) (seat_at es endpoint) ≡ None → others (e ∷ es) ≡ e ∷ es
    by_test true is rest some = absurd (cc)
    by_test false is rest none = rw (turned e.0 endpoint ∙ is) (ap (λ later. e ∷ later) (rest none))

  -- where none is left, all of the endpoint are taken
  pub others_left : (seats : Seats) → seat_at (without endpoint seats) endpoint ≡ None → others seats ≡ without endpoint seats
  others_left [] none = refl
  others_left (e ∷ es) none = by_test (endpoint == e.0) refl (others_left es) none where
    by_test : (b : Bool) → (endpoint == e.0) ≡ b → (seat_at (without endpoint es) endpoint ≡ None → others es ≡ without endpoint es) →
        seat_at (cond b es (e ∷ without endpoint es)) endpoint ≡ None → others (e ∷ es) ≡ cond b es (e ∷ without endpoint es)
    by_test true is rest free = rw (turned e.0 endpoint ∙ is) (all_others es free)
    by_test false is rest free =
        let later : seat_at (without endpoint es) endpoint ≡ None = sym (ap (λ t. cond t (Some e.1) (seat_at (without endpoint es) endpoint)) is) ∙ free in
        rw (turned e.0 endpoint ∙ is) (ap (λ found. e ∷ found) (rest later))

  -- ---- by directories

  watcher_among : (directory : ℕ) (seats : Seats) → seat_at seats endpoint ≡ None → is_among endpoint (watchers_at directory seats) ≡ false
  watcher_among directory [] none = refl
  watcher_among directory (e ∷ es) none = by_test (endpoint == e.0) refl (watcher_among directory es) none where
    by_place : (b : Bool) → (e.0 == endpoint) ≡ false → is_among endpoint (watchers_at directory es) ≡ false →
        is_among endpoint (map watcher_of (cond b (e ∷ filter (is_at directory) es) (filter (is_at directory) es))) ≡ false
    by_place true isnt rest = rw isnt rest
    by_place false isnt rest = rest

    by_test : (b : Bool) → (endpoint == e.0) ≡ b → (seat_at es endpoint ≡ None → is_among endpoint (watchers_at directory es) ≡ false) →
        cond b (Some e.1) (seat_at es endpoint) ≡ None → is_among endpoint (watchers_at directory (e ∷ es)) ≡ false
    by_test true is rest some = absurd (cc)
    by_test false is rest free = by_place (is_at directory e) (turned e.0 endpoint ∙ is) (rest free)

  abbrev other_watchers : List Watcher → List Watcher
  other_watchers = filter (λ watcher. not (watcher.endpoint == endpoint))

  watchers_of_others : (directory : ℕ) (seats : Seats) → other_watchers (watchers_at directory seats) ≡ watchers_at directory (others seats)
  watchers_of_others directory [] = refl
  watchers_of_others directory (e ∷ es) = by_tests (is_at directory e) refl (not (e.0 == endpoint)) refl (watchers_of_others directory es) where
    by_tests : (a : Bool) → is_at directory e ≡ a → (b : Bool) → not (e.0 == endpoint) ≡ b → other_watchers (watchers_at directory es) ≡ watchers_at directory (others es) →
        other_watchers (watchers_at directory (e ∷ es)) ≡ watchers_at directory (others (e ∷ es))
    by_tests true p true q rest = rw (p, q, p) (ap (λ ws. watcher_of e ∷ ws) rest)
    by_tests true p false q rest = rw (p, q) rest
    by_tests false p true q rest = rw (p, q, p) rest
    by_tests false p false q rest = rw (p, q) rest

  -- a watcher of another directory isn't missed
  elsewhere : (directory : ℕ) (seat : Seat) (seats : Seats) → seat_at seats endpoint ≡ Some seat → (directory == number_of seat.directory) ≡ false →
      filter (is_at directory) seats ≡ filter (is_at directory) (without endpoint seats)
  elsewhere directory seat [] at isnt = absurd (cc)
  elsewhere directory seat (e ∷ es) at isnt = by_test (endpoint == e.0) at (λ later. elsewhere directory seat es later isnt) where
    by_test : (b : Bool) → cond b (Some e.1) (seat_at es endpoint) ≡ Some seat → (seat_at es endpoint ≡ Some seat → filter (is_at directory) es ≡ filter (is_at directory) (without endpoint es)) →
        filter (is_at directory) (e ∷ es) ≡ filter (is_at directory) (cond b es (e ∷ without endpoint es))
    by_test true here rest =
        let same : e.1 ≡ seat = cc in
        let not_here : is_at directory e ≡ false = ap (λ (s : Seat). number_of s.directory == directory) same ∙ turned (number_of seat.directory) directory ∙ isnt in
        ap (λ t. cond t (e ∷ filter (is_at directory) es) (filter (is_at directory) es)) not_here
    by_test false later rest = ap (λ found. cond (is_at directory e) (e ∷ found) found) (rest later)

module _ (seats : Seats) (old : Watching) (are : AreByDirectory seats old) where
  pub new_there : (endpoint directory : ℕ) → seat_at seats endpoint ≡ None → is_among endpoint (watchers_of old directory) ≡ false
  new_there endpoint directory none = ap (is_among endpoint) (are directory) ∙ watcher_among endpoint directory seats none

  pub by_directory_more : (entry : ℕ × Seat) (new : Watching) → Adds old (number_of entry.1.directory) (watcher_of entry) new → AreByDirectory (seats ++ entry ∷ []) new
  by_directory_more entry new adds directory =
      adds directory ∙ by_place (directory == number_of entry.1.directory) refl
      ∙ sym (ap (map watcher_of) (filter-append (is_at directory) seats (entry ∷ [])) ∙ map-append watcher_of (filter (is_at directory) seats) (filter (is_at directory) (entry ∷ [])))
    where
      by_place : (b : Bool) → (directory == number_of entry.1.directory) ≡ b →
          (if b then watchers_of old directory ++ watcher_of entry ∷ [] else watchers_of old directory) ≡ watchers_at directory seats ++ map watcher_of (filter (is_at directory) (entry ∷ []))
      by_place true is =
          let at : is_at directory entry ≡ true = turned (number_of entry.1.directory) directory ∙ is in
          rw at (ap (λ (ws : List Watcher). ws ++ watcher_of entry ∷ []) (are directory))
      by_place false is =
          let at : is_at directory entry ≡ false = turned (number_of entry.1.directory) directory ∙ is in
          rw at (are directory ∙ sym (append-nil (watchers_at directory seats)))

  pub by_directory_less : (endpoint : ℕ) (seat : Seat) (new : Watching) → seat_at seats endpoint ≡ Some seat → seat_at (without endpoint seats) endpoint ≡ None →
      Removes old (number_of seat.directory) endpoint new → AreByDirectory (without endpoint seats) new
  by_directory_less endpoint seat new there none removes directory = removes directory ∙ by_place (directory == number_of seat.directory) refl where
    by_place : (b : Bool) → (directory == number_of seat.directory) ≡ b →
        (if b then other_watchers endpoint (watchers_of old directory) else watchers_of old directory) ≡ watchers_at directory (without endpoint seats)
    by_place true is = ap (other_watchers endpoint) (are directory) ∙ watchers_of_others endpoint directory seats ∙ ap (watchers_at directory) (others_left endpoint seats none)
    by_place false is = are directory ∙ ap (map watcher_of) (elsewhere endpoint directory seat seats there is)

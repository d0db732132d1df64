-- Who dies of a serving: the least endpoints that are closed, told by their members.
use Rattle.std.proofs.Common.{◌≡◌, ℕ, ◌+◌, ◌==◌, ◌||◌, ◌⊎◌, Bool, true, false, not, cond, if◌then◌else◌, List, [], ◌∷◌, ◌++◌, map, filter, find, option_to_list, Option, Some, None, Contains, refl, sym, ap, ◌∙◌, subst, inl, inr, arith, drop}
use Rattle.std.specs.FinMap as finite
use Rattle.std.specs.FinMap.{nat_cmp-IsAntisymmetric, entries-insert, get-from_entries, len-empty, len-entries, same_map}
use Rattle.std.specs.FinMap.Entries as entry
use Rattle.std.specs.List.{AllByRecursion}
use Rattle.std.specs.List.Sorted.{IsStrictlySortedBy}
use Rattle.std.specs.Option.{option_map_or}
use Rattle.std.specs.Ordering.{eq_by_cmp, nat_cmp}
use Rattle.std.specs.declared.cmp.Ordering.TheVariants.{Less}
use Rattle.std.proofs.lemmas.Bool.{eqb-true, eq-eqb}
use Rattle.std.proofs.lemmas.Bool.Decides.{nat_tests}
use Rattle.std.proofs.lemmas.Cmp.{nat_cmp_total}
use Rattle.std.proofs.lemmas.List.{nil_from_length}
use Rattle.std.proofs.lemmas.List.Elements.{filter_agree}
use Rattle.std.proofs.lemmas.Map.Keys.{sorted_head, sorted_tail}
use Rattle.link_admission.specs.Numbering.{among}
use Rattle.conn_rules.specs.Births.{Position, fresh}
use Rattle.vfs_journal.specs.Deaths.{first_deaths, spread}
use Rattle.vfs_journal.specs.Entries.{Sent, endpoints_in}
use Rattle.vfs_journal.specs.Fit.{IsFit}
use Rattle.vfs_journal.specs.History.{Event, changed, tree_at}
use Rattle.vfs_journal.specs.Outcomes.{close_frame}
use Rattle.vfs_journal.specs.Output.{rising}
use Rattle.vfs_journal.specs.Starts.{Bound}
use Rattle.vfs_journal.specs.View.{View, deaths_in, head_in, moved, others_in, outcome_in, queue_in}
use Rattle.vfs_journal.specs.Watching.{first_frames, told_frames}
use Rattle.journal_laws.specs.Choosing.{AreAllThatDie, IsClosedOver, IsToldByMembers, queue_beside}
use Rattle.journal_laws.proofs.Among.{among_of, member_of}
use Rattle.journal_laws.proofs.KnowingCount.{same_bool}
use Rattle.journal_laws.proofs.LookedUp.{is_first, own_queue, other_queue}
use Rattle.journal_laws.proofs.Members.{contains_here, contains_later, kept, kept_of}
use Rattle.journal_laws.proofs.Spreading.{among_sides, spread_keeps}

-- ---- the one pass stays within each set that is closed

within_by : (dies : ℕ → Bool) (dying : List ℕ) (one : Sent) → ((n : ℕ) → among n dying ≡ true → dies n ≡ true) → (dies one.endpoint ≡ true → (n : ℕ) → among n (endpoints_in one) ≡ true → dies n ≡ true) →
    (b : Bool) → among one.endpoint dying ≡ b → (n : ℕ) → among n (if b then dying ++ endpoints_in one else dying) ≡ true → dies n ≡ true
within_by dies dying one first closed true is n h = by_side (among_sides n dying (endpoints_in one) h) where
  by_side : (among n dying ≡ true) ⊎ (among n (endpoints_in one) ≡ true) → dies n ≡ true
  by_side (inl g) = first n g
  by_side (inr g) = closed (first one.endpoint is) n g
within_by dies dying one first closed false is n h = first n h

spread_within : (dies : ℕ → Bool) (dying : List ℕ) (ones : List Sent) → ((n : ℕ) → among n dying ≡ true → dies n ≡ true) →
    ((one : Sent) → Contains ones one → dies one.endpoint ≡ true → (n : ℕ) → among n (endpoints_in one) ≡ true → dies n ≡ true) → (n : ℕ) → among n (spread dying ones) ≡ true → dies n ≡ true
spread_within dies dying [] first closed n h = first n h
spread_within dies dying (one ∷ ones) first closed n h =
    spread_within dies (if among one.endpoint dying then dying ++ endpoints_in one else dying) ones
    (within_by dies dying one first (closed one (contains_here one ones)) (among one.endpoint dying) refl)
    (λ other p. closed other (contains_later other one ones p)) n h

-- what waits beside the served entry, by its queues
pub beside : (view : View) (sent : Sent) → IsFit view → head_in view sent.endpoint ≡ Some sent → (n : ℕ) → filter (λ one. one.endpoint == n) (others_in view sent) ≡ queue_beside view sent n
beside view sent fit h n =
    let first = is_first view sent h in
    by_test first.first first.waits (sent.endpoint == n) refl where
      by_test : find (λ one. one.endpoint == sent.endpoint) view.waiting ≡ Some sent → Contains view.waiting sent → (b : Bool) → (sent.endpoint == n) ≡ b →
          filter (λ one. one.endpoint == n) (others_in view sent) ≡ (if b then drop 1 (queue_in view n) else queue_in view n)
      by_test first waits true e = own_queue n sent view.waiting fit.rise (ap (λ (m : ℕ). find (λ one. one.endpoint == m) view.waiting) (sym (eqb-true sent.endpoint n e)) ∙ first)
      by_test first waits false e = other_queue n sent view.waiting fit.rise waits e

pub all_that_die : (view : View) (sent : Sent) → IsFit view → head_in view sent.endpoint ≡ Some sent → AreAllThatDie (queue_beside view sent) (first_deaths sent (outcome_in view sent)) (deaths_in view sent)
all_that_die view sent fit h =
    let dying = first_deaths sent (outcome_in view sent) in
    record {
      first = λ m g. spread_keeps m dying (others_in view sent) g;
      closed = closed;
      least = λ dies first shut n. spread_within dies dying (others_in view sent) first (λ one p dead m c. shut one.endpoint m one dead (on_queue one p) c) n;
    } where
      closed : IsClosedOver (queue_beside view sent) (λ m. among m (deaths_in view sent))
      closed endpoint carried other dead p c =
          let at = kept_of (λ (one : Sent). one.endpoint == endpoint) (others_in view sent) other (subst (λ (ones : List Sent). Contains ones other) (sym (beside view sent fit h endpoint)) p) in
          (fit.heads sent h).closed other carried at.0 (ap (λ (m : ℕ). among m (deaths_in view sent)) (eqb-true other.endpoint endpoint at.1) ∙ dead) c

      on_queue : (one : Sent) → Contains (others_in view sent) one → Contains (queue_beside view sent one.endpoint) one
      on_queue one p =
          subst (λ (ones : List Sent). Contains ones one) (beside view sent fit h one.endpoint)
          (kept (λ (other : Sent). other.endpoint == one.endpoint) (others_in view sent) one p (eq-eqb one.endpoint one.endpoint refl))

-- all lists of them have the same members
pub deaths_are_least : (view : View) (sent : Sent) (deaths : List ℕ) → IsFit view → head_in view sent.endpoint ≡ Some sent →
    AreAllThatDie (queue_beside view sent) (first_deaths sent (outcome_in view sent)) deaths → (endpoint : ℕ) → among endpoint deaths ≡ among endpoint (deaths_in view sent)
deaths_are_least view sent deaths fit h all n =
    let pass = all_that_die view sent fit h in
    same_bool (among n deaths) (among n (deaths_in view sent))
    (all.least (λ m. among m (deaths_in view sent)) pass.first pass.closed n)
    (pass.least (λ m. among m deaths) all.first all.closed n)

-- ---- numbers once each, from the least on

abbrev entries_of : List ℕ → List (ℕ × Bool)
entries_of numbers = map (λ number. (number, true)) numbers

same_number : (q x : ℕ) → eq_by_cmp nat_cmp q x ≡ (x == q)
same_number q x = grind (arith, nat_tests)

found_by : (b c : Bool) → cond b (Some true) (cond c (Some true) None) ≡ cond (b || c) (Some true) None
found_by true c = refl
found_by false c = refl

-- what a map of numbers has
found_in : (q : ℕ) (xs : List ℕ) → entry.find nat_cmp q (entries_of xs) ≡ cond (among q xs) (Some true) None
found_in q [] = refl
found_in q (x ∷ xs) =
    ap (λ (b : Bool). cond b (Some true) (entry.find nat_cmp q (entries_of xs))) (same_number q x)
    ∙ ap (λ (o : Option Bool). cond (x == q) (Some true) o) (found_in q xs)
    ∙ found_by (x == q) (among q xs)

same_numbers : (xs ys : List ℕ) → ((q : ℕ) → among q xs ≡ among q ys) → finite.from_entries {R = nat_cmp} (entries_of xs) ≡ finite.from_entries {R = nat_cmp} (entries_of ys)
same_numbers xs ys same =
    same_map nat_cmp_total nat_cmp-IsAntisymmetric _ _ (λ q.
    get-from_entries nat_cmp_total (entries_of xs) q ∙ found_in q xs ∙ ap (λ (b : Bool). cond b (Some true) None) (same q) ∙ sym (found_in q ys) ∙ sym (get-from_entries nat_cmp_total (entries_of ys) q))

pub rising_same : (xs ys : List ℕ) → ((q : ℕ) → among q xs ≡ among q ys) → rising xs ≡ rising ys
rising_same xs ys same = ap finite.keys (same_numbers xs ys same)

put_front : (y : ℕ) (ys : List ℕ) → AllByRecursion (λ z. nat_cmp y z ≡ Less) ys → entry.put nat_cmp y true (entries_of ys) ≡ (y, true) ∷ entries_of ys
put_front y [] h = refl
put_front y (z ∷ ys) h = rw h.0 refl

entries_back : (ys : List ℕ) → IsStrictlySortedBy nat_cmp ys → finite.entries (finite.from_entries {R = nat_cmp} (entries_of ys)) ≡ entries_of ys
entries_back [] h = nil_from_length _ (sym (len-entries (finite.empty {X = Bool} {R = nat_cmp})) ∙ len-empty nat_cmp Bool)
entries_back (y ∷ ys) h =
    entries-insert nat_cmp_total (finite.from_entries (entries_of ys)) y true
    ∙ ap (entry.put nat_cmp y true) (entries_back ys (sorted_tail nat_cmp y ys h))
    ∙ put_front y ys (sorted_head nat_cmp y ys h)

numbers_back : (ys : List ℕ) → map (λ (e : ℕ × Bool). e.0) (entries_of ys) ≡ ys
numbers_back [] = refl
numbers_back (y ∷ ys) = ap (λ zs. y ∷ zs) (numbers_back ys)

pub rising_is : (numbers sorted : List ℕ) → IsStrictlySortedBy nat_cmp sorted → ((number : ℕ) → among number sorted ≡ among number numbers) → rising numbers ≡ sorted
rising_is numbers sorted rises same =
    rising_same numbers sorted (λ q. sym (same q)) ∙ ap (map (λ (e : ℕ × Bool). e.0)) (entries_back sorted rises) ∙ numbers_back sorted

-- ---- by members alone

among_kept : (p : ℕ → Bool) (n : ℕ) (xs : List ℕ) → among n (filter p xs) ≡ true → (among n xs ≡ true) × (p n ≡ true)
among_kept p n xs h = let at = kept_of p xs n (member_of n (filter p xs) h) in (among_of n xs at.0, at.1)

kept_among : (p : ℕ → Bool) (n : ℕ) (xs : List ℕ) → among n xs ≡ true → p n ≡ true → among n (filter p xs) ≡ true
kept_among p n xs h passes = among_of n (filter p xs) (kept p xs n (member_of n xs h) passes)

same_kept : (p : ℕ → Bool) (xs ys : List ℕ) → ((n : ℕ) → among n xs ≡ among n ys) → (n : ℕ) → among n (filter p xs) ≡ among n (filter p ys)
same_kept p xs ys same n =
    same_bool (among n (filter p xs)) (among n (filter p ys))
    (λ h. let at = among_kept p n xs h in kept_among p n ys (sym (same n) ∙ at.0) at.1)
    (λ h. let at = among_kept p n ys h in kept_among p n xs (same n ∙ at.0) at.1)

pub told_by_members : (view : View) (sent : Sent) (event : Event) (deaths : List ℕ) → ((endpoint : ℕ) → among endpoint deaths ≡ among endpoint event.deaths) → IsToldByMembers view sent event deaths
told_by_members view sent event deaths same =
    let pairs = map (moved sent.endpoint event.outcome.position) view.living ++ map (λ (bound : Bound). (bound, fresh)) (option_to_list event.outcome.bound) in
    let lives = filter_agree (λ (pair : Bound × Position). not (among pair.0.endpoint deaths)) (λ (pair : Bound × Position). not (among pair.0.endpoint event.deaths)) (λ pair. ap not (same pair.0.endpoint)) pairs in
    let waits = filter_agree (λ (other : Sent). not (among other.endpoint deaths)) (λ (other : Sent). not (among other.endpoint event.deaths)) (λ other. ap not (same other.endpoint)) (others_in view sent) in
    let made = λ (living : List (Bound × Position)) (waiting : List Sent).
    let seen : View = record {
      living = living;
      waiting = waiting;
      trees = changed view.trees event.outcome.server event.outcome.change;
      given = view.given ++ option_to_list event.outcome.token;
      held = view.held ++ option_to_list event.outcome.token;
      places = view.places + 1;
    } in seen in
    record {
      follows = ap (λ (living : List (Bound × Position)). made living (filter (λ (other : Sent). not (among other.endpoint deaths)) (others_in view sent))) lives
          ∙ ap (made (filter (λ (pair : Bound × Position). not (among pair.0.endpoint event.deaths)) pairs)) waits;
      written = λ trees living.
          ap (λ (numbers : List ℕ). event.outcome.frames ++ option_map_or (λ bound. first_frames (tree_at trees bound.server) bound) event.outcome.bound [] ++ told_frames living event.outcome.server event.outcome.told ++ map close_frame numbers)
          (rising_same (filter (λ endpoint. not (among endpoint event.outcome.ends)) deaths) (filter (λ endpoint. not (among endpoint event.outcome.ends)) event.deaths) (same_kept (λ endpoint. not (among endpoint event.outcome.ends)) deaths event.deaths same));
    }

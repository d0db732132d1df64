-- What has the least place of all that is first on its endpoint is served next.
use Rattle.std.proofs.Common.{◌≡◌, ℕ, zero, suc, ◌+◌, ◌<◌, ◌≤◌, ◌==◌, ◌⊎◌, Bool, true, false, not, cond, if◌then◌else◌, List, [], ◌∷◌, length, filter, find, Option, Some, None, AllPairs, Contains, refl, sym, ap, ◌∙◌, subst, inl, inr, arith}
use Rattle.std.specs.Prelude.{slice_get}
use Rattle.std.proofs.lemmas.Bool.{eqb-true, eq-eqb, true≢false}
use Rattle.std.proofs.lemmas.List.Filters.{length-filter_both}
use Rattle.vfs_journal.specs.Entries.{Sent}
use Rattle.vfs_journal.specs.Fit.{IsFit}
use Rattle.vfs_journal.specs.View.{View, is_bound_in, queue_in}
use Rattle.journal_laws.specs.Choosing.{ChoosesLeast, HasLeastPlace, IsChosenByPlace, is_bound_at_in}
use Rattle.journal_laws.proofs.LookedUp.{filter_kept}
use Rattle.journal_laws.proofs.Members.{contains_here, contains_none, first_found, found, kept, none_found}

abbrev IsBefore : Sent → Sent → Type 0
IsBefore one later = one.place < later.place

-- the first that a filter keeps is the first that is found
first_by : {X : Type 0} (x : X) (b : Bool) (kept' : List X) (o : Option X) → slice_get kept' 0 ≡ o → slice_get (cond b (x ∷ kept') kept') 0 ≡ cond b (Some x) o
first_by x true kept' o e = refl
first_by x false kept' o e = e

pub first_of_kept : {X : Type 0} (p : X → Bool) (xs : List X) → slice_get (filter p xs) 0 ≡ find p xs
first_of_kept p [] = refl
first_of_kept p (x ∷ xs) = first_by x (p x) (filter p xs) (find p xs) (first_of_kept p xs)

-- of what passes the first is the first on its endpoint
is_its_first : (passes : ℕ → Bool) (ones : List Sent) (sent : Sent) → AllPairs (λ (one later : Sent). one.place < later.place) ones → find (λ one. passes one.endpoint) ones ≡ Some sent →
    find (λ one. one.endpoint == sent.endpoint) ones ≡ Some sent
is_its_first passes ones sent rises h = by_found (find (λ one. one.endpoint == sent.endpoint) ones) refl where
  is : Contains ones sent × (passes sent.endpoint ≡ true)
  is = found (λ (one : Sent). passes one.endpoint) ones sent h

  by_order : (one : Sent) → find (λ one. one.endpoint == sent.endpoint) ones ≡ Some one → (sent ≡ one) ⊎ (sent.place < one.place) → (one ≡ sent) ⊎ (one.place < sent.place) → Some one ≡ Some sent
  by_order one e (inl same) other = ap Some (sym same)
  by_order one e (inr after) (inl same) = ap Some same
  by_order one e (inr after) (inr before) = absurd (omega (arith, after, before))

  by_found : (o : Option Sent) → find (λ one. one.endpoint == sent.endpoint) ones ≡ o → o ≡ Some sent
  by_found None e = absurd (true≢false (sym (eq-eqb sent.endpoint sent.endpoint refl) ∙ none_found (λ (one : Sent). one.endpoint == sent.endpoint) ones sent e is.0))
  by_found (Some one) e =
      let at = found (λ (one : Sent). one.endpoint == sent.endpoint) ones one e in
      by_order one e
      (first_found IsBefore (λ (one : Sent). passes one.endpoint) ones sent one rises h at.0 (ap passes (eqb-true one.endpoint sent.endpoint at.1) ∙ is.1))
      (first_found IsBefore (λ (one : Sent). one.endpoint == sent.endpoint) ones one sent rises e is.0 (eq-eqb sent.endpoint sent.endpoint refl))

none_chosen : (view : View) (passes : ℕ → Bool) → ((endpoint : ℕ) → passes endpoint ≡ true → queue_in view endpoint ≡ []) → find (λ one. passes one.endpoint) view.waiting ≡ None
none_chosen view passes none = by_found (find (λ one. passes one.endpoint) view.waiting) refl where
  by_found : (o : Option Sent) → find (λ one. passes one.endpoint) view.waiting ≡ o → find (λ one. passes one.endpoint) view.waiting ≡ None
  by_found None e = e
  by_found (Some one) e =
      let at = found (λ (one : Sent). passes one.endpoint) view.waiting one e in
      absurd (contains_none one (subst (λ (ones : List Sent). Contains ones one) (none one.endpoint at.1)
      (kept (λ (other : Sent). other.endpoint == one.endpoint) view.waiting one at.0 (eq-eqb one.endpoint one.endpoint refl))))

some_chosen : (view : View) (passes : ℕ → Bool) (sent : Sent) → IsFit view → HasLeastPlace view passes sent → find (λ one. passes one.endpoint) view.waiting ≡ Some sent
some_chosen view passes sent fit least = by_found (find (λ one. passes one.endpoint) view.waiting) refl where
  waits : Contains view.waiting sent
  waits = (found (λ (one : Sent). one.endpoint == sent.endpoint) view.waiting sent (sym (first_of_kept (λ (one : Sent). one.endpoint == sent.endpoint) view.waiting) ∙ least.first)).0

  by_order : (one : Sent) → sent.place ≤ one.place → (one ≡ sent) ⊎ (one.place < sent.place) → Some one ≡ Some sent
  by_order one low (inl same) = ap Some same
  by_order one low (inr before) = absurd (omega (arith, low, before))

  by_found : (o : Option Sent) → find (λ one. passes one.endpoint) view.waiting ≡ o → o ≡ Some sent
  by_found None e = absurd (true≢false (sym least.passing ∙ none_found (λ (one : Sent). passes one.endpoint) view.waiting sent e waits))
  by_found (Some one) e =
      let at = found (λ (one : Sent). passes one.endpoint) view.waiting one e in
      by_order one
      (least.least one.endpoint one at.1 (first_of_kept (λ (other : Sent). other.endpoint == one.endpoint) view.waiting ∙ is_its_first passes view.waiting one fit.rise e))
      (first_found IsBefore (λ (one : Sent). passes one.endpoint) view.waiting one sent fit.rise e waits least.passing)

least_chosen : (view : View) (passes : ℕ → Bool) (sent : Sent) → IsFit view → find (λ one. passes one.endpoint) view.waiting ≡ Some sent → HasLeastPlace view passes sent
least_chosen view passes sent fit h = record {
  passing = (found (λ (one : Sent). passes one.endpoint) view.waiting sent h).1;
  first = first_of_kept (λ (one : Sent). one.endpoint == sent.endpoint) view.waiting ∙ is_its_first passes view.waiting sent fit.rise h;
  least = λ endpoint other pass first.
      let at = found (λ (one : Sent). one.endpoint == endpoint) view.waiting other (sym (first_of_kept (λ (one : Sent). one.endpoint == endpoint) view.waiting) ∙ first) in
      by_order other (first_found IsBefore (λ (one : Sent). passes one.endpoint) view.waiting sent other fit.rise h at.0 (ap passes (eqb-true other.endpoint endpoint at.1) ∙ pass));
} where
  by_order : (other : Sent) → (sent ≡ other) ⊎ (sent.place < other.place) → sent.place ≤ other.place
  by_order other (inl same) = let equal = ap (λ (one : Sent). one.place) same in omega (arith, equal)
  by_order other (inr before) = omega (arith, before)

chooses : (view : View) (passes : ℕ → Bool) → IsFit view → ChoosesLeast view passes (find (λ one. passes one.endpoint) view.waiting)
chooses view passes fit = record {
  none = λ none. none_chosen view passes none;
  some = λ sent least. some_chosen view passes sent fit least;
  least = λ sent h. least_chosen view passes sent fit h;
}

pub chosen_by_place : (view : View) → IsFit view → IsChosenByPlace view
chosen_by_place view fit = record {
  next = chooses view (is_bound_in view) fit;
  oldest = λ server. chooses view (is_bound_at_in view server) fit;
  head = λ endpoint. ap (λ (o : Option Sent). if is_bound_in view endpoint then o else None) (sym (first_of_kept (λ (one : Sent). one.endpoint == endpoint) view.waiting));
}

-- ---- as many wait as the queues have

abbrev on : ℕ → List Sent → List Sent
on n ones = filter (λ one. one.endpoint == n) ones

abbrev but_on : ℕ → List Sent → List Sent
but_on n ones = filter (λ one. not (one.endpoint == n)) ones

some_on : (one : Sent) (ones : List Sent) → Contains ones one → 0 < length (on one.endpoint ones)
some_on one ones h = let at = kept (λ (other : Sent). other.endpoint == one.endpoint) ones one h (eq-eqb one.endpoint one.endpoint refl) in omega (arith, at.1)

parts_of : (n : ℕ) (ones : List Sent) → length (on n ones) + length (but_on n ones) ≡ length ones
parts_of n ones = length-filter_both (λ (one : Sent). one.endpoint == n) (λ (one : Sent). not (one.endpoint == n)) (λ one. refl) ones

on_others : (n m : ℕ) (ones : List Sent) → on m (but_on n ones) ≡ cond (not (m == n)) (on m ones) []
on_others n m ones = filter_kept m (λ (k : ℕ). not (k == n)) (λ (one : Sent). one.endpoint) ones

as_many_by : (most : ℕ) (xs ys : List Sent) → length xs ≤ most → ((n : ℕ) → on n xs ≡ on n ys) → length xs ≡ length ys
as_many_by most [] [] few same = refl
as_many_by most [] (y ∷ ys) few same =
    absurd (let some = some_on y (y ∷ ys) (contains_here y ys) in let none : 0 ≡ length (on y.endpoint (y ∷ ys)) = ap length (same y.endpoint) in omega (arith, some, none))
as_many_by zero (x ∷ xs) ys few same = absurd (omega arith)
as_many_by (suc most) (x ∷ xs) ys few same =
    let n = x.endpoint in
    let some = some_on x (x ∷ xs) (contains_here x xs) in
    let mine = parts_of n (x ∷ xs) in
    let yours = parts_of n ys in
    let equal : length (on n (x ∷ xs)) ≡ length (on n ys) = ap length (same n) in
    let rest = as_many_by most (but_on n (x ∷ xs)) (but_on n ys) (omega (arith, some, mine, few))
    (λ m. on_others n m (x ∷ xs) ∙ ap (λ (q : List Sent). cond (not (m == n)) q []) (same m) ∙ sym (on_others n m ys)) in
    omega (arith, mine, yours, equal, rest)

pub as_many : (one other : List Sent) → ((endpoint : ℕ) → filter (λ sent. sent.endpoint == endpoint) one ≡ filter (λ sent. sent.endpoint == endpoint) other) → length one ≡ length other
as_many one other same = as_many_by (length one) one other (omega arith) same

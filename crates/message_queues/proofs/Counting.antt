-- As many wait as a list has of which each endpoint's queue is its part.
use Rattle.std.proofs.Common.{◌≡◌, ℕ, ◌+◌, ◌==◌, Bool, true, false, not, cond, List, [], ◌∷◌, length, filter, Some, None, refl, sym, ap, ◌∙◌, arith, T}
use Rattle.std.specs.Prelude.{sum_by, ◌&&◌}
use Rattle.std.specs.declared.cmp.Ordering.{Ordering}
use Rattle.std.specs.declared.cmp.Ordering.TheVariants.{Less, Equal, Greater}
use Rattle.std.specs.FinMap as finite
use Rattle.std.specs.FinMap.Entries as entry
use Rattle.std.specs.Map.{values_of}
use Rattle.std.specs.Ordering.{eq_by_cmp, is_eq, is_lt, nat_cmp}
use Rattle.std.proofs.lemmas.Bool.{eqb-true, eq-eqb}
use Rattle.std.proofs.lemmas.Bool.Decides.{nat_tests}
use Rattle.std.proofs.lemmas.List.Filters.{length-filter_both}
use Rattle.std.proofs.lemmas.List.Sums.{sum_by-cons}
use Rattle.vfs_journal.specs.Entries.{Sent}
use Rattle.message_queues.specs.Laws.{HasQueuesOf}
use Rattle.message_queues.specs.Queues.{Mailbox, Queues, count}
use Rattle.message_queues.proofs.Changed.{queue_in, weigh}

-- ---- a list and its parts

abbrev on : ℕ → List Sent → List Sent
on n ones = filter (λ one. one.endpoint == n) ones

abbrev but_on : ℕ → List Sent → List Sent
but_on n ones = filter (λ one. not (one.endpoint == n)) ones

parts_of : (n : ℕ) (ones : List Sent) → length (on n ones) + length (but_on n ones) ≡ length ones
parts_of n ones = length-filter_both (λ (one : Sent). one.endpoint == n) (λ (one : Sent). not (one.endpoint == n)) (λ one. refl) ones

none_here : (n : ℕ) (ones : List Sent) → on n (but_on n ones) ≡ []
none_here n [] = refl
none_here n (one ∷ ones) = by_test (one.endpoint == n) refl (none_here n ones) where
  by_test : (b : Bool) → (one.endpoint == n) ≡ b → on n (but_on n ones) ≡ [] → on n (cond (not b) (one ∷ but_on n ones) (but_on n ones)) ≡ []
  by_test true e later = later
  by_test false e later = ap (λ (b : Bool). cond b (one ∷ on n (but_on n ones)) (on n (but_on n ones))) e ∙ later

others_there : (n m : ℕ) (ones : List Sent) → (m == n) ≡ false → on m (but_on n ones) ≡ on m ones
others_there n m [] apart = refl
others_there n m (one ∷ ones) apart = by_test (one.endpoint == n) refl (others_there n m ones apart) where
  by_test : (b : Bool) → (one.endpoint == n) ≡ b → on m (but_on n ones) ≡ on m ones → on m (cond (not b) (one ∷ but_on n ones) (but_on n ones)) ≡ on m (one ∷ ones)
  by_test true e later =
      let here : (one.endpoint == m) ≡ false = grind (arith, nat_tests) in
      later ∙ sym (ap (λ (b : Bool). cond b (one ∷ on m ones) (on m ones)) here)
  by_test false e later = ap (λ (rest : List Sent). cond (one.endpoint == m) (one ∷ rest) rest) later

-- ---- entries in order

abbrev Entries : Type 0
Entries = List (ℕ × Mailbox)

not_tied : (o : Ordering) → T (is_lt o) → is_eq o ≡ false
not_tied Less h = refl
not_tied Equal h = absurd h
not_tied Greater h = absurd h

front : (a b : Bool) → T (a && b) → T a
front true b h = tt
front false b h = absurd h

rest : (a b : Bool) → T (a && b) → T b
rest true b h = h
rest false b h = absurd h

-- what lies above a key doesn't have it
absent : (n : ℕ) (es : Entries) → T (entry.below_all nat_cmp n es) → entry.find nat_cmp n es ≡ None
absent n [] h = refl
absent n (e ∷ es) h =
    ap (λ (b : Bool). cond b (Some e.1) (entry.find nat_cmp n es)) (not_tied (nat_cmp n e.0) (front (is_lt (nat_cmp n e.0)) (entry.below_all nat_cmp n es) h))
    ∙ absent n es (rest (is_lt (nat_cmp n e.0)) (entry.below_all nat_cmp n es) h)

tests_alike : (a b : ℕ) → eq_by_cmp nat_cmp a b ≡ (a == b)
tests_alike a b = grind (arith, nat_tests)

-- ---- the whole

counted : (es : Entries) (ones : List Sent) → T (entry.is_sorted nat_cmp es) → ((n : ℕ) → queue_in (entry.find nat_cmp n es) ≡ on n ones) → sum_by weigh (values_of es) ≡ length ones
counted [] [] sorted same = refl
counted [] (one ∷ ones) sorted same =
    absurd (let none : [] ≡ one ∷ on one.endpoint ones = same one.endpoint ∙ ap (λ (b : Bool). cond b (one ∷ on one.endpoint ones) (on one.endpoint ones)) (eq-eqb one.endpoint one.endpoint refl) in let wrong = ap length none in omega arith)
counted (e ∷ es) ones sorted same =
    let first : queue_in (Some e.1) ≡ on e.0 ones = ap (λ (b : Bool). queue_in (cond b (Some e.1) (entry.find nat_cmp e.0 es))) (sym (tests_alike e.0 e.0 ∙ eq-eqb e.0 e.0 refl)) ∙ same e.0 in
    let many = ap length first in
    let later = counted es (but_on e.0 ones) (rest (entry.below_all nat_cmp e.0 es) (entry.is_sorted nat_cmp es) sorted) (λ n. by_test n (n == e.0) refl) in
    let parts = parts_of e.0 ones in
    omega (arith, sum_by-cons weigh e.1 (values_of es), many, later, parts)
  where
    by_test : (n : ℕ) (b : Bool) → (n == e.0) ≡ b → queue_in (entry.find nat_cmp n es) ≡ on n (but_on e.0 ones)
    by_test n true is =
        let n-is : n ≡ e.0 = eqb-true n e.0 is in
        ap queue_in (ap (λ (m : ℕ). entry.find nat_cmp m es) n-is ∙ absent e.0 es (front (entry.below_all nat_cmp e.0 es) (entry.is_sorted nat_cmp es) sorted))
        ∙ sym (ap (λ (m : ℕ). on m (but_on e.0 ones)) n-is ∙ none_here e.0 ones)
    by_test n false is =
        ap (λ (b : Bool). queue_in (cond b (Some e.1) (entry.find nat_cmp n es))) (sym (tests_alike n e.0 ∙ is))
        ∙ same n
        ∙ sym (others_there e.0 n ones is)

pub counts_its_list : (queues : Queues) (waiting : List Sent) → HasQueuesOf queues waiting → count queues ≡ length waiting
counts_its_list queues waiting has =
    counted (finite.entries queues.boxes) waiting (finite.entries_sorted queues.boxes) (λ n. sym (ap queue_in (finite.get-entries queues.boxes n)) ∙ has n)

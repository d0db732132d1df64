-- The dead, one after another.
use Rattle.std.proofs.Common.{◌≡◌, ◌≢◌, ℕ, ◌+◌, ◌<◌, Bool, true, false, List, [], ◌∷◌, ◌++◌, get_or, length, take, refl, sym, ap, ◌∙◌, subst, arith}
use Rattle.std.specs.Prelude.{◌||◌, AllPairs, None, Option, if◌then◌else◌, sum_by}
use Rattle.std.proofs.lemmas.List.{get_or-take, length-take, take_more}
use Rattle.std.proofs.lemmas.Option.{get_or_from_slice_get}
use Rattle.std.proofs.lemmas.List.Sums.{sum_by-append}
use Rattle.link_admission.specs.Numbering.{among}
use Rattle.vfs_journal.specs.Entries.{Sent}
use Rattle.message_queues.specs.Queues.{Queues, count, queue_of, server_of}
use Rattle.message_queues.specs.Dying.{Buries}
use Rattle.message_queues.proofs.Spread.{among_place, place_below}
use Rattle.message_queues.proofs.Numbers.{among-append, either_other}

pub buries_none : (q : Queues) → Buries q [] q
buries_none q = record { waiting = λ endpoint. refl; bound = λ endpoint. refl; those = refl }

-- first these die, and then those
both : (a b : Bool) → {A : Type 0} (x y : A) → (if b then x else (if a then x else y)) ≡ (if (a || b) then x else y)
both true true x y = refl
both true false x y = refl
both false true x y = refl
both false false x y = refl

buries_more : (q mid now : Queues) (ms ns : List ℕ) → Buries q ms mid → Buries mid ns now → Buries q (ms ++ ns) now
buries_more q mid now ms ns one two = record {
  waiting = λ endpoint. two.waiting endpoint ∙ ap (λ (queue : List Sent). if among endpoint ns then [] else queue) (one.waiting endpoint)
      ∙ both (among endpoint ms) (among endpoint ns) [] (queue_of q endpoint) ∙ ap (λ (b : Bool). if b then [] else queue_of q endpoint) (sym (among-append endpoint ms ns));
  bound = λ endpoint. two.bound endpoint ∙ ap (λ (server : Option ℕ). if among endpoint ns then None else server) (one.bound endpoint)
      ∙ both (among endpoint ms) (among endpoint ns) None (server_of q endpoint) ∙ ap (λ (b : Bool). if b then None else server_of q endpoint) (sym (among-append endpoint ms ns));
  those = two.those ∙ one.those;
}

pub buries_step : (q mid now : Queues) (dead : List ℕ) (i : ℕ) → i < length dead → Buries q (take i dead) mid → Buries mid (get_or dead i 0 ∷ []) now → Buries q (take (i + 1) dead) now
buries_step q mid now dead i low before last = subst (λ (ns : List ℕ). Buries q ns now) (sym (take_more dead i 0 low)) (buries_more q mid now (take i dead) (get_or dead i 0 ∷ []) before last)

zero_plus : (n : ℕ) → 0 + n ≡ n
zero_plus n = omega arith

earlier : (dead : List ℕ) (i x : ℕ) → i < length dead → get_or dead i 0 ≡ x → AllPairs (λ one other. one ≢ other) dead → among x (take i dead) ≡ true → ⊥
earlier dead i x low is once there =
    let at = among_place (take i dead) x there in
    let below = place_below (take i dead) at.0 x at.1 in
    let short = length-take i dead in
    let early : at.0 < i = omega (arith, below, short) in
    once at.0 i 0 early low (sym (get_or-take i dead at.0 0 early) ∙ (get_or_from_slice_get (take i dead) at.0 x 0 at.1 ∙ sym is))

-- the next one wasn't among the earlier ones
not_before : (dead : List ℕ) (i : ℕ) → i < length dead → AllPairs (λ one other. one ≢ other) dead → among (get_or dead i 0) (take i dead) ≡ false
not_before dead i low once =
    elim (among (get_or dead i 0) (take i dead)) as (λ b. among (get_or dead i 0) (take i dead) ≡ b → b ≡ false) [
      | true ↦ λ e. absurd (earlier dead i (get_or dead i 0) low refl once e)
      | false ↦ λ e. refl
    ] refl

pub count_step : (q mid now : Queues) (dead : List ℕ) (i : ℕ) → i < length dead → AllPairs (λ one other. one ≢ other) dead → Buries q (take i dead) mid
    → count mid + sum_by (λ endpoint. length (queue_of q endpoint)) (take i dead) ≡ count q → count now + length (queue_of mid (get_or dead i 0)) ≡ count mid
    → count now + sum_by (λ endpoint. length (queue_of q endpoint)) (take (i + 1) dead) ≡ count q
count_step q mid now dead i low once buries before last =
    let same : length (queue_of mid (get_or dead i 0)) ≡ length (queue_of q (get_or dead i 0)) =
    ap (λ (queue : List Sent). length queue) (buries.waiting (get_or dead i 0) ∙ either_other (among (get_or dead i 0) (take i dead)) [] (queue_of q (get_or dead i 0)) (not_before dead i low once)) in
    let more : sum_by (λ endpoint. length (queue_of q endpoint)) (take (i + 1) dead) ≡ sum_by (λ endpoint. length (queue_of q endpoint)) (take i dead) + length (queue_of q (get_or dead i 0)) =
    ap (λ (ns : List ℕ). sum_by (λ endpoint. length (queue_of q endpoint)) ns) (take_more dead i 0 low) ∙ sum_by-append (λ (endpoint : ℕ). length (queue_of q endpoint)) (take i dead) (get_or dead i 0 ∷ []) ∙ ap (λ (n : ℕ). sum_by (λ endpoint. length (queue_of q endpoint)) (take i dead) + n) (zero_plus (length (queue_of q (get_or dead i 0)))) in
    omega (arith, same, more)

-- Lists of numbers, each once.
use Rattle.std.proofs.Common.{◌≡◌, ℕ, ◌<◌, Bool, true, false, List, [], ◌∷◌, ◌++◌, map, refl, sym, ap, ◌∙◌, arith}
use Rattle.std.specs.Prelude.{◌==◌, ◌||◌, All, if◌then◌else◌}
use Rattle.std.proofs.lemmas.List.Elements.{All-head, All-tail}
use Rattle.std.proofs.lemmas.Bool.Decides.{nat_tests}
use Rattle.link_admission.specs.Numbering.{among}
use Rattle.vfs_journal.specs.Entries.{Sent}
use Rattle.message_queues.specs.Steps.{AreOnce}

pub either : (a b : Bool) → (a || b) ≡ true → a ≡ false → b ≡ true
either true b h isnt = absurd (cc)
either false b h isnt = h

pub neither : (a b : Bool) → (a || b) ≡ false → (a ≡ false) × (b ≡ false)
neither true b h = absurd (cc)
neither false b h = (refl, h)

or_assoc : (a b c : Bool) → ((a || b) || c) ≡ (a || (b || c))
or_assoc true b c = refl
or_assoc false b c = refl

or_false : (a : Bool) → (a || false) ≡ a
or_false true = refl
or_false false = refl

pub either_one : (b : Bool) → {A : Type 0} (x y : A) → b ≡ true → (if b then x else y) ≡ x
either_one true x y h = refl
either_one false x y h = absurd (cc)

pub either_other : (b : Bool) → {A : Type 0} (x y : A) → b ≡ false → (if b then x else y) ≡ y
either_other true x y h = absurd (cc)
either_other false x y h = refl

pub among-append : (n : ℕ) (ms ns : List ℕ) → among n (ms ++ ns) ≡ (among n ms || among n ns)
among-append n [] ns = refl
among-append n (m ∷ ms) ns = ap (λ (b : Bool). (m == n) || b) (among-append n ms ns) ∙ sym (or_assoc (m == n) (among n ms) (among n ns))

pub among-one : (n m : ℕ) → among n (m ∷ []) ≡ (m == n)
among-one n m = or_false (m == n)

pub same_number : (n m : ℕ) → (m == n) ≡ true → m ≡ n
same_number n m h = grind (arith, nat_tests)

pub itself : (n : ℕ) → (n == n) ≡ true
itself n = grind (arith, nat_tests)

pub other_number : (n m : ℕ) → ¬ (m ≡ n) → (m == n) ≡ false
other_number n m apart = grind (arith, nat_tests)

-- a number that isn't there yet put behind the others
pub once_push : (ns : List ℕ) (n : ℕ) → AreOnce ns → among n ns ≡ false → AreOnce (ns ++ n ∷ [])
once_push [] n once new = (refl, tt)
once_push (m ∷ ns) n once new =
    let apart = neither (m == n) (among n ns) new in
    let back : (n == m) ≡ false = grind (arith, nat_tests) in
    (among-append m ns (n ∷ []) ∙ rw (once.0, back) refl, once_push ns n once.1 apart.1)

-- a place above all others is none of them
pub above_none : (queue : List Sent) (place : ℕ) → All (λ sent. sent.place < place) queue → among place (map (λ sent. sent.place) queue) ≡ false
above_none [] place above = refl
above_none (sent ∷ queue) place above =
    let lower : sent.place < place = All-head (λ (s : Sent). s.place < place) sent queue above in
    let apart : (sent.place == place) ≡ false = grind (arith, nat_tests) in
    rw (apart, above_none queue place (All-tail (λ (s : Sent). s.place < place) sent queue above)) refl

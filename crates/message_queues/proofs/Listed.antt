-- A list of numbers, each once, beside the set of them.
use Rattle.std.proofs.Common.{◌≡◌, ◌≢◌, ℕ, None, Some, ◌<◌, ◌≤◌, ◌^◌, Bool, true, false, cond, eqb, List, [], ◌∷◌, ◌++◌, get_or, length, refl, sym, ap, ◌∙◌, subst, arith}
use Rattle.std.specs.Bool.{⊤, MatchBool}
use Rattle.std.specs.Prelude.{◌||◌, ◌==◌, AllPairs, if◌then◌else◌, not, slice_get, take}
use Rattle.std.specs.BTreeMap.{is_at}
use Rattle.std.specs.List.{IsDistinct, list_any}
use Rattle.std.specs.Ordering.{nat_cmp}
use Rattle.std.proofs.lemmas.Bool.Decides.{nat_tests, Decides-eqb}
use Rattle.std.proofs.lemmas.Cmp.{nat_eq_equiv}
use Rattle.std.proofs.lemmas.Map.Keys.{IsDistinct-push}
use Rattle.std.proofs.lemmas.Map.Made.{AllPairs-from_IsDistinct}
use Rattle.std.proofs.lemmas.Map.Steps.{length-le_from_distinct_below}
use Rattle.link_admission.specs.Numbering.{among}
use Rattle.message_queues.specs.Steps.{IsListed, with_number}
use Rattle.message_queues.proofs.Numbers.{among-append, among-one, same_number}

flipped : (n : ℕ) (ms : List ℕ) → list_any (eqb n) ms ≡ among n ms
flipped n [] = refl
flipped n (m ∷ ms) = let front : eqb n m ≡ (m == n) = grind (arith, nat_tests) in rw (front, flipped n ms) refl

pub listed_none : (keys : List ℕ) → keys ≡ [] → IsListed [] keys
unfolding IsDistinct
listed_none keys e = record { same = λ number. ap (λ (ks : List ℕ). list_any (is_at (nat_cmp number)) ks) e; once = tt; small = λ number there. absurd (cc) }

tested : (a b : ℕ) → is_at (nat_cmp a) b ≡ (a == b)
tested a b = grind (arith, nat_tests)

turned : (a b : Bool) → cond a true b ≡ (b || a)
turned true true = refl
turned true false = refl
turned false true = refl
turned false false = refl

pub listed_push : (found keys now : List ℕ) (number : ℕ) → IsListed found keys → number < 2 ^ 32 → list_any (is_at (nat_cmp number)) keys ≡ false
    → ((q : ℕ) → list_any (is_at (nat_cmp q)) now ≡ cond (is_at (nat_cmp number) q) true (list_any (is_at (nat_cmp q)) keys)) → IsListed (found ++ number ∷ []) now
listed_push found keys now number listed low isnt updates = record {
  same = λ q. updates q ∙ ap (λ (b : Bool). cond b true (list_any (is_at (nat_cmp q)) keys)) (tested number q) ∙ ap (cond (number == q) true) (listed.same q)
      ∙ turned (number == q) (among q found) ∙ ap (λ (b : Bool). among q found || b) (sym (among-one q number)) ∙ sym (among-append q found (number ∷ []));
  once = IsDistinct-push nat_eq_equiv found number listed.once (flipped number found ∙ sym (listed.same number) ∙ isnt);
  small = λ q there. elim (among q found) as (λ b. among q found ≡ b → q < 2 ^ 32) [
    | true ↦ λ e. listed.small q e
    | false ↦ λ e. let it : number ≡ q = same_number q number (last (among q found) (number == q) e (ap (λ (b : Bool). among q found || b) (sym (among-one q number)) ∙ sym (among-append q found (number ∷ [])) ∙ there)) in
        subst (λ (x : ℕ). x < 2 ^ 32) it low
  ] refl;
}
  where
    last : (a b : Bool) → a ≡ false → (a || b) ≡ true → b ≡ true
    last true b h there = absurd (cc)
    last false b h there = there

pub listed_few : (found keys : List ℕ) → IsListed found keys → length found ≤ 2 ^ 32
listed_few found keys listed = length-le_from_distinct_below found (2 ^ 32) listed.once (λ q there. listed.small q (sym (flipped q found) ∙ there))

pub listed_once : (found keys : List ℕ) → IsListed found keys → AllPairs (λ one other. one ≢ other) found
listed_once found keys listed = AllPairs-from_IsDistinct Decides-eqb found listed.once

pub not_true : (b : Bool) → true ≡ not b → b ≡ false
not_true true h = absurd (cc)
not_true false h = refl

pub apart : (a b : ℕ) → a ≢ b → (a == b) ≡ false
apart a b other = grind (other, arith, nat_tests)

turned_about : (a b : ℕ) → (a == b) ≡ (b == a)
turned_about a b = grind (arith, nat_tests)

with_new : (found : List ℕ) (number : ℕ) → among number found ≡ false → with_number found number ≡ found ++ number ∷ []
with_new found number new = ap (λ (b : Bool). if b then found else found ++ number ∷ []) new

with_old : (found : List ℕ) (number : ℕ) → among number found ≡ true → with_number found number ≡ found
with_old found number old = ap (λ (b : Bool). if b then found else found ++ number ∷ []) old

pub not_false : (b : Bool) → false ≡ not b → b ≡ true
not_false true h = refl
not_false false h = absurd (cc)

-- what is none of those behind the first, and not the first, is nowhere; what is one of those is there
nowhere : (found keys : List ℕ) (first number : ℕ) → slice_get found 0 ≡ Some first → (first == number) ≡ false → list_any (is_at (nat_cmp number)) keys ≡ false → list_any (is_at (nat_cmp number)) (take 1 found ++ keys) ≡ false
nowhere [] keys first number is other isnt = let wrong : None ≡ Some first = is in absurd (cc)
nowhere (f ∷ fs) keys first number is other isnt =
    let here : f ≡ first = let both : Some f ≡ Some first = is in cc in
    ap (λ (b : Bool). b || list_any (is_at (nat_cmp number)) keys) (tested number f ∙ turned_about number f ∙ ap (λ (n : ℕ). n == number) here ∙ other) ∙ isnt

behind : (found keys : List ℕ) (number : ℕ) → list_any (is_at (nat_cmp number)) keys ≡ true → list_any (is_at (nat_cmp number)) (take 1 found ++ keys) ≡ true
behind [] keys number there = there
behind (f ∷ fs) keys number there = ap (λ (b : Bool). is_at (nat_cmp number) f || b) there ∙ or_true (is_at (nat_cmp number) f)
  where
    or_true : (a : Bool) → (a || true) ≡ true
    or_true true = refl
    or_true false = refl

-- the first one found, and a set of the others, in which the newest is
pub listed_behind : (found keys now : List ℕ) (first number : ℕ) → slice_get found 0 ≡ Some first → IsListed found (take 1 found ++ keys) → number < 2 ^ 32 → (first == number) ≡ false → list_any (is_at (nat_cmp number)) keys ≡ false
    → ((q : ℕ) → list_any (is_at (nat_cmp q)) now ≡ cond (is_at (nat_cmp number) q) true (list_any (is_at (nat_cmp q)) keys)) → IsListed (found ++ number ∷ []) (take 1 (found ++ number ∷ []) ++ now)
listed_behind [] keys now first number is listed low other isnt updates = let wrong : None ≡ Some first = is in absurd (cc)
listed_behind (f ∷ fs) keys now first number is listed low other isnt updates =
    listed_push (f ∷ fs) (f ∷ keys) (f ∷ now) number listed low
    (nowhere (f ∷ fs) keys first number is other isnt)
    (λ q. ap (λ (b : Bool). is_at (nat_cmp q) f || b) (updates q) ∙ exchanged (is_at (nat_cmp q) f) (is_at (nat_cmp number) q) (list_any (is_at (nat_cmp q)) keys))
  where
    exchanged : (a b c : Bool) → (a || cond b true c) ≡ cond b true (a || c)
    exchanged true true c = refl
    exchanged true false c = refl
    exchanged false true c = refl
    exchanged false false c = refl

-- one that isn't the first of them, behind the others if it wasn't there
pub listed_told : (found keys now : List ℕ) (first number : ℕ) (added : Bool) → slice_get found 0 ≡ Some first → IsListed found (take 1 found ++ keys) → number < 2 ^ 32 → (first == number) ≡ false
    → added ≡ not (list_any (is_at (nat_cmp number)) keys) → MatchBool added ⊤ (now ≡ keys)
    → ((q : ℕ) → list_any (is_at (nat_cmp q)) now ≡ cond (is_at (nat_cmp number) q) true (list_any (is_at (nat_cmp q)) keys)) → IsListed (with_number found number) (take 1 (with_number found number) ++ now)
listed_told found keys now first number true is listed low other added same updates =
    let isnt : list_any (is_at (nat_cmp number)) keys ≡ false = not_true _ added in
    subst (λ (ns : List ℕ). IsListed ns (take 1 ns ++ now)) (sym (with_new found number (sym (listed.same number) ∙ nowhere found keys first number is other isnt)))
    (listed_behind found keys now first number is listed low other isnt updates)
listed_told found keys now first number false is listed low other added same updates =
    subst (λ (ns : List ℕ). IsListed ns (take 1 ns ++ now)) (sym (with_old found number (sym (listed.same number) ∙ behind found keys number (not_false _ added))))
    (subst (λ (ks : List ℕ). IsListed found (take 1 found ++ ks)) (sym same) listed)

-- the first one of all
pub listed_first : (found keys : List ℕ) (number : ℕ) → slice_get found 0 ≡ None → IsListed found (take 1 found ++ keys) → number < 2 ^ 32 → IsListed (found ++ number ∷ []) (take 1 (found ++ number ∷ []) ++ keys)
listed_first (f ∷ fs) keys number is listed low = let wrong : Some f ≡ None = is in absurd (cc)
listed_first [] keys number is listed low =
    listed_push [] keys (number ∷ keys) number listed low (listed.same number) (λ q. ap (λ (b : Bool). b || list_any (is_at (nat_cmp q)) keys) (tested q number ∙ turned_about q number ∙ sym (tested number q)) ∙ in_words (is_at (nat_cmp number) q) _)
  where
    in_words : (a b : Bool) → (a || b) ≡ cond a true b
    in_words true b = refl
    in_words false b = refl

pub listed_new : (found keys : List ℕ) (number : ℕ) → slice_get found 0 ≡ None → IsListed found (take 1 found ++ keys) → number < 2 ^ 32 → IsListed (with_number found number) (take 1 (with_number found number) ++ keys)
listed_new (f ∷ fs) keys number is listed low = let wrong : Some f ≡ None = is in absurd (cc)
listed_new [] keys number is listed low = listed_first [] keys number is listed low

-- a list of at most one
pub listed_alone : (found keys : List ℕ) → length found ≤ 1 → (0 < length found → get_or found 0 0 < 2 ^ 32) → keys ≡ [] → IsListed found (take 1 found ++ keys)
listed_alone [] keys few fit none = listed_none keys none
listed_alone (number ∷ []) keys few fit none = listed_first [] keys number refl (listed_none keys none) (fit (omega arith))
listed_alone (number ∷ other ∷ found) keys few fit none = absurd (omega arith)

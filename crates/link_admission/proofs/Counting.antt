-- How many endpoints are live, as one number stands otherwise.
use Rattle.std.proofs.Common.{◌≡◌, ◌<◌, ◌+◌, ◌^◌, ℕ, zero, suc, cond, eqb, ltb, refl, sym, ap, ◌∙◌, ⊎_elim, arith, zero-le, unwrap_or}
use Rattle.std.specs.Prelude.{Option}
use Rattle.std.proofs.lemmas.Bool.{cases_order, cond-true, cond-false, lt-ltb, le-ltb, eq-eqb, ne_eqb}
use Rattle.link_admission.specs.declared.kinds.Standing.{Standing}
use Rattle.link_admission.specs.declared.kinds.Standing.TheVariants as standing
use Rattle.link_admission.specs.Tables.{Table, value_at, ChangesAt, weight}
use Rattle.link_admission.specs.Pages.{noted, live_below, live_in}
use Rattle.link_admission.proofs.Paged.{said_if}

-- where nothing was used nothing is live
pub none_live : (f : ℕ → Standing) (n : ℕ) → ((q : ℕ) → f q ≡ standing.Unused) → live_below f n ≡ 0
unfolding live_below
none_live f zero unused = refl
none_live f (suc n) unused = omega (arith, none_live f n unused, ap weight (unused n))

-- the count where one number stands otherwise
counted : (f g : ℕ → Standing) (k : ℕ) (w : Standing) → ((q : ℕ) → g q ≡ cond (eqb q k) w (f q)) → (n : ℕ) → live_below g n + cond (ltb k n) (weight (f k)) 0 ≡ live_below f n + cond (ltb k n) (weight w) 0
unfolding live_below
counted f g k w is zero =
    let none = le-ltb k 0 zero-le in
    omega (arith, cond-false (ltb k 0) (weight (f k)) 0 none, cond-false (ltb k 0) (weight w) 0 none)
counted f g k w is (suc n) =
    ⊎_elim
    (λ (same : k ≡ n).
    let more = lt-ltb k (suc n) (omega (arith, same)) in
    let less = le-ltb k n (omega (arith, same)) in
    omega (
      arith,
      counted f g k w is n,
      ap weight (is n ∙ cond-true (eqb n k) w (f n) (eq-eqb n k (sym same))),
      ap (λ (m : ℕ). weight (f m)) same,
      cond-true (ltb k (suc n)) (weight (f k)) 0 more,
      cond-true (ltb k (suc n)) (weight w) 0 more,
      cond-false (ltb k n) (weight (f k)) 0 less,
      cond-false (ltb k n) (weight w) 0 less,
    ))
    (⊎_elim
    (λ (below : k < n).
    let more = lt-ltb k (suc n) (omega (arith, below)) in
    let less = lt-ltb k n below in
    omega (
      arith,
      counted f g k w is n,
      ap weight (is n ∙ cond-false (eqb n k) w (f n) (ne_eqb n k (λ e. omega (arith, e, below)))),
      cond-true (ltb k (suc n)) (weight (f k)) 0 more,
      cond-true (ltb k (suc n)) (weight w) 0 more,
      cond-true (ltb k n) (weight (f k)) 0 less,
      cond-true (ltb k n) (weight w) 0 less,
    ))
    (λ (above : n < k).
    let more = le-ltb k (suc n) (omega (arith, above)) in
    let less = le-ltb k n (omega (arith, above)) in
    omega (
      arith,
      counted f g k w is n,
      ap weight (is n ∙ cond-false (eqb n k) w (f n) (ne_eqb n k (λ e. omega (arith, e, above)))),
      cond-false (ltb k (suc n)) (weight (f k)) 0 more,
      cond-false (ltb k (suc n)) (weight w) 0 more,
      cond-false (ltb k n) (weight (f k)) 0 less,
      cond-false (ltb k n) (weight w) 0 less,
    )))
    (cases_order k n)

-- the count of a table in which one number changed
pub live_changes : (old new : Table Standing) (n : ℕ) (s : Standing) → n < 2 ^ 32 → ChangesAt n (noted s) old new → live_in new + weight (unwrap_or (value_at old n) standing.Unused) ≡ live_in old + weight s
live_changes old new n s small changes =
    let stands : Table Standing → ℕ → Standing = λ t q. unwrap_or (value_at t q) standing.Unused in
    let each = λ (q : ℕ). ap (λ (o : Option Standing). unwrap_or o standing.Unused) (changes q) ∙ said_if (eqb q n) s (value_at old q) in
    let below = lt-ltb n (2 ^ 32) small in
    omega (
      arith,
      counted (stands old) (stands new) n s each (2 ^ 32),
      cond-true (ltb n (2 ^ 32)) (weight (stands old n)) 0 below,
      cond-true (ltb n (2 ^ 32)) (weight s) 0 below,
    )

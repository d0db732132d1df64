-- What a step of reading that found a fault says.
use Rattle.std.proofs.Common.{◌≡◌, ℕ, zero, suc, ◌+◌, ◌-◌, ◌<◌, ◌≤◌, ◌⊎◌, inl, inr, Bool, true, false, not, cond, List, [], ◌∷◌, length, drop, get_or, slice_range, nat_lt, nat_le, nat_eq, Option, Some, None, Result, Ok, Err, refl, sym, ap, ◌∙◌, arith}
use Rattle.std.proofs.lemmas.List.{get_or-drop, get_or-take}
use Rattle.std.proofs.lemmas.Bool.Decides.{nat_tests}
use Rattle.std.specs.List.{position}
use Rattle.fidl_wire.specs.declared.faults.WireFault.{WireFault}
use Rattle.fidl_wire.specs.declared.faults.WireWhat.TheVariants.{Padding}
use Rattle.fidl_wire.specs.Headers.{fault}
use Rattle.fidl_wire.specs.Cursor.{Cursor}
use Rattle.fidl_wire.specs.Reading.{◌>>=◌, check, inline_at, blank_or, all_blank}
use Rattle.wire_laws.specs.Meanings.{IsFirstUsed, AreBlank}
use Rattle.wire_laws.proofs.Blanks.{zeros_len, zeros_len-used, length-slice_range}
use Rattle.wire_laws.proofs.Steps.{inline_at-ok}

-- the first step, or the next
pub bind_err : {A B : Type 0} → (r : Result A WireFault) (f : A → Result B WireFault) (e : WireFault) → (r >>= f) ≡ Err e → (r ≡ Err e) ⊎ ((a : A) × (r ≡ Ok a) × (f a ≡ Err e))
bind_err (Ok a) f e h = inr (a, refl, h)
bind_err (Err d) f e h = let same : d ≡ e = cc in inl (ap Err same)

-- only the first can fail
pub last_err : {A B : Type 0} → (r : Result A WireFault) (g : A → B) (e : WireFault) → (r >>= λ x. Ok (g x)) ≡ Err e → r ≡ Err e
last_err (Ok a) g e h = absurd (cc)
last_err (Err d) g e h = let same : d ≡ e = cc in ap Err same

pub check_err : (b : Bool) (d e : WireFault) → check b d ≡ Err e → (b ≡ false) × (d ≡ e)
check_err true d e h = absurd (cc)
check_err false d e h = let same : d ≡ e = cc in (refl, same)

pub check_bind_err : {B : Type 0} → (b : Bool) (d : WireFault) (f : Unit {0} → Result B WireFault) (e : WireFault) → (check b d >>= f) ≡ Err e →
    ((b ≡ false) × (d ≡ e)) ⊎ ((b ≡ true) × (f tt ≡ Err e))
check_bind_err true d f e h = inr (refl, h)
check_bind_err false d f e h = let same : d ≡ e = cc in inl (refl, same)

pub unit_bind_err : {B : Type 0} → (r : Result (Unit {0}) WireFault) (f : Unit {0} → Result B WireFault) (e : WireFault) → (r >>= f) ≡ Err e → (r ≡ Err e) ⊎ ((r ≡ Ok tt) × (f tt ≡ Err e))
unit_bind_err (Ok u) f e h = inr (refl, h)
unit_bind_err (Err d) f e h = let same : d ≡ e = cc in inl (ap Err same)

-- where the inline bytes are there, the rest
pub inline_bind_err : {B : Type 0} → (size : ℕ) (c : Cursor) (f : ℕ → Result B WireFault) (e : WireFault) → c.place + size ≤ c.end → (inline_at size c >>= f) ≡ Err e → f c.place ≡ Err e
inline_bind_err size c f e fits h = rw (inline_at-ok size c fits) at h

pub le_false : (m n : ℕ) → nat_le m n ≡ false → n < m
le_false m n h = grind (arith, nat_tests)

pub lt_err : (m n : ℕ) → nat_lt m n ≡ true → m < n
lt_err m n h = grind (arith, nat_tests)

pub eq_no : (m n : ℕ) → nat_eq m n ≡ false → m ≡ n → ⊥
eq_no m n h e = grind (arith, nat_tests)

pub not_false : (b : Bool) → not b ≡ false → b ≡ true
not_false true h = refl
not_false false h = absurd (cc)

-- ---- padding

zeros_before : (xs : List ℕ) (j : ℕ) → j < zeros_len xs → get_or xs j 0 ≡ 0
zeros_before [] j h = absurd (omega arith)
zeros_before (zero ∷ xs) zero h = refl
zeros_before (zero ∷ xs) (suc j) h = zeros_before xs j (omega arith)
zeros_before (suc b ∷ xs) j h = absurd (omega (arith, zeros_len-used b xs))

used_behind : (xs : List ℕ) (i : ℕ) → i ≡ zeros_len xs → i < length xs → get_or xs i 0 ≡ 0 → ⊥
used_behind [] i same h z = absurd (omega arith)
used_behind (zero ∷ xs) zero same h z = absurd (omega arith)
used_behind (zero ∷ xs) (suc i) same h z = used_behind xs i (omega arith) (omega arith) z
used_behind (suc b ∷ xs) zero same h z = absurd (omega (arith, z))
used_behind (suc b ∷ xs) (suc i) same h z = absurd (omega (arith, zeros_len-used b xs))

some_used : (n len i : ℕ) → cond (nat_lt n len) (Some n) None ≡ Some i → (i ≡ n) × (n < len)
some_used n len i =
    elim (nat_lt n len) as (λ b. nat_lt n len ≡ b → cond b (Some n) None ≡ Some i → (i ≡ n) × (n < len)) [
      | true ↦ λ below h. let same : n ≡ i = cc in (sym same, lt_err n len below)
      | false ↦ λ past h. absurd (cc)
    ] refl

blank_or_err : (from : ℕ) (p : Option ℕ) (e : WireFault) → blank_or from p ≡ Err e → (i : ℕ) × (p ≡ Some i) × (fault (from + i) Padding ≡ e)
blank_or_err from None e h = absurd (cc)
blank_or_err from (Some i) e h = let same : fault (from + i) Padding ≡ e = cc in (i, refl, same)

-- a byte of a part
pub byte_at : (m : List ℕ) (from until k : ℕ) → k < until - from → get_or (slice_range m from until) k 0 ≡ get_or m (from + k) 0
byte_at m from until k h = get_or-take (until - from) (drop from m) k 0 h ∙ get_or-drop from m k 0

pub blank_err : (m : List ℕ) (from until : ℕ) (e : WireFault) → from ≤ until → until ≤ length m → all_blank m from until ≡ Err e →
    (at : ℕ) × (fault at Padding ≡ e) × IsFirstUsed m from until at
unfolding all_blank
blank_err m from until e h k bad =
    let part = slice_range m from until in
    let found = blank_or_err from (position (λ b. not (nat_eq b 0)) part) e bad in
    let i = found.0 in
    let is = some_used (zeros_len part) (length part) i found.1 in
    let size : length part ≡ until - from = length-slice_range m from until h k in (
      from + i,
      found.2,
      record {
        order = omega arith;
        within = omega (arith, is.0, is.1, size);
        used = λ z. used_behind part i is.0 (omega (arith, is.0, is.1)) (byte_at m from until i (omega (arith, is.0, is.1, size)) ∙ z);
        blank = λ j low high.
            let same : from + (j - from) ≡ j = omega arith in
            ap (λ n. get_or m n 0) (sym same) ∙ sym (byte_at m from until (j - from) (omega (arith, is.0, is.1, size))) ∙ zeros_before part (j - from) (omega (arith, is.0));
      },
    )

-- zeros
pub blank_ok : (m : List ℕ) (from until : ℕ) → from ≤ until → until ≤ length m → all_blank m from until ≡ Ok tt → AreBlank m from until
unfolding all_blank
blank_ok m from until h k good j low high =
    let part = slice_range m from until in
    let size : length part ≡ until - from = length-slice_range m from until h k in
    let all : length part ≤ zeros_len part = none_left (zeros_len part) (length part) (none (position (λ b. not (nat_eq b 0)) part) good) in
    let same : from + (j - from) ≡ j = omega arith in
    ap (λ n. get_or m n 0) (sym same) ∙ sym (byte_at m from until (j - from) (omega arith)) ∙ zeros_before part (j - from) (omega (arith, all, size))
  where
    none : (p : Option ℕ) → blank_or from p ≡ Ok tt → p ≡ None
    none None g = refl
    none (Some i) g = absurd (cc)

    none_left : (n len : ℕ) → cond (nat_lt n len) (Some n) None ≡ None → len ≤ n
    none_left n len g = grind (arith, nat_tests)

-- What a step of reading that went well says.
use Rattle.std.proofs.Common.{◌≡◌, ℕ, ◌+◌, ◌<◌, ◌≤◌, Bool, true, false, not, cond, ◌&&◌, nat_lt, nat_le, nat_eq, Result, Ok, Err, refl, sym, ap, ◌∙◌, arith}
use Rattle.std.proofs.lemmas.Bool.Decides.{nat_tests}
use Rattle.fidl_wire.specs.declared.faults.WireFault.{WireFault}
use Rattle.fidl_wire.specs.Cursor.{Cursor}
use Rattle.fidl_wire.specs.Reading.{◌>>=◌, check, inline_at}

-- both steps went well
pub bind_ok : {A B : Type 0} → (r : Result A WireFault) (f : A → Result B WireFault) (b : B) → (r >>= f) ≡ Ok b → (a : A) × (r ≡ Ok a) × (f a ≡ Ok b)
bind_ok (Ok a) f b h = (a, refl, h)
bind_ok (Err e) f b h = absurd (cc)

pub check_ok : (b : Bool) (e : WireFault) (u : Unit {0}) → check b e ≡ Ok u → b ≡ true
check_ok true e u h = refl
check_ok false e u h = absurd (cc)

pub check-true : (b : Bool) (e : WireFault) → b ≡ true → check b e ≡ Ok tt
check-true b e h = rw h refl

pub inline_ok : (size at : ℕ) (c : Cursor) → inline_at size c ≡ Ok at → (c.place + size ≤ c.end) × (at ≡ c.place)
inline_ok size at c h = grind (arith, nat_tests)

pub inline_at-ok : (size : ℕ) (c : Cursor) → c.place + size ≤ c.end → inline_at size c ≡ Ok c.place
inline_at-ok size c h = grind (arith, nat_tests)

pub if_ok : {A : Type 0} → (b : Bool) (a r : A) (e : WireFault) → cond b (Ok a) (Err e) ≡ Ok r → b ≡ true
if_ok true a r e h = refl
if_ok false a r e h = absurd (cc)

pub both_true : (a b : Bool) → (a && b) ≡ true → (a ≡ true) × (b ≡ true)
both_true true b h = (refl, h)
both_true false b h = absurd (cc)

pub eq_true : (m n : ℕ) → nat_eq m n ≡ true → m ≡ n
eq_true m n h = grind (arith, nat_tests)

pub true_eq : (m n : ℕ) → m ≡ n → nat_eq m n ≡ true
true_eq m n h = grind (arith, nat_tests)

pub le_true : (m n : ℕ) → nat_le m n ≡ true → m ≤ n
le_true m n h = grind (arith, nat_tests)

pub true_le : (m n : ℕ) → m ≤ n → nat_le m n ≡ true
true_le m n h = grind (arith, nat_tests)

pub lt_true : (m n : ℕ) → nat_lt m n ≡ true → m < n
lt_true m n h = grind (arith, nat_tests)

pub true_lt : (m n : ℕ) → m < n → nat_lt m n ≡ true
true_lt m n h = grind (arith, nat_tests)

pub not_true : (b : Bool) → not b ≡ true → b ≡ false
not_true true h = absurd (cc)
not_true false h = refl

pub false_eq : (m n : ℕ) → (m ≡ n → ⊥) → nat_eq m n ≡ false
false_eq m n h = grind (arith, nat_tests)

pub eq_false : (m n : ℕ) → nat_eq m n ≡ false → m ≡ n → ⊥
eq_false m n h e = grind (arith, nat_tests)

-- inline bytes were there, and the rest went well
pub inline_bind : {B : Type 0} → (size : ℕ) (c : Cursor) (f : ℕ → Result B WireFault) (b : B) → (inline_at size c >>= f) ≡ Ok b → (c.place + size ≤ c.end) × (f c.place ≡ Ok b)
inline_bind size c f b h =
    let place = bind_ok (inline_at size c) f b h in
    let fits = inline_ok size place.0 c place.1 in
    (fits.0, ap f (sym fits.1) ∙ place.2)

-- a test passed, and the rest went well
pub check_bind : {B : Type 0} → (p : Bool) (e : WireFault) (f : Unit {0} → Result B WireFault) (b : B) → (check p e >>= f) ≡ Ok b → (p ≡ true) × (f tt ≡ Ok b)
check_bind true e f b h = (refl, h)
check_bind false e f b h = absurd (cc)

pub unit_bind : {B : Type 0} → (r : Result (Unit {0}) WireFault) (f : Unit {0} → Result B WireFault) (b : B) → (r >>= f) ≡ Ok b → (r ≡ Ok tt) × (f tt ≡ Ok b)
unit_bind (Ok u) f b h = (refl, h)
unit_bind (Err e) f b h = absurd (cc)

pub lt_false : (m n : ℕ) → nat_lt m n ≡ false → n ≤ m
lt_false m n h = grind (arith, nat_tests)

pub not_lt : (m n : ℕ) → n ≤ m → nat_lt m n ≡ false
not_lt m n h = grind (arith, nat_tests)

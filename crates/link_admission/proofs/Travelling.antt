-- Handles that may travel, one by one.
use Rattle.std.proofs.Common.{◌≡◌, ◌<◌, ◌&&◌, ◌||◌, ℕ, zero, suc, Bool, true, false, not, cond, eqb, List, [], ◌∷◌, length, take, refl, sym, ap, ◌∙◌, arith}
use Rattle.std.specs.Prelude.{Option, Some, None, unwrap_or, IsSome, slice_index}
use Rattle.std.proofs.lemmas.Bool.{eqb-true, eq-eqb}
use Rattle.link_admission.specs.declared.kinds.Standing.{Standing}
use Rattle.link_admission.specs.declared.kinds.Standing.TheVariants as standing
use Rattle.link_admission.specs.Admission.{LookUps, may_travel, all_may_travel}
use Rattle.fidl_names.specs.HandleNumber.{is_client}
use Rattle.link_admission.specs.Numbering.{among}
use Rattle.link_admission.specs.Standings.{is_used}
use Rattle.link_admission.specs.Tables.{AreEachOnce}

pub three : (a b c : Bool) → a && b && c ≡ true → (a ≡ true) × (b ≡ true) × (c ≡ true)
three true true true h = (refl, refl, refl)
three true true false h = cc
three true false c h = cc
three false b c h = cc

one_of : (a b : Bool) → a || b ≡ true → a ≡ false → b ≡ true
one_of true b h no_a = cc
one_of false b h no_a = h

or_right : (a b : Bool) → b ≡ true → a || b ≡ true
or_right true b h = refl
or_right false b h = h

eqb_same : (n : ℕ) → eqb n n ≡ true
eqb_same n = eq-eqb n n refl

-- each of the handles may travel
pub travel_each : (l : LookUps) (hs : List ℕ) → all_may_travel l hs ≡ true → (q : ℕ) → among q hs ≡ true → may_travel l q ≡ true
travel_each l [] all q here = cc
travel_each l (h ∷ hs) all q here =
    let parts = three (may_travel l h) (not (among h hs)) (all_may_travel l hs) all in
    by_test (eqb h q) refl parts.0 (travel_each l hs parts.2 q) here where
      by_test : (b : Bool) → eqb h q ≡ b → may_travel l h ≡ true → (among q hs ≡ true → may_travel l q ≡ true) → (eqb h q || among q hs) ≡ true → may_travel l q ≡ true
      by_test true e first rest here = ap (may_travel l) (sym (eqb-true h q e)) ∙ first
      by_test false e first rest here = rest (one_of (eqb h q) (among q hs) here e)

-- what stands in a list is among it
pub among_at : (ns : List ℕ) (i : ℕ) → i < length ns → among (slice_index ns i) ns ≡ true
among_at [] i h = absurd (omega arith)
among_at (n ∷ ns) zero h = ap (λ (b : Bool). b || among n ns) (eqb_same n)
among_at (n ∷ ns) (suc i) h = or_right (eqb n (slice_index ns i)) (among (slice_index ns i) ns) (among_at ns i (omega arith))

-- no handle stands twice
pub travel_distinct : (l : LookUps) (hs : List ℕ) → all_may_travel l hs ≡ true → AreEachOnce hs
travel_distinct l [] all i h = absurd (omega arith)
travel_distinct l (n ∷ ns) all zero h = refl
travel_distinct l (n ∷ ns) all (suc i) h =
    let parts = three (may_travel l n) (not (among n ns)) (all_may_travel l ns) all in
    let at : i < length ns = omega arith in
    by_test (eqb n (slice_index ns i)) refl parts.1 (among_at ns i at) (travel_distinct l ns parts.2 i at) where
      by_test : (b : Bool) → eqb n (slice_index ns i) ≡ b → not (among n ns) ≡ true → among (slice_index ns i) ns ≡ true → among (slice_index ns i) (take i ns) ≡ false → (eqb n (slice_index ns i) || among (slice_index ns i) (take i ns)) ≡ false
      by_test true e apart here rest =
          let twice : among n ns ≡ true = ap (λ (m : ℕ). among m ns) (eqb-true n (slice_index ns i) e) ∙ here in
          let wrong : false ≡ true = ap not (sym twice) ∙ apart in
          cc
      by_test false e apart here rest = ap (λ (b : Bool). b || among (slice_index ns i) (take i ns)) e ∙ rest

-- a client number that may travel and is no token was never used
pub unused_by : (l : LookUps) (q : ℕ) → may_travel l q ≡ true → l.holds q ≡ false → l.used q ≡ false
unused_by l q may apart = from_parts (is_client q) (l.used q) (l.holds q) may apart where
  from_parts : (c u h : Bool) → (c && not u) || h ≡ true → h ≡ false → u ≡ false
  from_parts c false h may apart = refl
  from_parts c u true may apart = cc
  from_parts true true false may apart = cc
  from_parts false true false may apart = cc

-- another number that may travel is a token that is held
pub held_by : (l : LookUps) (q : ℕ) → may_travel l q ≡ true → is_client q ≡ false → l.holds q ≡ true
held_by l q may other = from_parts (is_client q) (l.used q) (l.holds q) may other where
  from_parts : (c u h : Bool) → (c && not u) || h ≡ true → c ≡ false → h ≡ true
  from_parts c u true may other = refl
  from_parts true u false may other = cc
  from_parts false u false may other = cc

-- a number that isn't used stands nowhere in a table without unused ones
pub nowhere : (o : Option Standing) → (o ≡ Some standing.Unused → ⊥) → is_used (unwrap_or o standing.Unused) ≡ false → o ≡ None
nowhere None known unused = refl
nowhere (Some standing.Unused) known unused = absurd (known refl)
nowhere (Some standing.Live) known unused = cc
nowhere (Some standing.HungUp) known unused = cc
nowhere (Some standing.Dead) known unused = cc

-- a token that is held stands in its table
pub somewhere : (o : Option Bool) → unwrap_or o false ≡ true → IsSome o
somewhere None h = cc
somewhere (Some b) h = refl

-- a standing after a choice
pub standing_chosen : (b : Bool) (o : Option Standing) → unwrap_or (cond b (Some standing.Live) o) standing.Unused ≡ cond b standing.Live (unwrap_or o standing.Unused)
standing_chosen true o = refl
standing_chosen false o = refl

-- The numbers that paths lead to, as a list grows at its end.
use Rattle.std.proofs.Common.{◌≡◌, ℕ, ◌+◌, ◌≤◌, Bool, true, false, if◌then◌else◌, List, [], ◌∷◌, ◌++◌, length, Option, Some, None, refl, sym, ap, ◌∙◌, arith}
use Rattle.std.specs.Prelude.{slice_get}
use Rattle.std.specs.List.{position}
use Rattle.std.specs.Option.{option_or, option_map_or}
use Rattle.std.specs.Str.{bytes_eq}
use Rattle.std.proofs.lemmas.Slice.Eq.{bytes_eq-Decides}
use Rattle.path_walk.specs.Names.{dot}
use Rattle.path_walk.specs.Parts.{is_dot}
use Rattle.path_walk.proofs.PathLemmas.{same_bytes}
use Rattle.session_start.specs.Numbering.{Named, number_at}
use Rattle.session_start.proofs.Found.{same_some, position_there, position_push}

abbrev pub at_path : List ℕ → Named → Bool
at_path path one = bytes_eq one.path path

-- ---- what a path leads to

pub data At (named : List Named) (path : List ℕ) : Type 0 where
  root : is_dot path ≡ true → number_at named path ≡ 1 → At named path
  there : (k : ℕ) (one : Named) → is_dot path ≡ false → position (at_path path) named ≡ Some k → slice_get named k ≡ Some one → one.path ≡ path → number_at named path ≡ k + 2 → At named path
  absent : is_dot path ≡ false → position (at_path path) named ≡ None → number_at named path ≡ 0 → At named path

number_dot : (named : List Named) (path : List ℕ) → is_dot path ≡ true → number_at named path ≡ 1
unfolding number_at
number_dot named path is = rw is

number_below : (named : List Named) (path : List ℕ) → is_dot path ≡ false → number_at named path ≡ option_map_or (λ place. place + 2) (position (at_path path) named) 0
unfolding number_at
number_below named path is = rw is

at_below : (named : List Named) (path : List ℕ) → is_dot path ≡ false → (o : Option ℕ) → position (at_path path) named ≡ o → At named path
at_below named path below None e = absent below e (number_below named path below ∙ ap (λ o. option_map_or (λ place. place + 2) o 0) e)
at_below named path below (Some k) e =
    let found = position_there (at_path path) named k e in
    there k found.0 below e found.1 (same_bytes found.0.path path found.2) (number_below named path below ∙ ap (λ o. option_map_or (λ place. place + 2) o 0) e)

pub at : (named : List Named) (path : List ℕ) → At named path
at named path = by_dot (is_dot path) refl where
  by_dot : (b : Bool) → is_dot path ≡ b → At named path
  by_dot true is = root is (number_dot named path is)
  by_dot false is = at_below named path is (position (at_path path) named) refl

-- paths that lead to one node are one
pub number_same : (named : List Named) (p q : List ℕ) → 1 ≤ number_at named p → number_at named p ≡ number_at named q → p ≡ q
number_same named p q some same = by_both (at named p) (at named q) where
  by_both : At named p → At named q → p ≡ q
  by_both (root a m) (root b n) = same_bytes p dot a ∙ sym (same_bytes q dot b)
  by_both (root a m) (there j two b f h e n) = absurd (omega (arith, m, n, same))
  by_both (root a m) (absent b h n) = absurd (omega (arith, m, n, same))
  by_both (there k one a f g d m) (root b n) = absurd (omega (arith, m, n, same))
  by_both (there k one a f g d m) (there j two b h i e n) =
      let places : k ≡ j = omega (arith, m, n, same) in
      let ones : one ≡ two = same_some (sym g ∙ ap (slice_get named) places ∙ i) in
      sym d ∙ ap (λ (x : Named). x.path) ones ∙ e
  by_both (there k one a f g d m) (absent b h n) = absurd (omega (arith, m, n, same))
  by_both (absent a h m) by_q = absurd (omega (arith, m, some))

-- ---- one more

-- a path below the root at which nothing stands
pub record IsNew (named : List Named) (path : List ℕ) : Type 0 where
  pub below : is_dot path ≡ false
  pub free : position (at_path path) named ≡ None

or_none_of : (o : Option ℕ) → option_or o None ≡ o
or_none_of None = refl
or_none_of (Some k) = refl

-- the new path leads to the next number, and each other one to where it led
pub number_push : (named : List Named) (one : Named) → IsNew named one.path → (path : List ℕ) →
    number_at (named ++ one ∷ []) path ≡ (if at_path path one then length named + 2 else number_at named path)
number_push named one new path = by_dot (is_dot path) refl (at_path path one) refl where
  by_dot : (d : Bool) → is_dot path ≡ d → (b : Bool) → at_path path one ≡ b → number_at (named ++ one ∷ []) path ≡ (if at_path path one then length named + 2 else number_at named path)
  by_dot true is true e =
      let wrong : true ≡ false = sym is ∙ ap is_dot (sym (same_bytes one.path path e)) ∙ new.below in absurd (cc)
  by_dot true is false e = number_dot (named ++ one ∷ []) path is ∙ sym (number_dot named path is) ∙ rw e
  by_dot false is true e =
      let free : position (at_path path) named ≡ None = ap (λ text. position (at_path text) named) (sym (same_bytes one.path path e)) ∙ new.free in
      number_below (named ++ one ∷ []) path is
      ∙ ap (λ o. option_map_or (λ place. place + 2) o 0) (position_push (at_path path) named one ∙ ap (λ o. option_or o (if at_path path one then Some (length named) else None)) free ∙ ap (λ b. option_or None (if b then Some (length named) else None)) e)
      ∙ rw e
  by_dot false is false e =
      number_below (named ++ one ∷ []) path is
      ∙ ap (λ o. option_map_or (λ place. place + 2) o 0) (position_push (at_path path) named one ∙ ap (λ b. option_or (position (at_path path) named) (if b then Some (length named) else None)) e ∙ or_none_of (position (at_path path) named))
      ∙ sym (number_below named path is) ∙ rw e

pub number_free : (named : List Named) (path : List ℕ) → IsNew named path → number_at named path ≡ 0
number_free named path new = number_below named path new.below ∙ ap (λ o. option_map_or (λ place. place + 2) o 0) new.free

pub number_new : (named : List Named) (one : Named) → IsNew named one.path → number_at (named ++ one ∷ []) one.path ≡ length named + 2
number_new named one new = number_push named one new one.path ∙ rw ((bytes_eq-Decides one.path one.path).1 refl)

-- what is there stays
pub number_kept : (named : List Named) (one : Named) → IsNew named one.path → (path : List ℕ) → 1 ≤ number_at named path → number_at (named ++ one ∷ []) path ≡ number_at named path
number_kept named one new path some = number_push named one new path ∙ by_test (at_path path one) refl where
  by_test : (b : Bool) → at_path path one ≡ b → (if b then length named + 2 else number_at named path) ≡ number_at named path
  by_test true e =
      let none : number_at named path ≡ 0 = ap (number_at named) (sym (same_bytes one.path path e)) ∙ number_free named one.path new in
      absurd (omega (arith, none, some))
  by_test false e = refl

-- Numbers that are kept by pages.
use Rattle.std.proofs.Common.{◌≡◌, ◌≤◌, ◌<◌, ◌^◌, ◌/◌, ◌%◌, ◌==◌, ◌++◌, ◌∷◌, [], ℕ, zero, suc, Bool, true, false, cond, eqb, ltb, List, Vec, length, refl, sym, ap, ◌∙◌, ⊎_elim, subst, arith, zero-le, unwrap_or}
use Rattle.std.specs.Prelude.{◌⊎◌, Option, Some, None, IsSome, replicate, slice_get, slice_set, take}
use Rattle.std.specs.Ordering.{nat_cmp}
use Rattle.std.specs.FinMap as map
use Rattle.std.specs.FinMap.{get-empty, get-insert}
use Rattle.std.proofs.lemmas.Bool.{cases_order, cases_eq, cases_lt, cond-true, cond-false, lt-ltb, le-ltb, eq-eqb, ne_eqb, eqb-true, false≢true}
use Rattle.std.proofs.lemmas.Nat.{div-add-mod'}
use Rattle.std.proofs.lemmas.Nat.Bits.{bit_at-zero}
use Rattle.std.proofs.lemmas.Cmp.{nat_cmp_total}
use Rattle.std.proofs.lemmas.List.{take_all}
use Rattle.std.proofs.lemmas.Option.{slice_get_past}
use Rattle.link_admission.specs.declared.kinds.Standing.{Standing}
use Rattle.link_admission.specs.declared.kinds.Standing.TheVariants as standing
use Rattle.link_admission.specs.declared.page.Page.{Page}
use Rattle.link_admission.specs.Standings.{standing_from}
use Rattle.link_admission.specs.Tables.{Table, value_at, ChangesAt}
use Rattle.link_admission.specs.Pages.{Gives, Puts, in_far, in_kept, in_near, in_page, in_pages, noted, noted_below, put_noted, unused_page}
use Rattle.link_admission.proofs.Tabled.{same_number, turned}

at_put : (o : Option Standing) (n : ℕ) (t : Table Standing) → value_at t n ≡ None → value_at (put_noted o n t) n ≡ o
at_put None n t none = none
at_put (Some s) n t none =
    get-insert nat_cmp_total t n s n ∙ ap (λ (b : Bool). cond b (Some s) (map.get t n)) (same_number n n ∙ eq-eqb n n refl)

beside_put : (o : Option Standing) (n q : ℕ) (t : Table Standing) → eqb q n ≡ false → value_at (put_noted o n t) q ≡ value_at t q
beside_put None n q t apart = refl
beside_put (Some s) n q t apart =
    get-insert nat_cmp_total t n s q ∙ ap (λ (b : Bool). cond b (Some s) (map.get t q)) (same_number q n ∙ apart)

-- a table of the numbers below a bound has each of them
pub get-noted_below : (f : ℕ → Standing) (n q : ℕ) → value_at (noted_below f n) q ≡ cond (ltb q n) (noted (f q)) None
unfolding noted_below
get-noted_below f zero q = get-empty nat_cmp q ∙ sym (cond-false (ltb q 0) (noted (f q)) None (le-ltb q 0 (zero-le)))
get-noted_below f (suc n) q =
    ⊎_elim
    (λ (same : q ≡ n).
    ap (value_at (put_noted (noted (f n)) n (noted_below f n))) same
    ∙ (at_put (noted (f n)) n (noted_below f n) (get-noted_below f n n ∙ cond-false (ltb n n) (noted (f n)) None (le-ltb n n (omega arith)))
    ∙ (ap (λ (m : ℕ). noted (f m)) (sym same) ∙ sym (cond-true (ltb q (suc n)) (noted (f q)) None (lt-ltb q (suc n) (omega (arith, same)))))))
    (⊎_elim
    (λ (below : q < n).
    beside_put (noted (f n)) n q (noted_below f n) (ne_eqb q n (λ e. omega (arith, e, below)))
    ∙ (get-noted_below f n q ∙ ap (λ (b : Bool). cond b (noted (f q)) None) (lt-ltb q n below ∙ sym (lt-ltb q (suc n) (omega (arith, below))))))
    (λ (above : n < q).
    beside_put (noted (f n)) n q (noted_below f n) (ne_eqb q n (λ e. omega (arith, e, above)))
    ∙ (get-noted_below f n q ∙ ap (λ (b : Bool). cond b (noted (f q)) None) (le-ltb q n (omega (arith, above)) ∙ sym (le-ltb q (suc n) (omega (arith, above)))))))
    (cases_order q n)

-- what is noted of a standing says it
pub said : (s : Standing) → unwrap_or (noted s) standing.Unused ≡ s
said standing.Unused = refl
said standing.Live = refl
said standing.HungUp = refl
said standing.Dead = refl

pub said_if : (b : Bool) (s : Standing) (o : Option Standing) → unwrap_or (cond b (noted s) o) standing.Unused ≡ cond b s (unwrap_or o standing.Unused)
said_if true s o = said s
said_if false s o = refl

-- what is noted of a number is how it stands
pub at_number : (f : ℕ → Standing) (n : ℕ) → n < 2 ^ 32 → value_at (noted_below f (2 ^ 32)) n ≡ noted (f n)
at_number f n small = get-noted_below f (2 ^ 32) n ∙ cond-true (ltb n (2 ^ 32)) (noted (f n)) None (lt-ltb n (2 ^ 32) small)

noted_if : (is below : Bool) (s t : Standing) → (is ≡ true → below ≡ true) → cond below (noted (cond is s t)) None ≡ cond is (noted s) (cond below (noted t) None)
noted_if true true s t h = refl
noted_if false b s t h = refl
noted_if true false s t h = absurd (false≢true (h refl))

-- where one number is given a standing, it alone is noted anew
pub changes : (f g : ℕ → Standing) (n : ℕ) (s : Standing) → n < 2 ^ 32 → Gives n s f g → ChangesAt n (noted s) (noted_below f (2 ^ 32)) (noted_below g (2 ^ 32))
changes f g n s small gives q =
    get-noted_below g (2 ^ 32) q
    ∙ (ap (λ (t : Standing). cond (ltb q (2 ^ 32)) (noted t) None) (gives q)
    ∙ (noted_if (eqb q n) (ltb q (2 ^ 32)) s (f q) (λ e. lt-ltb q (2 ^ 32) (omega (arith, small, eqb-true q n e)))
    ∙ ap (cond (eqb q n) (noted s)) (sym (get-noted_below f (2 ^ 32) q))))

-- a page that is put where that of a number was, with another standing of this number alone, gives it alone that
pub puts_page : (old new : ℕ → Option Page) (k n : ℕ) (s : Standing) (p : Page) → k ≡ n / 32 → ((r : ℕ) → new r ≡ cond (eqb k r) (Some p) (old r)) → ((q : ℕ) → in_page p q ≡ cond (eqb (q % 32) (n % 32)) s (in_kept (old k) q)) → Gives n s (λ q. in_kept (old (q / 32)) q) (λ q. in_kept (new (q / 32)) q)
puts_page old new k n s p page updates is q =
    ⊎_elim
    (λ (here : k ≡ q / 32).
    ap (λ (o : Option Page). in_kept o q) (updates (q / 32) ∙ cond-true (eqb k (q / 32)) (Some p) (old (q / 32)) (eq-eqb k (q / 32) here))
    ∙ (is q
    ∙ (ap (λ (r : ℕ). cond (eqb (q % 32) (n % 32)) s (in_kept (old r) q)) here
    ∙ ap (λ (b : Bool). cond b s (in_kept (old (q / 32)) q)) (same_place q n (sym page ∙ here)))))
    (λ (there : k ≡ q / 32 → ⊥).
    ap (λ (o : Option Page). in_kept o q) (updates (q / 32) ∙ cond-false (eqb k (q / 32)) (Some p) (old (q / 32)) (ne_eqb k (q / 32) there))
    ∙ sym (cond-false (eqb q n) s (in_kept (old (q / 32)) q) (ne_eqb q n (λ e. there (page ∙ ap (λ (m : ℕ). m / 32) (sym e))))))
    (cases_eq k (q / 32)) where
      same_place : (q n : ℕ) → n / 32 ≡ q / 32 → eqb (q % 32) (n % 32) ≡ eqb q n
      same_place q n here =
          ⊎_elim
          (λ (same : q ≡ n). eq-eqb (q % 32) (n % 32) (ap (λ (m : ℕ). m % 32) same) ∙ sym (eq-eqb q n same))
          (λ (other : q ≡ n → ⊥).
          ne_eqb (q % 32) (n % 32) (λ e. other (omega (arith, here, e, div-add-mod' q 32, div-add-mod' n 32)))
          ∙ sym (ne_eqb q n other))
          (cases_eq q n)

-- on a page of unused numbers none was used
pub unused_stands : (q : ℕ) → in_page unused_page q ≡ standing.Unused
unused_stands q = ap (λ (bit : ℕ). standing_from (bit == 1, bit == 1)) (bit_at-zero (q % 32))

-- the same of pages by their indexes
pub puts_far : (old new : ℕ → Page) (k n : ℕ) (s : Standing) (p : Page) → k ≡ n / 32 → Puts k p old new → ((q : ℕ) → in_page p q ≡ cond (eqb (q % 32) (n % 32)) s (in_page (old k) q)) → Gives n s (λ q. in_page (old (q / 32)) q) (λ q. in_page (new (q / 32)) q)
puts_far old new k n s p page puts is q =
    puts_page (λ r. Some (old r)) (λ r. Some (new r)) k n s p page
    (λ r. ap (λ (page : Page). Some page) (puts r) ∙ (some_if (eqb r k) p (old r) ∙ turned r k (Some p) (Some (old r)))) is q where
      some_if : (b : Bool) (one other : Page) → Some (cond b one other) ≡ cond b (Some one) (Some other)
      some_if true one other = refl
      some_if false one other = refl

-- numbers that stand alike make one table
pub same_noted : (f g : ℕ → Standing) (n : ℕ) → ((q : ℕ) → f q ≡ g q) → noted_below f n ≡ noted_below g n
unfolding noted_below
same_noted f g zero same = refl
same_noted f g (suc n) same =
    ap (λ (t : Standing). put_noted (noted t) n (noted_below f n)) (same n) ∙ ap (put_noted (noted (g n)) n) (same_noted f g n same)

pub same_pages : {S : Type 0} (near : List Page) (far other : List (Vec (Vec Page S) S)) → ((q : ℕ) → in_far other q ≡ in_far far q) → noted_below (in_pages near other) (2 ^ 32) ≡ noted_below (in_pages near far) (2 ^ 32)
same_pages near far other same = same_noted (in_pages near other) (in_pages near far) (2 ^ 32) (λ q. ap (cond (ltb q 131072) (in_near near q)) (same q))

-- to forget a number that stands nowhere changes nothing
pub forgets : (f : ℕ → Standing) (n : ℕ) (s : Standing) → f n ≡ standing.Unused → IsSome (noted (f n)) ⊎ (s ≡ standing.Unused) → Gives n s f f
forgets f n s missing known q =
    ⊎_elim
    (λ (same : q ≡ n). ap f same ∙ (missing ∙ (sym unused ∙ sym (cond-true (eqb q n) s (f q) (eq-eqb q n same)))))
    (λ (other : q ≡ n → ⊥). sym (cond-false (eqb q n) s (f q) (ne_eqb q n other)))
    (cases_eq q n) where
      none : IsSome (noted standing.Unused) → ⊥
      none h = cc

      unused : s ≡ standing.Unused
      unused =
          ⊎_elim
          (λ (there : IsSome (noted (f n))). absurd (none (subst (λ (t : Standing). IsSome (noted t)) missing there)))
          (λ (is : s ≡ standing.Unused). is)
          known

set_same : (ps : List Page) (k : ℕ) (p : Page) → k < length ps → slice_get (slice_set ps k p) k ≡ Some p
set_same [] k p within = absurd (omega (arith, within))
set_same (x ∷ ps) zero p within = refl
set_same (x ∷ ps) (suc k) p within = set_same ps k p (omega (arith, within))

set_other : (ps : List Page) (k r : ℕ) (p : Page) → (r ≡ k → ⊥) → slice_get (slice_set ps k p) r ≡ slice_get ps r
set_other [] k r p apart = refl
set_other (x ∷ ps) zero zero p apart = absurd (apart refl)
set_other (x ∷ ps) zero (suc r) p apart = refl
set_other (x ∷ ps) (suc k) zero p apart = refl
set_other (x ∷ ps) (suc k) (suc r) p apart = set_other ps k r p (λ same. apart (ap suc same))

-- a row with one page written anew
pub get-set : (ps : List Page) (k r : ℕ) (p : Page) → k < length ps → slice_get (slice_set ps k p) r ≡ cond (eqb k r) (Some p) (slice_get ps r)
get-set ps k r p within =
    ⊎_elim
    (λ (same : k ≡ r).
    ap (λ (m : ℕ). slice_get (slice_set ps k p) m) (sym same)
    ∙ (set_same ps k p within ∙ sym (cond-true (eqb k r) (Some p) (slice_get ps r) (eq-eqb k r same))))
    (λ (other : k ≡ r → ⊥).
    set_other ps k r p (λ e. other (sym e)) ∙ sym (cond-false (eqb k r) (Some p) (slice_get ps r) (ne_eqb k r other)))
    (cases_eq k r)

-- a row with unused pages behind it
pub get-more : (ps : List Page) (m : ℕ) (p : Page) (k n : ℕ) → ((q : ℕ) → in_page p q ≡ standing.Unused) → in_kept (slice_get (ps ++ replicate m p) k) n ≡ in_kept (slice_get ps k) n
get-more [] zero p k n unused = refl
get-more [] (suc m) p zero n unused = unused n
get-more [] (suc m) p (suc k) n unused = get-more [] m p k n unused
get-more (x ∷ ps) m p zero n unused = refl
get-more (x ∷ ps) m p (suc k) n unused = get-more ps m p k n unused

-- a near number that was used has a page
pub has_page : (near : List Page) (n : ℕ) → IsSome (noted (in_near near n)) → n / 32 < length near
has_page near n some =
    ⊎_elim
    (λ (within : n / 32 < length near). within)
    (λ (past : length near ≤ n / 32).
    absurd (none (subst (λ (o : Option Page). IsSome (noted (in_kept o n))) (slice_get_past near (n / 32) past) some)))
    (cases_lt (n / 32) (length near)) where
      none : IsSome (noted standing.Unused) → ⊥
      none h = cc

-- a row that was filled up with unused pages
pub same_more : (near : List Page) (k m : ℕ) (p : Page) → length near ≤ k → ((q : ℕ) → in_page p q ≡ standing.Unused) → (q : ℕ) → in_near (take k near ++ replicate m p) q ≡ in_near near q
same_more near k m p few unused q =
    ap (λ (ps : List Page). in_near (ps ++ replicate m p) q) (take_all k near few) ∙ get-more near m p (q / 32) q unused

-- how a near number stands, and a far one
pub near_stands : {S : Type 0} (near : List Page) (far : List (Vec (Vec Page S) S)) (n : ℕ) → n < 131072 → in_pages near far n ≡ in_near near n
near_stands near far n small = cond-true (ltb n 131072) (in_near near n) (in_far far n) (lt-ltb n 131072 small)

pub far_stands : {S : Type 0} (near : List Page) (far : List (Vec (Vec Page S) S)) (n : ℕ) → 131072 ≤ n → in_pages near far n ≡ in_far far n
far_stands near far n large = cond-false (ltb n 131072) (in_near near n) (in_far far n) (le-ltb n 131072 large)

-- where there is no page no number is used
pub nowhere : {S : Type 0} (near : List Page) (far : List (Vec (Vec Page S) S)) (n : ℕ) → near ≡ [] → far ≡ [] → in_pages near far n ≡ standing.Unused
nowhere near far n no_near no_far =
    ap (λ (ps : List Page). in_pages ps far n) no_near ∙ (ap (λ (ps : List _). in_pages [] ps n) no_far ∙ both (ltb n 131072) (in_page unused_page n) (unused_stands n)) where
      both : (b : Bool) (t : Standing) → t ≡ standing.Unused → cond b standing.Unused t ≡ standing.Unused
      both true t is = refl
      both false t is = is

-- what is given to a near number of near pages, or to a far one of far pages, is given to it
gives_pages : {S : Type 0} (near new : List Page) (far other : List (Vec (Vec Page S) S)) (n : ℕ) (s : Standing) → ((q : ℕ) → q < 131072 → in_near new q ≡ cond (eqb q n) s (in_near near q))
    → ((q : ℕ) → 131072 ≤ q → in_far other q ≡ cond (eqb q n) s (in_far far q)) → Gives n s (in_pages near far) (in_pages new other)
gives_pages near new far other n s low high q =
    ⊎_elim
    (λ (below : q < 131072). near_stands new other q below ∙ (low q below ∙ ap (cond (eqb q n) s) (sym (near_stands near far q below))))
    (λ (above : 131072 ≤ q). far_stands new other q above ∙ (high q above ∙ ap (cond (eqb q n) s) (sym (far_stands near far q above))))
    (cases_lt q 131072)

-- a number stands in a table as it does in one part of its pages, and what it is given there changes the table there
pub record StandsIn (n : ℕ) (t after : Table Standing) (part new : ℕ → Standing) : Type 0 where
  pub known : value_at t n ≡ noted (part n)
  pub changes : (s : Standing) → Gives n s part new → ChangesAt n (noted s) t after

pub stands : {n : ℕ} {t after : Table Standing} {part new : ℕ → Standing} → StandsIn n t after part new → part n ≡ unwrap_or (value_at t n) standing.Unused
stands {n = n} {part = part} h = sym (ap (λ (o : Option Standing). unwrap_or o standing.Unused) h.known ∙ said (part n))

in_table : (f g part new : ℕ → Standing) (n : ℕ) (t : Table Standing) → noted_below f (2 ^ 32) ≡ t → n < 2 ^ 32 → f n ≡ part n
    → ((s : Standing) → Gives n s part new → Gives n s f g) → StandsIn n t (noted_below g (2 ^ 32)) part new
in_table f g part new n t made fits same gives = record {
  known = ap (λ (t : Table Standing). value_at t n) (sym made) ∙ (at_number f n fits ∙ ap noted same);
  changes = λ s given. subst (λ (t : Table Standing). ChangesAt n (noted s) t (noted_below g (2 ^ 32))) made (changes f g n s fits (gives s given));
}

-- a near number stands so in the near pages, and a far one in the far pages
pub near_in_table : {S : Type 0} (near new : List Page) (far : List (Vec (Vec Page S) S)) (n : ℕ) (t : Table Standing) → noted_below (in_pages near far) (2 ^ 32) ≡ t → n < 2 ^ 32 → n < 131072
    → StandsIn n t (noted_below (in_pages new far) (2 ^ 32)) (in_near near) (in_near new)
near_in_table near new far n t made fits small =
    in_table (in_pages near far) (in_pages new far) (in_near near) (in_near new) n t made fits (near_stands near far n small)
    (λ s given.
    gives_pages near new far far n s (λ q low. given q)
    (λ q high. sym (cond-false (eqb q n) s (in_far far q) (ne_eqb q n (λ e. omega (arith, e, small, high))))))

pub far_in_table : {S : Type 0} (near : List Page) (far new : List (Vec (Vec Page S) S)) (n : ℕ) (t : Table Standing) → noted_below (in_pages near far) (2 ^ 32) ≡ t → n < 2 ^ 32 → 131072 ≤ n
    → StandsIn n t (noted_below (in_pages near new) (2 ^ 32)) (in_far far) (in_far new)
far_in_table near far new n t made fits large =
    in_table (in_pages near far) (in_pages near new) (in_far far) (in_far new) n t made fits (far_stands near far n large)
    (λ s given.
    gives_pages near near far new n s (λ q low. sym (cond-false (eqb q n) s (in_near near q) (ne_eqb q n (λ e. omega (arith, e, large, low)))))
    (λ q high. given q))

-- nothing, on either side of a bound
pub nothing : (b : Bool) → cond b (noted standing.Unused) None ≡ None
nothing true = refl
nothing false = refl

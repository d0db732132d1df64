-- Endpoints that are made one after another, and taken back, and tokens that travel.
use Rattle.std.proofs.Common.{◌≡◌, ◌≤◌, ◌<◌, ◌+◌, ◌==◌, ◌&&◌, ◌||◌, ℕ, Bool, true, false, cond, eqb, not, List, [], ◌∷◌, ◌++◌, length, take, drop, refl, sym, ap, ◌∙◌, ⊎_elim, arith}
use Rattle.std.specs.Prelude.{Some, None, count_by, slice_index}
use Rattle.std.proofs.lemmas.Bool.{cases_eq, eq-eqb, ne_eqb}
use Rattle.std.proofs.lemmas.List.{take-append-drop, take_more}
use Rattle.std.proofs.lemmas.List.Folds.{list_any-append}
use Rattle.std.proofs.lemmas.List.Sums.{sum_by-append}
use Rattle.link_admission.specs.declared.kinds.Standing.{Standing}
use Rattle.link_admission.specs.declared.kinds.Standing.TheVariants as standing
use Rattle.fidl_names.specs.HandleNumber.{is_client}
use Rattle.link_admission.specs.Numbering.{among}
use Rattle.link_admission.specs.Tables.{Table, value_at, AreNew, ChangesAt, Makes, TakesBack, Travels}

-- what is among the first so many is among all
pub among-take : (q i : ℕ) (ns : List ℕ) → among q (take i ns) ≡ true → among q ns ≡ true
among-take q i ns h =
    ap (among q) (sym (take-append-drop i ns)) ∙ (list_any-append (λ m. m == q) (take i ns) (drop i ns) ∙ ap (λ (b : Bool). b || among q (drop i ns)) h)

-- a count over two lists
pub count_by-append : (p : ℕ → Bool) (xs ys : List ℕ) → count_by p (xs ++ ys) ≡ count_by p xs + count_by p ys
count_by-append p xs ys = sum_by-append (λ x. cond (p x) 1 0) xs ys

-- the first so many count no more than all
pub count_by-take : (p : ℕ → Bool) (i : ℕ) (ns : List ℕ) → count_by p (take i ns) ≤ count_by p ns
count_by-take p i ns =
    omega (arith, ap (count_by p) (take-append-drop i ns), count_by-append p (take i ns) (drop i ns))

-- one more
pub count_by-one : (p : ℕ → Bool) (i : ℕ) (ns : List ℕ) → i < length ns → count_by p (take i ns) + count_by p (slice_index ns i ∷ []) ≤ count_by p ns
count_by-one p i ns h =
    omega (arith, count_by-take p (i + 1) ns, ap (count_by p) (take_more ns i 0 h), count_by-append p (take i ns) (slice_index ns i ∷ []))

both : (a b : Bool) → a && b ≡ true → (a ≡ true) × (b ≡ true)
both true true h = (refl, refl)
both true false h = cc
both false b h = cc

undone_by : (q i : ℕ) (ns : List ℕ) (old mid new : Table Standing) → AreNew old ns → Makes (take i ns) old mid → TakesBack (take i ns) mid new → (b : Bool) → is_client q && among q (take i ns) ≡ b → value_at new q ≡ value_at old q
undone_by q i ns old mid new fresh makes back true e =
    let h = both (is_client q) (among q (take i ns)) e in
    let none = fresh.unused q h.0 (among-take q i ns h.1) in
    back q ∙ (ap (λ (b : Bool). cond b None (value_at mid q)) e ∙ sym none)
undone_by q i ns old mid new fresh makes back false e =
    back q ∙ (ap (λ (b : Bool). cond b None (value_at mid q)) e ∙ (makes q ∙ ap (λ (b : Bool). cond b (Some standing.Live) (value_at old q)) e))

-- what was made and taken back leaves all as it was
pub undone : (i : ℕ) (ns : List ℕ) (old mid new : Table Standing) → AreNew old ns → Makes (take i ns) old mid → TakesBack (take i ns) mid new → (q : ℕ) → value_at new q ≡ value_at old q
undone i ns old mid new fresh makes back q =
    undone_by q i ns old mid new fresh makes back (is_client q && among q (take i ns)) refl

neither : (b : Bool) → b && false ≡ false
neither true = refl
neither false = refl

-- whether a number is a token that is this one, by what this one is
at_token : (n q : ℕ) → is_client n ≡ false → eqb q n ≡ not (is_client q) && among q (n ∷ [])
at_token n q token =
    ⊎_elim
    (λ (same : q ≡ n).
    eq-eqb q n same
    ∙ sym (ap (λ (b : Bool). not b && among q (n ∷ [])) (ap is_client same ∙ token) ∙ ap (λ (b : Bool). b || false) (eq-eqb n q (sym same))))
    (λ (other : q ≡ n → ⊥).
    ne_eqb q n other ∙ sym (ap (λ (b : Bool). not (is_client q) && (b || false)) (ne_eqb n q (λ e. other (sym e))) ∙ neither (not (is_client q))))
    (cases_eq q n)

at_client : (n q : ℕ) → is_client n ≡ true → not (is_client q) && among q (n ∷ []) ≡ false
at_client n q client =
    ⊎_elim
    (λ (same : q ≡ n). ap (λ (b : Bool). not b && among q (n ∷ [])) (ap is_client same ∙ client))
    (λ (other : q ≡ n → ⊥).
    ap (λ (b : Bool). not (is_client q) && (b || false)) (ne_eqb n q (λ e. other (sym e))) ∙ neither (not (is_client q)))
    (cases_eq q n)

-- a token that is sent travels, and a client's number doesn't
pub one_travels : (n : ℕ) (old new : Table Bool) → is_client n ≡ false → ChangesAt n (Some false) old new → Travels (n ∷ []) old new
one_travels n old new token changes q = changes q ∙ ap (λ (b : Bool). cond b (Some false) (value_at old q)) (at_token n q token)

pub none_travels : (n : ℕ) (old new : Table Bool) → is_client n ≡ true → new ≡ old → Travels (n ∷ []) old new
none_travels n old new client same q =
    ap (λ (t : Table Bool). value_at t q) same ∙ sym (ap (λ (b : Bool). cond b (Some false) (value_at old q)) (at_client n q client))

-- one more of a list travels
pub travels_more : (i : ℕ) (ns : List ℕ) (old mid new : Table Bool) → i < length ns → Travels (take i ns) old mid → Travels (slice_index ns i ∷ []) mid new → Travels (take (i + 1) ns) old new
travels_more i ns old mid new low before one q =
    one q
    ∙ ap (cond (not (is_client q) && among q (slice_index ns i ∷ [])) (Some false)) (before q)
    ∙ joined (not (is_client q)) (among q (slice_index ns i ∷ [])) (among q (take i ns)) (Some false) (value_at old q)
    ∙ ap (λ (b : Bool). cond (not (is_client q) && b) (Some false) (value_at old q))
    (sym (ap (among q) (take_more ns i 0 low) ∙ list_any-append (λ m. m == q) (take i ns) (slice_index ns i ∷ []))) where
      joined : {X : Type 0} (a b c : Bool) (x y : X) → cond (a && b) x (cond (a && c) x y) ≡ cond (a && (c || b)) x y
      joined false b c x y = refl
      joined true b false x y = refl
      joined true true true x y = refl
      joined true false true x y = refl

-- Pages in rows of rows.
use Rattle.std.proofs.Common.{◌≡◌, ◌≤◌, ◌<◌, ◌/◌, ◌%◌, ◌*◌, ◌+◌, ◌++◌, [], ◌∷◌, ℕ, zero, suc, Bool, List, Vec, cond, eqb, get_or, length, refl, sym, ap, ◌∙◌, ⊎_elim, arith}
use Rattle.std.specs.Prelude.{Option, slice_set}
use Rattle.std.specs.Option.{option_map_or}
use Rattle.std.proofs.lemmas.Option.{slice_get_past, slice_get_read}
use Rattle.std.proofs.lemmas.Bool.{cases_eq, cases_lt, cond-false, eq-eqb, ne_eqb}
use Rattle.std.proofs.lemmas.Nat.{div-add-mod'}
use Rattle.link_admission.specs.declared.page.Page.{Page}
use Rattle.link_admission.specs.Pages.{Puts, row_at, unused_page}

-- an empty row behind others adds nothing
pub row_more : {X S : Type 0} (rows : List (Vec X S)) (v : Vec X S) (i : ℕ) → v.items ≡ [] → row_at (rows ++ v ∷ []) i ≡ row_at rows i
row_more [] v zero empty = empty
row_more [] v (suc i) empty = refl
row_more (x ∷ rows) v zero empty = refl
row_more (x ∷ rows) v (suc i) empty = row_more rows v i empty

-- a row that is there written anew
row_set_same : {X S : Type 0} (rows : List (Vec X S)) (i : ℕ) (v : Vec X S) → i < length rows → row_at (slice_set rows i v) i ≡ v.items
row_set_same [] i v within = absurd (omega (arith, within))
row_set_same (x ∷ rows) zero v within = refl
row_set_same (x ∷ rows) (suc i) v within = row_set_same rows i v (omega (arith, within))

row_set_other : {X S : Type 0} (rows : List (Vec X S)) (i j : ℕ) (v : Vec X S) → (j ≡ i → ⊥) → row_at (slice_set rows i v) j ≡ row_at rows j
row_set_other [] i j v apart = refl
row_set_other (x ∷ rows) zero zero v apart = absurd (apart refl)
row_set_other (x ∷ rows) zero (suc j) v apart = refl
row_set_other (x ∷ rows) (suc i) zero v apart = refl
row_set_other (x ∷ rows) (suc i) (suc j) v apart = row_set_other rows i j v (λ same. apart (ap suc same))

-- in a row of rows of which each has so many pages, a page that is put in one row is put there
puts_within : {X S : Type 0} (len : ℕ) → 0 < len → (pages : List X → ℕ → Page) (rows : List (Vec X S)) (v : Vec X S) (k : ℕ) (p : Page) → k / len < length rows
    → Puts (k % len) p (pages (row_at rows (k / len))) (pages v.items) → Puts k p (λ q. pages (row_at rows (q / len)) (q % len)) (λ q. pages (row_at (slice_set rows (k / len) v) (q / len)) (q % len))
puts_within len some pages rows v k p low puts q =
    ⊎_elim
    (λ (here : q / len ≡ k / len).
    ap (λ (i : ℕ). pages (row_at (slice_set rows (k / len) v) i) (q % len)) here
    ∙ (ap (λ (row : List _). pages row (q % len)) (row_set_same rows (k / len) v low)
    ∙ (puts (q % len)
    ∙ (ap (λ (i : ℕ). cond (eqb (q % len) (k % len)) p (pages (row_at rows i) (q % len))) (sym here)
    ∙ ap (λ (b : Bool). cond b p (pages (row_at rows (q / len)) (q % len))) (same_place here)))))
    (λ (there : q / len ≡ k / len → ⊥).
    ap (λ (row : List _). pages row (q % len)) (row_set_other rows (k / len) (q / len) v there)
    ∙ sym (cond-false (eqb q k) p (pages (row_at rows (q / len)) (q % len)) (ne_eqb q k (λ e. there (ap (λ (m : ℕ). m / len) e)))))
    (cases_eq (q / len) (k / len)) where
      same_place : q / len ≡ k / len → eqb (q % len) (k % len) ≡ eqb q k
      same_place here =
          ⊎_elim
          (λ (same : q ≡ k). eq-eqb (q % len) (k % len) (ap (λ (m : ℕ). m % len) same) ∙ sym (eq-eqb q k same))
          (λ (other : q ≡ k → ⊥).
          ne_eqb (q % len) (k % len) (λ e. other (sym (div-add-mod' q len) ∙ (ap (λ (d : ℕ). d * len + q % len) here ∙ (ap (λ (r : ℕ). k / len * len + r) e ∙ div-add-mod' k len))))
          ∙ sym (ne_eqb q k other))
          (cases_eq q k)

-- what stands in rows of rows, where each row has so many pages
abbrev pub within : {X S : Type 0} → ℕ → (List X → ℕ → Page) → List (Vec X S) → ℕ → Page
within len pages rows q = pages (row_at rows (q / len)) (q % len)

row_there : {X S : Type 0} (rows : List (Vec X S)) (i : ℕ) (was : Vec X S) → was ≡ get_or rows i was → i < length rows → row_at rows i ≡ was.items
row_there rows i was is low = ap (λ (o : Option _). option_map_or (λ row. row.items) o []) (slice_get_read rows (length rows) i was refl low is)

-- a page that is put in a row that is there is put in all of them
pub puts_there : {X S : Type 0} (len : ℕ) → 0 < len → (pages : List X → ℕ → Page) (rows made : List (Vec X S)) (was now : Vec X S) (k : ℕ) (p : Page) → ((i : ℕ) → row_at made i ≡ row_at rows i)
    → was ≡ get_or made (k / len) was → k / len < length made → Puts (k % len) p (pages was.items) (pages now.items) → Puts k p (within len pages rows) (within len pages (slice_set made (k / len) now))
puts_there len some pages rows made was now k p same is low puts q =
    puts_within len some pages made now k p low (λ r. puts r ∙ ap (λ (row : List _). cond (eqb r (k % len)) p (pages row r)) (sym (row_there made (k / len) was is low))) q
    ∙ ap (λ (row : List _). cond (eqb q k) p (pages row (q % len))) (same (q / len))

-- and nothing changes where that row doesn't
pub same_there : {X S : Type 0} (len : ℕ) (pages : List X → ℕ → Page) (rows made : List (Vec X S)) (was now : Vec X S) (k : ℕ) → ((i : ℕ) → row_at made i ≡ row_at rows i)
    → was ≡ get_or made (k / len) was → k / len < length made → ((r : ℕ) → pages now.items r ≡ pages was.items r) → (q : ℕ) → within len pages (slice_set made (k / len) now) q ≡ within len pages rows q
same_there len pages rows made was now k same is low unchanged q =
    ⊎_elim
    (λ (here : q / len ≡ k / len).
    ap (λ (i : ℕ). pages (row_at (slice_set made (k / len) now) i) (q % len)) here
    ∙ (ap (λ (row : List _). pages row (q % len)) (row_set_same made (k / len) now low)
    ∙ (unchanged (q % len)
    ∙ (ap (λ (row : List _). pages row (q % len)) (sym (row_there made (k / len) was is low) ∙ same (k / len))
    ∙ ap (λ (i : ℕ). pages (row_at rows i) (q % len)) (sym here)))))
    (λ (there : q / len ≡ k / len → ⊥).
    ap (λ (row : List _). pages row (q % len)) (row_set_other made (k / len) (q / len) now there ∙ same (q / len)))
    (cases_eq (q / len) (k / len))

-- a row with a used page is there
pub row_within : {X S : Type 0} (rows : List (Vec X S)) (i : ℕ) (pages : List X → Page) → pages [] ≡ unused_page → (pages (row_at rows i) ≡ unused_page → ⊥) → i < length rows
row_within rows i pages none used =
    ⊎_elim
    (λ (low : i < length rows). low)
    (λ (past : length rows ≤ i). absurd (used (ap (λ (o : Option _). pages (option_map_or (λ row. row.items) o [])) (slice_get_past rows i past) ∙ none)))
    (cases_lt i (length rows))

-- Tables by their numbers, seen as finite maps.
use Rattle.std.proofs.Common.{◌≡◌, ℕ, Bool, true, cond, eqb, List, [], ◌∷◌, refl, sym, ap, ◌∙◌, arith}
use Rattle.std.specs.Prelude.{Option, Some, None, unwrap_or, IsSome}
use Rattle.std.specs.Ordering.{nat_cmp, eq_by_cmp}
use Rattle.std.specs.FinMap as map
use Rattle.std.specs.FinMap.{nat_cmp-IsAntisymmetric, find, get-from_entries, get-insert, get-remove, same_map}
use Rattle.std.specs.BTreeMap.{is_at}
use Rattle.std.specs.Map.{lookup}
use Rattle.std.proofs.lemmas.Cmp.{nat_cmp_total}
use Rattle.std.proofs.lemmas.Bool.Decides.{nat_tests}
use Rattle.link_admission.specs.declared.kinds.Standing.{Standing}
use Rattle.link_admission.specs.declared.kinds.Standing.TheVariants as standing
use Rattle.link_admission.specs.Standings.{Known, is_live}
use Rattle.link_admission.specs.Tables.{Table, value_at, ChangesAt}

-- two numbers compare equal exactly where they are equal
pub same_number : (a b : ℕ) → eq_by_cmp nat_cmp a b ≡ eqb a b
same_number a b = grind (arith, nat_tests)

find-lookup : {X : Type 0} (es : List (ℕ × X)) (q : ℕ) → find nat_cmp q es ≡ lookup (eqb q) es
find-lookup [] q = refl
find-lookup (e ∷ es) q =
    ap (cond (eq_by_cmp nat_cmp q e.0) (Some e.1)) (find-lookup es q) ∙ ap (λ (b : Bool). cond b (Some e.1) (lookup (eqb q) es)) (same_number q e.0)

-- the map of entries has what a look-up finds in them
pub get-table : {X : Type 0} (es : List (ℕ × X)) (q : ℕ) → map.get (map.from_entries {R = nat_cmp} es) q ≡ lookup (eqb q) es
get-table es q = get-from_entries nat_cmp_total es q ∙ find-lookup es q

-- two numbers may be compared either way
pub turned : {X : Type 0} (a b : ℕ) (x y : X) → cond (eqb a b) x y ≡ cond (eqb b a) x y
turned a b x y = grind (arith, nat_tests)

-- an update of the entries changes the map there
pub changes-table : {X : Type 0} (old new : List (ℕ × X)) (n : ℕ) (w : Option X) → ((q : ℕ) → lookup (eqb q) new ≡ cond (eqb n q) w (lookup (eqb q) old)) → ChangesAt n w (map.from_entries old) (map.from_entries new)
changes-table old new n w updates q =
    get-table new q ∙ (updates q ∙ (ap (cond (eqb n q) w) (sym (get-table old q)) ∙ turned n q w (map.get (map.from_entries old) q)))

-- the same of entries in order
find-ordered : {X : Type 0} (es : List (ℕ × X)) (q : ℕ) → find nat_cmp q es ≡ lookup (is_at (nat_cmp q)) es
find-ordered [] q = refl
find-ordered (e ∷ es) q = ap (cond (eq_by_cmp nat_cmp q e.0) (Some e.1)) (find-ordered es q)

pub get-ordered : {X : Type 0} (es : List (ℕ × X)) (q : ℕ) → map.get (map.from_entries {R = nat_cmp} es) q ≡ lookup (is_at (nat_cmp q)) es
get-ordered es q = get-from_entries nat_cmp_total es q ∙ find-ordered es q

pub changes-ordered : {X : Type 0} (old new : List (ℕ × X)) (n : ℕ) (w : Option X) → ((q : ℕ) → lookup (is_at (nat_cmp q)) new ≡ cond (is_at (nat_cmp n) q) w (lookup (is_at (nat_cmp q)) old)) → ChangesAt n w (map.from_entries old) (map.from_entries new)
changes-ordered old new n w updates q =
    get-ordered new q ∙ (updates q ∙ (ap (cond (is_at (nat_cmp n) q) w) (sym (get-ordered old q))
    ∙ (ap (λ (b : Bool). cond b w (map.get (map.from_entries {R = nat_cmp} old) q)) (same_number n q) ∙ turned n q w (map.get (map.from_entries old) q))))

-- tables with the same at each number are the same
pub same_table : {X : Type 0} (s t : Table X) → ((q : ℕ) → value_at s q ≡ value_at t q) → s ≡ t
same_table s t = same_map nat_cmp_total nat_cmp-IsAntisymmetric s t

-- a table in which one number changed is the map with it put in
pub map-insert : {X : Type 0} (old new : Table X) (n : ℕ) (w : X) → ChangesAt n (Some w) old new → new ≡ map.insert old n w
map-insert old new n w changes =
    same_table new (map.insert old n w)
    (λ q. changes q ∙ (ap (λ (b : Bool). cond b (Some w) (map.get old q)) (sym (same_number q n)) ∙ sym (get-insert nat_cmp_total old n w q)))

-- a table from which one number was taken is the map without it
pub map-remove : {X : Type 0} (old new : Table X) (n : ℕ) → ChangesAt n None old new → new ≡ map.remove old n
map-remove old new n changes =
    same_table new (map.remove old n)
    (λ q. changes q ∙ (ap (λ (b : Bool). cond b None (map.get old q)) (sym (same_number q n)) ∙ sym (get-remove nat_cmp_total old n q)))

-- what stands is known
pub known_live : (o : Option Standing) → is_live (unwrap_or o standing.Unused) ≡ true → IsSome o
known_live None h = cc
known_live (Some s) h = refl

-- what stands in a table is found there
pub is_found : {X : Type 0} (es : List (ℕ × X)) (n : ℕ) → IsSome (value_at (map.from_entries es) n) → None ≡ lookup (is_at (nat_cmp n)) es → ⊥
is_found es n known none = not_none (value_at (map.from_entries es) n) known (none ∙ sym (get-ordered es n)) where
  not_none : {X : Type 0} (o : Option X) → IsSome o → None ≡ o → ⊥
  not_none None h e = cc
  not_none (Some x) h e = cc

-- what is known, by its parts
pub same_known : (s s' : Table Standing) (t t' : Table Bool) (l l' o o' n n' w w' v : ℕ) → s ≡ s' → t ≡ t' → l ≡ l' → o ≡ o' → n ≡ n' → w ≡ w' → ◌≡◌ {A = Known} (record { standings = s; live = l; tokens = t; out = o; next = n; waiting = w; servers = v }) (record { standings = s'; live = l'; tokens = t'; out = o'; next = n'; waiting = w'; servers = v })
same_known s s' t t' l l' o o' n n' w w' v p q r x y z = cc

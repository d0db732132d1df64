-- The watchers of a directory, and the table of their masks.
use Rattle.std.proofs.Common.{◌≡◌, ℕ, Bool, true, false, cond, not, ◌==◌, ◌||◌, List, [], ◌∷◌, ◌++◌, map, filter, Option, Some, nat_eq, refl, sym, ap, ◌∙◌, is_some}
use Rattle.std.proofs.lemmas.Bool.{eqb-true}
use Rattle.std.specs.Cmp.{nat_eq_equiv}
use Rattle.std.specs.List.{AllByRecursion, IsDistinct}
use Rattle.std.specs.Map.{lookup, remove_entry, keys_of}
use Rattle.indexmap.specs.IndexMap.{insert_entry}
use Rattle.watch_events.specs.Messages.{Watcher}
use Rattle.watch_events.specs.Watching.{is_among}
use Rattle.watch_events.specs.Rows.{watcher_of}

abbrev pub row_of : List (ℕ × ℕ) → List Watcher
row_of entries = map watcher_of entries

abbrev pub without : ℕ → List Watcher → List Watcher
without endpoint row = filter (λ watcher. not (watcher.endpoint == endpoint)) row

abbrev pub watcher_with : ℕ → ℕ → Watcher
watcher_with endpoint mask = record { endpoint = endpoint; mask = mask }

-- who has a mask is among the watchers
either : (b : Bool) (x : ℕ) (o : Option ℕ) → is_some (cond b (Some x) o) ≡ (b || is_some o)
either true x o = refl
either false x o = refl

pub is_some-lookup : (k : ℕ) (es : List (ℕ × ℕ)) → is_some (lookup (nat_eq k) es) ≡ is_among k (row_of es)
is_some-lookup k [] = refl
is_some-lookup k (e ∷ es) =
    either (nat_eq k e.0) e.1 (lookup (nat_eq k) es)
    ∙ ap (λ b. b || is_some (lookup (nat_eq k) es)) (nat_eq_equiv.symm k e.0)
    ∙ ap (λ b. (e.0 == k) || b) (is_some-lookup k es)

-- who isn't among them comes last
row_of-insert_by : (k m : ℕ) (e : ℕ × ℕ) (es : List (ℕ × ℕ)) (b : Bool) → (e.0 == k) ≡ b → (b || is_among k (row_of es)) ≡ false
    → (is_among k (row_of es) ≡ false → row_of (insert_entry nat_eq es k m) ≡ row_of es ++ watcher_with k m ∷ [])
    → row_of (insert_entry nat_eq (e ∷ es) k m) ≡ row_of (e ∷ es) ++ watcher_with k m ∷ []
row_of-insert_by k m e es true is none rest = absurd (cc)
row_of-insert_by k m e es false is none rest = rw (nat_eq_equiv.symm k e.0 ∙ is) (ap (λ (row : List Watcher). watcher_of e ∷ row) (rest none))

pub row_of-insert : (k m : ℕ) (es : List (ℕ × ℕ)) → is_among k (row_of es) ≡ false → row_of (insert_entry nat_eq es k m) ≡ row_of es ++ watcher_with k m ∷ []
row_of-insert k m [] new = refl
row_of-insert k m (e ∷ es) new = row_of-insert_by k m e es (e.0 == k) refl new (row_of-insert k m es)

-- the first mask of an endpoint is its only one
all_others : (k j : ℕ) (es : List (ℕ × ℕ)) → k ≡ j → AllByRecursion (λ y. nat_eq j y ≡ false) (keys_of es) → without k (row_of es) ≡ row_of es
all_others k j [] same all = refl
all_others k j (e ∷ es) same all =
    rw (nat_eq_equiv.symm e.0 k ∙ ap (λ x. nat_eq x e.0) same ∙ all.0) (ap (λ (row : List Watcher). watcher_of e ∷ row) (all_others k j es same all.1))

row_of-remove_by : (k : ℕ) (e : ℕ × ℕ) (es : List (ℕ × ℕ)) (b : Bool) → nat_eq k e.0 ≡ b → AllByRecursion (λ y. nat_eq e.0 y ≡ false) (keys_of es)
    → row_of (remove_entry (nat_eq k) es) ≡ without k (row_of es) → row_of (remove_entry (nat_eq k) (e ∷ es)) ≡ without k (row_of (e ∷ es))
row_of-remove_by k e es true is apart rest = rw (is, nat_eq_equiv.symm e.0 k ∙ is) (sym (all_others k e.0 es (eqb-true k e.0 is) apart))
row_of-remove_by k e es false is apart rest = rw (is, nat_eq_equiv.symm e.0 k ∙ is) (ap (λ (row : List Watcher). watcher_of e ∷ row) rest)

pub row_of-remove : (k : ℕ) (es : List (ℕ × ℕ)) → IsDistinct nat_eq (keys_of es) → row_of (remove_entry (nat_eq k) es) ≡ without k (row_of es)
unfolding IsDistinct
row_of-remove k [] apart = refl
row_of-remove k (e ∷ es) apart = row_of-remove_by k e es (nat_eq k e.0) refl apart.0 (row_of-remove k es apart.1)

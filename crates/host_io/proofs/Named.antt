-- A map from names to values, seen as a map from the bytes of a name to the bytes of its value.
use Rattle.std.proofs.Common.{◌≡◌, ℕ, List, [], ◌∷◌, Option, Some, Bool, true, false, cond, refl, sym, ap, ◌∙◌}
use Rattle.std.specs.Prelude.{String, map, string_bytes}
use Rattle.std.specs.BTreeMap.{BTreeMap, is_at, get_by_text, UpdatesBy}
use Rattle.std.specs.Cmp.Lexicographic.{slice_cmp, nat_list_eq_equiv, nat_list_cmp_total}
use Rattle.std.specs.FinMap.{FinMap, from_entries, get, insert, find, get-from_entries, get-insert, same_map, nat_cmp-IsAntisymmetric, slice_cmp-IsAntisymmetric}
use Rattle.std.specs.Map.{lookup}
use Rattle.std.specs.Option.{option_map}
use Rattle.std.specs.Ordering.{is_eq, nat_cmp, eq_by_cmp}
use Rattle.std.specs.Str.{bytes_eq}
use Rattle.std.specs.String.{string_cmp}
use Rattle.std.proofs.lemmas.Map.Text.{is_eq-slice_cmp, btree_map_updates_text}

option_map-cond : {X Y : Type 0} (f : X → Y) (b : Bool) (x : X) (o : Option X) → option_map f (cond b (Some x) o) ≡ cond b (Some (f x)) (option_map f o)
option_map-cond f true x o = refl
option_map-cond f false x o = refl

same_test : (xs ys : List ℕ) → bytes_eq xs ys ≡ eq_by_cmp (slice_cmp nat_cmp) ys xs
same_test xs ys = nat_list_eq_equiv.symm xs ys ∙ sym (is_eq-slice_cmp ys xs)

module _ {X Y : Type 0} (bytes : X → List ℕ) where
  abbrev pub by_bytes : List (String Y × X) → FinMap (slice_cmp nat_cmp) (List ℕ)
  by_bytes entries = from_entries (map (λ e. (string_bytes e.0, bytes e.1)) entries)

  find-by_bytes : (entries : List (String Y × X)) (q : List ℕ)
      → find (slice_cmp nat_cmp) q (map (λ e. (string_bytes e.0, bytes e.1)) entries) ≡ option_map bytes (lookup (is_at (λ k. slice_cmp nat_cmp q (string_bytes k))) entries)
  find-by_bytes [] q = refl
  find-by_bytes (e ∷ entries) q =
      ap (cond (is_eq (slice_cmp nat_cmp q (string_bytes e.0))) (Some (bytes e.1))) (find-by_bytes entries q) ∙ sym (option_map-cond bytes _ e.1 _)

  pub get-by_bytes : (m : BTreeMap (String Y) X) (q : List ℕ) → get (by_bytes m.entries) q ≡ option_map bytes (get_by_text m q)
  get-by_bytes m q = get-from_entries nat_list_cmp_total _ q ∙ find-by_bytes m.entries q

  pub by_bytes-insert : (old new : BTreeMap (String Y) X) (name : String Y) (x : X) → UpdatesBy string_cmp (string_cmp name) old new (Some x)
      → by_bytes new.entries ≡ insert (by_bytes old.entries) (string_bytes name) (bytes x)
  by_bytes-insert old new name x u = same_map nat_list_cmp_total (slice_cmp-IsAntisymmetric nat_cmp-IsAntisymmetric) _ _ (λ q.
      get-by_bytes new q
      ∙ ap (option_map bytes) (btree_map_updates_text (string_bytes name) old new (Some x) u q)
      ∙ option_map-cond bytes (bytes_eq (string_bytes name) q) x (get_by_text old q)
      ∙ ap (λ b. cond b (Some (bytes x)) (option_map bytes (get_by_text old q))) (same_test (string_bytes name) q)
      ∙ ap (cond (eq_by_cmp (slice_cmp nat_cmp) q (string_bytes name)) (Some (bytes x))) (sym (get-by_bytes old q))
      ∙ sym (get-insert nat_list_cmp_total (by_bytes old.entries) (string_bytes name) (bytes x) q))

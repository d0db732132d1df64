-- The edges of a tree in a map, seen by the bytes of their steps.
use Rattle.std.proofs.Common.{◌≡◌, ℕ, List, [], ◌∷◌, Some, cond, refl, sym, ap, ◌∙◌}
use Rattle.std.specs.Prelude.{Vec, map}
use Rattle.std.specs.BTreeMap.{is_at, insert_entry}
use Rattle.std.specs.Cmp.{IsTotalOrder, nat_cmp_total}
use Rattle.std.specs.Cmp.Lexicographic.{slice_cmp, nat_list_cmp_total}
use Rattle.std.specs.FinMap as finite
use Rattle.std.specs.FinMap.{IsAntisymmetric, nat_cmp-IsAntisymmetric, slice_cmp-IsAntisymmetric}
use Rattle.std.specs.FinMap.Entries.{find, put, find-put, by_order}
use Rattle.std.specs.Map.{lookup}
use Rattle.std.specs.Ordering.{is_eq, nat_cmp, eq_by_cmp, ordering_then, match_ordering}
use Rattle.std.proofs.lemmas.Cmp.{on_total, then_total}
use Rattle.std.specs.declared.cmp.Ordering.{Ordering}
use Rattle.std.specs.declared.cmp.Ordering.TheVariants.{Less, Equal, Greater}
use Rattle.io_namespace.specs.Kept.{EdgeKey, edge_cmp}

pub edges_total : IsTotalOrder edge_cmp
edges_total = then_total (on_total (λ k. k.0) nat_cmp_total) (on_total (λ k. k.1) nat_list_cmp_total)

first_ties : (r s : Ordering) → ordering_then r s ≡ Equal → r ≡ Equal
first_ties Less s e = e
first_ties Equal s e = refl
first_ties Greater s e = e

second_ties : (r s : Ordering) → ordering_then r s ≡ Equal → s ≡ Equal
second_ties Less s e = absurd (cc)
second_ties Equal s e = e
second_ties Greater s e = absurd (cc)

pub edges_apart : IsAntisymmetric edge_cmp
edges_apart a b e = λ i. (
  nat_cmp-IsAntisymmetric a.0 b.0 (first_ties (nat_cmp a.0 b.0) (slice_cmp nat_cmp a.1 b.1) e) i,
  slice_cmp-IsAntisymmetric nat_cmp-IsAntisymmetric a.1 b.1 (second_ties (nat_cmp a.0 b.0) (slice_cmp nat_cmp a.1 b.1) e) i,
)

-- a key of the map
abbrev pub Key : Type 0 → Type 0
Key Z = ℕ × Vec ℕ Z

abbrev pub key_seen : {Z : Type 0} → Key Z → EdgeKey
key_seen key = (key.0, key.1.items)

abbrev pub keys_cmp : {Z : Type 0} → Key Z → Key Z → Ordering
keys_cmp a b = edge_cmp (key_seen a) (key_seen b)

abbrev pub seen : {Z : Type 0} → List (Key Z × ℕ) → List (EdgeKey × ℕ)
seen entries = map (λ x. ((x.0.0, x.0.1.items), x.1)) entries

find-seen : {Z : Type 0} (entries : List (Key Z × ℕ)) (key : Key Z) → find edge_cmp (key_seen key) (seen entries) ≡ lookup (is_at (keys_cmp key)) entries
find-seen [] key = refl
find-seen (e ∷ entries) key = ap (cond (is_eq (keys_cmp key e.0)) (Some e.1)) (find-seen entries key)

pub get-seen : {Z : Type 0} (entries : List (Key Z × ℕ)) (key : Key Z) → finite.get (finite.from_entries {R = edge_cmp} (seen entries)) (key_seen key) ≡ lookup (is_at (keys_cmp key)) entries
get-seen entries key = finite.get-from_entries edges_total (seen entries) (key_seen key) ∙ find-seen entries key

put-seen : {Z : Type 0} (entries : List (Key Z × ℕ)) (key : Key Z) (next : ℕ) → seen (insert_entry keys_cmp entries key next) ≡ put edge_cmp (key_seen key) next (seen entries)
put-seen [] key next = refl
put-seen (e ∷ entries) key next =
    elim (keys_cmp key e.0) as (λ r. seen (match_ordering r ((key, next) ∷ e ∷ entries) ((e.0, next) ∷ entries) (e ∷ insert_entry keys_cmp entries key next))
    ≡ by_order r ((key_seen key, next) ∷ seen (e ∷ entries)) ((key_seen e.0, next) ∷ seen entries) ((key_seen e.0, e.1) ∷ put edge_cmp (key_seen key) next (seen entries))) [
      | Less ↦ refl
      | Equal ↦ refl
      | Greater ↦ ap (λ rest. (key_seen e.0, e.1) ∷ rest) (put-seen entries key next)
    ]

pub insert-seen : {Z : Type 0} (old new : List (Key Z × ℕ)) (key : Key Z) (next : ℕ) → new ≡ insert_entry keys_cmp old key next →
    finite.from_entries {R = edge_cmp} (seen new) ≡ finite.insert (finite.from_entries (seen old)) (key_seen key) next
insert-seen old new key next is = finite.same_map edges_total edges_apart _ _ (λ q.
    finite.get-from_entries edges_total (seen new) q
    ∙ ap (λ entries. find edge_cmp q (seen entries)) is
    ∙ ap (find edge_cmp q) (put-seen old key next)
    ∙ find-put edge_cmp edges_total q (key_seen key) next (seen old)
    ∙ ap (cond (eq_by_cmp edge_cmp q (key_seen key)) (Some next)) (sym (finite.get-from_entries edges_total (seen old) q))
    ∙ sym (finite.get-insert edges_total (finite.from_entries (seen old)) (key_seen key) next q))

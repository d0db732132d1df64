-- A start has few mounts, so that the number of each is low.
use Rattle.std.proofs.Common.{◌≡◌, ◌≢◌, ℕ, zero, suc, ◌+◌, ◌*◌, ◌^◌, ◌<◌, ◌≤◌, ◌==◌, ◌⊎◌, Bool, true, false, not, cond, nat_le, List, [], ◌∷◌, ◌++◌, length, filter, count_by, All, Contains, inl, inr, refl, sym, ap, ◌∙◌, arith, length-append}
use Rattle.std.specs.Prelude.{nat_lt}
use Rattle.std.proofs.lemmas.Bool.{and_parts, eq-eqb, ltb-true, true≢false}
use Rattle.std.proofs.lemmas.List.Elements.{All-contains, All-contains_itself, All-head, All-weaker}
use Rattle.std.proofs.lemmas.List.Filters.{length-filter_both, sum_by-filter_both}
use Rattle.std.proofs.lemmas.List.Sums.{length-filter}
use Rattle.fidl_names.specs.HandleNumber.{is_client}
use Rattle.fidl_wire.specs.Names.{AreDistinct}
use Rattle.fidl_names.specs.HandleNumber.{end_of_mount}
use Rattle.vfs_journal.specs.Entries.{Journal}
use Rattle.vfs_journal.specs.History.{is_used}
use Rattle.vfs_journal.specs.Lawful.{Lawful}
use Rattle.vfs_journal.specs.Past.{history_of}
use Rattle.vfs_journal.specs.Starts.{Bound, Start}
use Rattle.vfs_journal.specs.View.{is_bound_in}
use Rattle.journal_laws.specs.Soundness.{IsOnDirectory, IsStart, mount_ends}
use Rattle.journal_laws.specs.Viewing.{view_behind}
use Rattle.journal_laws.proofs.Among.{among_of}
use Rattle.journal_laws.proofs.Below.{below}
use Rattle.journal_laws.proofs.KnowingCount.{mounts_among}
use Rattle.journal_laws.proofs.Members.{kept_of}
use Rattle.journal_laws.proofs.TransitLaws.{are_known}
use Rattle.journal_laws.proofs.ViewParts.{bound_is}

-- at so many servers, each with no more than it may have
few_at : (servers : ℕ) (bounds : List Bound) → All (λ bound. bound.server < servers) bounds → ((server : ℕ) → count_by (λ bound. bound.server == server) bounds ≤ 4096) → length bounds ≤ servers * 4096
few_at zero [] placed room = omega arith
few_at zero (bound ∷ bounds) placed room = absurd (let low = All-head (λ (b : Bound). b.server < 0) bound bounds placed in omega (arith, low))
few_at (suc n) bounds placed room =
    let here : Bound → Bool = λ (b : Bound). b.server == n in
    let there : Bound → Bool = λ (b : Bound). not (b.server == n) in
    let parts = length-filter_both here there (λ b. refl) bounds in
    let few = room n in
    let counted = length-filter here bounds in
    let rest = few_at n (filter there bounds)
    (All-weaker (Contains (filter there bounds)) (λ b. b.server < n)
    (λ b c. let m = kept_of there bounds b c in lower b n (All-contains (λ (x : Bound). x.server < suc n) bounds b placed m.0) m.1) (filter there bounds) (All-contains_itself (filter there bounds)))
    (λ server. let less = sum_by-filter_both here there (λ b. refl) (λ (b : Bound). cond (b.server == server) 1 0) bounds in let all = room server in omega (arith, less, all)) in
    omega (arith, parts, few, counted, rest)
  where
    lower : (b : Bound) (n : ℕ) → b.server < suc n → not (b.server == n) ≡ true → b.server < n
    lower b n low apart = by_order (λ e. true≢false (sym apart ∙ ap not (eq-eqb b.server n e))) where
      by_order : b.server ≢ n → b.server < n
      by_order other = omega (arith, low, other)

pub few_mounts : (start : Start) → IsStart start → length start.mounts ≤ 8 * 4096
few_mounts start s =
    let all = few_at (length start.trees) (start.firsts ++ start.mounts)
    (All-weaker (IsOnDirectory start.trees) (λ (b : Bound). b.server < length start.trees) (λ b on. on.server) (start.firsts ++ start.mounts) s.placed) s.room in
    let more = length-append start.firsts start.mounts in
    let few : length start.trees ≤ 8 = s.few in
    omega (arith, all, more, few)

-- an endpoint that is bound and no client's is the end of one of them
pub mount_low : (start : Start) (journal : Journal) (mount : ℕ) → AreDistinct → IsStart start → Lawful start journal → is_client (end_of_mount mount) ≡ false →
    is_bound_in (view_behind start journal) (end_of_mount mount) ≡ true → mount < 2 ^ 30
mount_low start journal mount apart s lawful other bound =
    by_kind ((are_known (below apart) start journal s lawful).bound (end_of_mount mount) (bound_is start (history_of start journal) (end_of_mount mount) ∙ bound)) where
      by_kind : Contains (mount_ends start) (end_of_mount mount) ⊎ ((is_client (end_of_mount mount) ≡ true) × (is_used start (history_of start journal) (end_of_mount mount) ≡ true)) → mount < 2 ^ 30
      by_kind (inr known) = absurd (true≢false (sym known.0 ∙ other))
      by_kind (inl c) =
          let n = end_of_mount mount in
          let at = and_parts (nat_le 0x40000000 n) (nat_lt n (0x40000000 + length start.mounts)) (sym (mounts_among start n s.numbered) ∙ among_of n (mount_ends start) c) in
          let low : 0x40000000 + mount < 0x40000000 + length start.mounts = ltb-true n (0x40000000 + length start.mounts) at.1 in
          let few = few_mounts start s in
          omega (arith, low, few)

-- The numbers of endpoints that are bound or die.
use Rattle.std.proofs.Common.{◌≡◌, ℕ, ◌+◌, ◌<◌, ◌≤◌, ◌==◌, ◌⊎◌, Bool, true, not, nat_le, nat_lt, List, [], ◌∷◌, ◌++◌, length, map, filter, count_by, Option, Some, None, Contains, All, refl, sym, ap, subst, ◌∙◌, inl, inr, arith}
use Rattle.std.specs.FinMap as finite
use Rattle.std.specs.FinMap.Entries as entry
use Rattle.std.specs.Cmp.{nat_cmp_total}
use Rattle.std.specs.Ordering.{nat_cmp}
use Rattle.std.specs.declared.cmp.Ordering.{Ordering}
use Rattle.std.specs.declared.cmp.Ordering.TheVariants.{Less, Equal, Greater}
use Rattle.std.proofs.lemmas.Bool.{and_parts, ltb-true, or_left}
use Rattle.std.proofs.lemmas.List.{length-append}
use Rattle.std.proofs.lemmas.List.Elements.{All-nil, All-cons, All-contains_itself, All-head, All-tail, All-map, All-weaker, filter-append}
use Rattle.std.proofs.lemmas.List.Sums.{length-filter}
use Rattle.fidl_names.specs.HandleNumber.{is_client}
use Rattle.link_admission.specs.Numbering.{among}
use Rattle.session_start.proofs.Accepted.{few_items}
use Rattle.vfs_journal.specs.Entries.{Journal, Sent, serves}
use Rattle.vfs_journal.specs.History.{all_sent, births, is_dead, living}
use Rattle.vfs_journal.specs.Lawful.{Lawful}
use Rattle.vfs_journal.specs.Lawful as lawful
use Rattle.vfs_journal.specs.Outcomes.{Forwarded}
use Rattle.vfs_journal.specs.Output.{rising}
use Rattle.vfs_journal.specs.Past.{event_of, history_of}
use Rattle.vfs_journal.specs.Serving.{outcome_of}
use Rattle.vfs_journal.specs.Session.{after_serving, head, with_forward}
use Rattle.vfs_journal.specs.Starts.{Bound, Start}
use Rattle.journal_laws.specs.Soundness.{IsOnDirectory, IsStart, mount_ends}
use Rattle.journal_laws.proofs.Among.{among_of}
use Rattle.journal_laws.proofs.Below.{Below}
use Rattle.journal_laws.proofs.Kept.{client_low, lawful_kept}
use Rattle.journal_laws.proofs.KnowingCount.{mounts_among}
use Rattle.journal_laws.proofs.Members.{contains_map, kept_of}
use Rattle.journal_laws.proofs.Sound.{IsKnown}
use Rattle.frame_laws.proofs.Fields.{All-right}
use Rattle.frame_laws.proofs.Replies.{FitsWord}

-- ---- the ends of mounts

count_more : (server : ℕ) (firsts ends : List Bound) → count_by (λ bound. bound.server == server) ends ≤ count_by (λ bound. bound.server == server) (firsts ++ ends)
count_more server firsts ends =
    let p : Bound → Bool = λ bound. bound.server == server in
    omega (arith, length-filter p ends, length-filter p (firsts ++ ends), ap length (filter-append p firsts ends), length-append (filter p firsts) (filter p ends))

-- no server has more of them than connections, and there are few servers
few_mounts : (start : Start) → IsStart start → length start.mounts ≤ 32768
few_mounts start s =
    few_items (λ (bound : Bound). bound.server) start.mounts (length start.trees) s.few
    (All-weaker (IsOnDirectory start.trees) (λ (bound : Bound). bound.server < length start.trees) (λ bound on. on.server) start.mounts (All-right (IsOnDirectory start.trees) start.firsts start.mounts s.placed))
    (λ server here. let room = s.room server in let more = count_more server start.firsts start.mounts in omega (arith, room, more))

mount_fits : (start : Start) → IsStart start → (bound : Bound) → Contains start.mounts bound → FitsWord bound.endpoint
mount_fits start s bound there =
    let at : among bound.endpoint (mount_ends start) ≡ true = among_of bound.endpoint (mount_ends start) (contains_map (λ (b : Bound). b.endpoint) start.mounts bound there) in
    let both = and_parts (nat_le 0x40000000 bound.endpoint) (nat_lt bound.endpoint (0x40000000 + length start.mounts)) (sym (mounts_among start bound.endpoint s.numbered) ∙ at) in
    let high = ltb-true bound.endpoint (0x40000000 + length start.mounts) both.1 in
    let few = few_mounts start s in
    omega (arith, high, few)

pub client_fits : (endpoint : ℕ) → is_client endpoint ≡ true → FitsWord endpoint
client_fits endpoint client = let low = client_low endpoint client in omega (arith, low)

-- ---- who was born

module _ (below : Below) (start : Start) (s : IsStart start) where
  pub birth_fits : (journal : Journal) → Lawful start journal → (bound : Bound) → Contains (births start (history_of start journal)) bound → FitsWord bound.endpoint
  birth_fits journal h bound born = by_birth ((lawful_kept below start s journal h).sound.born bound born) where
    by_birth : Contains start.mounts bound ⊎ IsKnown start (all_sent (history_of start journal)) bound.endpoint → FitsWord bound.endpoint
    by_birth (inl mount) = mount_fits start s bound mount
    by_birth (inr known) = client_fits bound.endpoint known.0

  pub living_fit : (journal : Journal) → Lawful start journal → All (λ (bound : Bound). FitsWord bound.endpoint) (living start (history_of start journal))
  living_fit journal h =
      let past = history_of start journal in
      All-weaker (Contains (living start past)) (λ (bound : Bound). FitsWord bound.endpoint)
      (λ bound lives. birth_fits journal h bound (kept_of (λ (b : Bound). not (is_dead past b.endpoint)) (births start past) bound lives).0)
      (living start past) (All-contains_itself (living start past))

-- ---- who dies

-- who dies of a serving is dead behind it
dead_then : (start : Start) (journal : Journal) (sent : Sent) (endpoint : ℕ) (o : Option Forwarded) → among endpoint (event_of start (history_of start journal) (serves sent)).deaths ≡ true →
    is_dead (history_of start (with_forward sent.place (serves sent ∷ journal) o)) endpoint ≡ true
unfolding history_of event_of
dead_then start journal sent endpoint None dies = or_left _ _ dies
dead_then start journal sent endpoint (Some forward) dies = or_left _ _ dies

pub death_fits : Below → (start : Start) → IsStart start → (journal : Journal) (sent : Sent) → Lawful start journal → head start (history_of start journal) sent.endpoint ≡ Some sent →
    All FitsWord (event_of start (history_of start journal) (serves sent)).deaths
death_fits below start s journal sent h first =
    let event = event_of start (history_of start journal) (serves sent) in
    All-weaker (Contains event.deaths) FitsWord
    (λ endpoint there.
    client_fits endpoint
    ((lawful_kept below start s (after_serving start journal sent) (lawful.served journal sent h first)).sound.dead endpoint
    (dead_then start journal sent endpoint (outcome_of start (history_of start journal) sent).forward (among_of endpoint event.deaths there))).0)
    event.deaths (All-contains_itself event.deaths)

-- ---- numbers once each

module _ (P : ℕ → Type 0) where
  put_keys : (key : ℕ) (es : List (ℕ × Bool)) → P key → All (λ e. P e.0) es → All (λ e. P e.0) (entry.put nat_cmp key true es)
  put_keys key [] h all = All-cons (λ (e : ℕ × Bool). P e.0) (key, true) [] h (All-nil (λ (e : ℕ × Bool). P e.0))
  put_keys key (e ∷ es) h all =
      by_order (nat_cmp key e.0) (All-head (λ (x : ℕ × Bool). P x.0) e es all) (All-tail (λ (x : ℕ × Bool). P x.0) e es all) (put_keys key es h (All-tail (λ (x : ℕ × Bool). P x.0) e es all)) where
        by_order : (o : Ordering) → P e.0 → All (λ x. P x.0) es → All (λ x. P x.0) (entry.put nat_cmp key true es) →
            All (λ x. P x.0) (entry.by_order o ((key, true) ∷ e ∷ es) ((e.0, true) ∷ es) (e ∷ entry.put nat_cmp key true es))
        by_order Less first rest put = All-cons (λ (x : ℕ × Bool). P x.0) (key, true) (e ∷ es) h (All-cons (λ (x : ℕ × Bool). P x.0) e es first rest)
        by_order Equal first rest put = All-cons (λ (x : ℕ × Bool). P x.0) (e.0, true) es first rest
        by_order Greater first rest put = All-cons (λ (x : ℕ × Bool). P x.0) e (entry.put nat_cmp key true es) first put

  no_keys : All (λ e. P e.0) (finite.entries (finite.empty {X = Bool} {R = nat_cmp}))
  no_keys =
      subst (All (λ (e : ℕ × Bool). P e.0)) (sym (none (finite.entries (finite.empty {X = Bool} {R = nat_cmp})) (sym (finite.len-entries (finite.empty {X = Bool} {R = nat_cmp})) ∙ finite.len-empty nat_cmp Bool)))
      (All-nil (λ (e : ℕ × Bool). P e.0)) where
        none : (es : List (ℕ × Bool)) → length es ≡ 0 → es ≡ []
        none [] e = refl
        none (x ∷ es) e = absurd (omega arith)

  marked_keys : (numbers : List ℕ) → All P numbers → All (λ e. P e.0) (finite.entries (finite.from_entries {R = nat_cmp} (map (λ number. (number, true)) numbers)))
  marked_keys [] h = no_keys
  marked_keys (number ∷ numbers) h =
      let earlier = finite.from_entries {R = nat_cmp} (map (λ (n : ℕ). (n, true)) numbers) in
      subst (All (λ (e : ℕ × Bool). P e.0)) (sym (finite.entries-insert nat_cmp_total earlier number true))
      (put_keys number (finite.entries earlier) (All-head P number numbers h) (marked_keys numbers (All-tail P number numbers h)))

  -- what holds of numbers holds of them once each
  pub rising_hold : (numbers : List ℕ) → All P numbers → All P (rising numbers)
  rising_hold numbers h = All-map P (λ (e : ℕ × Bool). e.0) (finite.entries (finite.from_entries {R = nat_cmp} (map (λ number. (number, true)) numbers))) (marked_keys numbers h)

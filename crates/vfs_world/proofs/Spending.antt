-- The tokens that are spent, as the steps of a serving find them, and what is known when they go.
use Rattle.std.proofs.Common.{◌≡◌, ◌≢◌, ℕ, ◌<◌, ◌==◌, ◌⊎◌, Bool, true, false, cond, not, is_some, if◌then◌else◌, List, [], ◌∷◌, ◌++◌, filter, flat_map, fold, AllPairs, Contains, Option, Some, None, inl, inr, refl, sym, ap, ◌∙◌, subst, arith}
use Rattle.std.specs.FinMap as finite
use Rattle.std.specs.FinMap.{get-remove}
use Rattle.std.specs.Option.{option_map}
use Rattle.std.specs.Ordering.{nat_cmp, eq_by_cmp}
use Rattle.std.proofs.lemmas.Bool.{eqb-true, eq-eqb, false_from_ne_true, ne_eqb, true≢false}
use Rattle.std.proofs.lemmas.Bool.Decides.{nat_tests}
use Rattle.std.proofs.lemmas.Cmp.{nat_cmp_total}
use Rattle.std.proofs.lemmas.List.Elements.{All-contains}
use Rattle.std.proofs.lemmas.List.Kept.{AllPairs-filter}
use Rattle.fidl_names.specs.HandleNumber.{is_client}
use Rattle.link_admission.specs.Numbering.{among}
use Rattle.link_admission.specs.Standings.{Known, ended, given, gone}
use Rattle.vfs_journal.specs.Entries.{Sent, handles_of, tokens_in}
use Rattle.vfs_journal.specs.Fit.{IsFit}
use Rattle.vfs_journal.specs.Outcomes.{Given}
use Rattle.vfs_journal.specs.View.{View, deaths_in, head_in, others_in}
use Rattle.journal_laws.specs.Choosing.{IsListOf, queue_beside}
use Rattle.journal_laws.specs.Knowing.{dropped_in, known_served, spent_in}
use Rattle.journal_laws.proofs.Among.{among_of, member_of}
use Rattle.journal_laws.proofs.Dying.{beside}
use Rattle.journal_laws.proofs.KnowingCount.{same_bool}
use Rattle.journal_laws.proofs.KnowingLists.{Apart, apart_append, apart_filter, apart_pairs, first_among, from_pairs, later_among}
use Rattle.journal_laws.proofs.Lists.{pairs-head, pairs-left, pairs-tail}
use Rattle.journal_laws.proofs.LookedUp.{is_first}
use Rattle.journal_laws.proofs.Members.{contains_cases, contains_here, contains_later, contains_none, kept, kept_of}
use Rattle.journal_laws.proofs.Spent.{apart_right, carried_once, token_in_is, tokens_from_many, tokens_of_many}
use Rattle.journal_laws.proofs.Spreading.{among_back, among_front, among_sides}
use Rattle.message_queues.specs.Queues.{Queues, queue_of}
use Rattle.vfs_server.specs.declared.fate.Fate.{Fate}
use Rattle.vfs_server.specs.declared.fate.Fate.TheVariants as fates
use Rattle.vfs_world.specs.ServingSteps.{CanGo, known_told, spent_told}
use Rattle.vfs_world.proofs.Telling.{token_told}

-- ---- lists of lists

from_each : (f : ℕ → List ℕ) (n : ℕ) (es : List ℕ) → among n (flat_map f es) ≡ true → (e : ℕ) × Contains es e × (among n (f e) ≡ true)
from_each f n [] h = absurd (true≢false (sym h))
from_each f n (e ∷ es) h = by_side (from_each f n es) (among_sides n (f e) (flat_map f es) h) where
  by_side : (among n (flat_map f es) ≡ true → (e : ℕ) × Contains es e × (among n (f e) ≡ true)) → (among n (f e) ≡ true) ⊎ (among n (flat_map f es) ≡ true) → (d : ℕ) × Contains (e ∷ es) d × (among n (f d) ≡ true)
  by_side rest (inl g) = (e, contains_here e es, g)
  by_side rest (inr g) = let later = rest g in (later.0, contains_later later.0 e es later.1, later.2)

to_each : (f : ℕ → List ℕ) (n e : ℕ) (es : List ℕ) → Contains es e → among n (f e) ≡ true → among n (flat_map f es) ≡ true
to_each f n e [] c h = absurd (contains_none e c)
to_each f n e (d ∷ es) c h = by_place (λ q. to_each f n e es q h) (contains_cases e d es c) where
  by_place : (Contains es e → among n (flat_map f es) ≡ true) → (d ≡ e) ⊎ Contains es e → among n (f d ++ flat_map f es) ≡ true
  by_place rest (inl g) = among_front n (f d) (flat_map f es) (ap (λ (m : ℕ). among n (f m)) g ∙ h)
  by_place rest (inr q) = among_back n (f d) (flat_map f es) (rest q)

-- ---- what waits on whoever dies

module _ (view : View) (sent : Sent) (queues : Queues) (dead : List ℕ) (fit : IsFit view) (first : head_in view sent.endpoint ≡ Some sent) (waits : (n : ℕ) → queue_of queues n ≡ queue_beside view sent n)
    (same : (n : ℕ) → among n dead ≡ among n (deaths_in view sent)) where
  on_queue : (n : ℕ) → queue_of queues n ≡ filter (λ one. one.endpoint == n) (others_in view sent)
  on_queue n = waits n ∙ sym (beside view sent fit first n)

  -- what waits there is another entry that waits, on that endpoint
  waits_there : (n : ℕ) (one : Sent) → Contains (queue_of queues n) one → Contains (others_in view sent) one × (one.endpoint ≡ n)
  waits_there n one c =
      let at = kept_of (λ (x : Sent). x.endpoint == n) (others_in view sent) one (subst (λ (ones : List Sent). Contains ones one) (on_queue n) c) in
      (at.0, eqb-true one.endpoint n at.1)

  dropped_there : (n : ℕ) (one : Sent) → Contains dead n → Contains (queue_of queues n) one → Contains (dropped_in view sent) one
  dropped_there n one c p =
      let at = waits_there n one p in
      kept (λ (x : Sent). among x.endpoint (deaths_in view sent)) (others_in view sent) one at.0 (ap (λ (m : ℕ). among m (deaths_in view sent)) at.1 ∙ sym (same n) ∙ among_of n dead c)

  there_dropped : (one : Sent) → Contains (dropped_in view sent) one → Contains dead one.endpoint × Contains (queue_of queues one.endpoint) one
  there_dropped one c =
      let at = kept_of (λ (x : Sent). among x.endpoint (deaths_in view sent)) (others_in view sent) one c in (
        member_of one.endpoint dead (same one.endpoint ∙ at.1),
        subst (λ (ones : List Sent). Contains ones one) (sym (on_queue one.endpoint)) (kept (λ (x : Sent). x.endpoint == one.endpoint) (others_in view sent) one at.0 (eq-eqb one.endpoint one.endpoint refl)),
      )

  abbrev on : ℕ → List ℕ
  on n = flat_map tokens_in (queue_of queues n)

  same_dropped : (n : ℕ) → among n (flat_map on dead) ≡ among n (flat_map tokens_in (dropped_in view sent))
  same_dropped n =
      same_bool (among n (flat_map on dead)) (among n (flat_map tokens_in (dropped_in view sent)))
      (λ h.
      let e = from_each on n dead h in
      let one = tokens_of_many n (queue_of queues e.0) e.2 in
      tokens_from_many n one.0 (dropped_in view sent) (dropped_there e.0 one.0 e.1 one.1) one.2)
      (λ h.
      let one = tokens_of_many n (dropped_in view sent) h in
      let at = there_dropped one.0 one.1 in
      to_each on n one.0.endpoint dead at.0 (tokens_from_many n one.0 (queue_of queues one.0.endpoint) at.1 one.2))

  same_spent : (n : ℕ) → among n (spent_told sent queues dead) ≡ among n (spent_in view sent)
  same_spent n =
      same_bool (among n (spent_told sent queues dead)) (among n (spent_in view sent))
      (λ h. there (among_sides n (tokens_in sent) (flat_map on dead) h))
      (λ h. back (among_sides n (tokens_in sent) (flat_map tokens_in (dropped_in view sent)) h)) where
        there : (among n (tokens_in sent) ≡ true) ⊎ (among n (flat_map on dead) ≡ true) → among n (spent_in view sent) ≡ true
        there (inl h) = among_front n (tokens_in sent) (flat_map tokens_in (dropped_in view sent)) h
        there (inr h) = among_back n (tokens_in sent) (flat_map tokens_in (dropped_in view sent)) (sym (same_dropped n) ∙ h)

        back : (among n (tokens_in sent) ≡ true) ⊎ (among n (flat_map tokens_in (dropped_in view sent)) ≡ true) → among n (spent_told sent queues dead) ≡ true
        back (inl h) = among_front n (tokens_in sent) (flat_map on dead) h
        back (inr h) = among_back n (tokens_in sent) (flat_map on dead) (same_dropped n ∙ h)

  -- ---- none stands twice

  waiting_of : (one : Sent) → Contains (others_in view sent) one → Contains view.waiting one × (one.place ≢ sent.place)
  waiting_of one c =
      let at = kept_of (λ (other : Sent). not (other.place == sent.place)) view.waiting one c in
      (at.0, λ e. no_other (one.place == sent.place) at.1 (eq-eqb one.place sent.place e)) where
        no_other : (b : Bool) → not b ≡ true → b ≡ true → ⊥
        no_other true h e = true≢false (sym h)
        no_other false h e = true≢false (sym e)

  -- two that carry one token are one
  once_carried : (n : ℕ) (one other : Sent) → Contains view.waiting one → Contains view.waiting other → among n (tokens_in one) ≡ true → among n (tokens_in other) ≡ true → one ≡ other
  once_carried n one other p q a b = carried_once n view.waiting one other fit.once p q (token_in_is n one a).1 (token_in_is n other b).1

  handles_apart : (one : Sent) (ones : List Sent) → AllPairs (λ x y. x ≢ y) (flat_map (λ x. handles_of x.sending) ones) → Contains ones one → AllPairs (λ x y. x ≢ y) (handles_of one.sending)
  handles_apart one [] apart c = absurd (contains_none one c)
  handles_apart one (x ∷ ones) apart c = by_place (handles_apart one ones (apart_right (handles_of x.sending) (flat_map (λ y. handles_of y.sending) ones) apart)) (contains_cases one x ones c) where
    by_place : (Contains ones one → AllPairs (λ x y. x ≢ y) (handles_of one.sending)) → (x ≡ one) ⊎ Contains ones one → AllPairs (λ x y. x ≢ y) (handles_of one.sending)
    by_place rest (inl e) = subst (λ (s : Sent). AllPairs (λ x y. x ≢ y) (handles_of s.sending)) e (pairs-left (λ x y. x ≢ y) (handles_of x.sending) (flat_map (λ y. handles_of y.sending) ones) apart)
    by_place rest (inr q) = rest q

  tokens_apart : (one : Sent) → Contains view.waiting one → Apart (tokens_in one)
  tokens_apart one c = apart_filter (λ number. not (is_client number)) (handles_of one.sending) (from_pairs (handles_of one.sending) (handles_apart one view.waiting fit.once c))

  queue_apart : (ones : List Sent) → AllPairs (λ x y. x.place < y.place) ones → ((one : Sent) → Contains ones one → Contains view.waiting one) → Apart (flat_map tokens_in ones)
  queue_apart [] rise within = tt
  queue_apart (one ∷ ones) rise within =
      apart_append (tokens_in one) (flat_map tokens_in ones) (tokens_apart one (within one (contains_here one ones)))
      (queue_apart ones (pairs-tail (λ (x y : Sent). x.place < y.place) one ones rise) (λ x c. within x (contains_later x one ones c)))
      (λ n h. false_from_ne_true (among n (flat_map tokens_in ones)) (λ g.
      let other = tokens_of_many n ones g in
      let is = once_carried n one other.0 (within one (contains_here one ones)) (within other.0 (contains_later other.0 one ones other.1)) h other.2 in
      let above : one.place < other.0.place = All-contains (λ (y : Sent). one.place < y.place) ones other.0 (pairs-head (λ (x y : Sent). x.place < y.place) one ones rise) other.1 in
      let at = ap (λ (s : Sent). s.place) is in
      omega (arith, above, at)))

  on_apart : (n : ℕ) → Apart (on n)
  on_apart n =
      queue_apart (queue_of queues n)
      (subst (AllPairs (λ (x y : Sent). x.place < y.place)) (sym (on_queue n))
      (AllPairs-filter (λ (x y : Sent). x.place < y.place) (λ x. x.endpoint == n) (others_in view sent) (AllPairs-filter (λ (x y : Sent). x.place < y.place) (λ x. not (x.place == sent.place)) view.waiting fit.rise)))
      (λ one c. (waiting_of one (waits_there n one c).0).0)

  dead_apart : (ds : List ℕ) → AllPairs (λ x y. x ≢ y) ds → Apart (flat_map on ds)
  dead_apart [] once = tt
  dead_apart (d ∷ ds) once =
      apart_append (on d) (flat_map on ds) (on_apart d) (dead_apart ds (pairs-tail (λ (x y : ℕ). x ≢ y) d ds once))
      (λ n h. false_from_ne_true (among n (flat_map on ds)) (λ g.
      let one = tokens_of_many n (queue_of queues d) h in
      let e = from_each on n ds g in
      let other = tokens_of_many n (queue_of queues e.0) e.2 in
      let here = waits_there d one.0 one.1 in
      let there = waits_there e.0 other.0 other.1 in
      let is = once_carried n one.0 other.0 (waiting_of one.0 here.0).0 (waiting_of other.0 there.0).0 one.2 other.2 in
      All-contains (λ (y : ℕ). d ≢ y) ds e.0 (pairs-head (λ (x y : ℕ). x ≢ y) d ds once) e.1 (sym here.1 ∙ ap (λ (s : Sent). s.endpoint) is ∙ there.1)))

  pub spent_apart : AllPairs (λ x y. x ≢ y) dead → Apart (spent_told sent queues dead)
  spent_apart once =
      apart_append (tokens_in sent) (flat_map on dead) (tokens_apart sent (is_first view sent first).waits) (dead_apart dead once)
      (λ n h. false_from_ne_true (among n (flat_map on dead)) (λ g.
      let e = from_each on n dead g in
      let other = tokens_of_many n (queue_of queues e.0) e.2 in
      let there = waiting_of other.0 (waits_there e.0 other.0 other.1).0 in
      let is = once_carried n sent other.0 (is_first view sent first).waits there.0 h other.2 in
      there.1 (ap (λ (s : Sent). s.place) (sym is))))

  pub are_spent : AllPairs (λ x y. x ≢ y) dead → IsListOf (spent_in view sent) (spent_told sent queues dead)
  are_spent once = record { same = same_spent; once = apart_pairs (spent_told sent queues dead) (spent_apart once) }

-- ---- what is known

same_number : (a b : ℕ) → eq_by_cmp nat_cmp a b ≡ (a == b)
same_number a b = grind (arith, nat_tests)

-- tokens that are out and not held, each once, can go one after another
pub can_go : (tokens : List ℕ) (known : Known) → Apart tokens → ((n : ℕ) → among n tokens ≡ true → finite.get known.tokens n ≡ Some false) → CanGo known tokens
can_go [] known apart out = tt
can_go (token ∷ tokens) known apart out = (
  out token (first_among token tokens),
  can_go tokens (gone known token) apart.1
      (λ n h.
      get-remove nat_cmp_total known.tokens token n
      ∙ ap (λ (b : Bool). cond b None (finite.get known.tokens n))
      (same_number n token ∙ ne_eqb n token (λ e. true≢false (sym h ∙ ap (λ (m : ℕ). among m tokens) e ∙ apart.0)))
      ∙ out n (later_among n token tokens h)),
)

-- that looks at the tokens alone
pub can_go_alike : (tokens : List ℕ) (known other : Known) → known.tokens ≡ other.tokens → CanGo known tokens → CanGo other tokens
can_go_alike [] known other same can = tt
can_go_alike (token ∷ tokens) known other same can = (
  subst (λ (m : finite.FinMap nat_cmp Bool). finite.get m token ≡ Some false) same can.0,
  can_go_alike tokens (gone known token) (gone other token) (ap (λ (m : finite.FinMap nat_cmp Bool). finite.remove m token) same) can.1,
)

-- deaths leave tokens as they were
pub ended_tokens : (dead : List ℕ) (known : Known) → (fold ended known dead).tokens ≡ known.tokens
ended_tokens [] known = refl
ended_tokens (d ∷ dead) known = ended_tokens dead (ended known d)

-- tokens that go don't look at how much waits
pub gone_with : (spent : List ℕ) (known : Known) (n : ℕ) → ◌≡◌ {A = Known} (fold gone (record known { waiting = n }) spent) (record (fold gone known spent) { waiting = n })
gone_with [] known n = refl
gone_with (token ∷ spent) known n = gone_with spent (gone known token) n

-- nor does one that is given
pub told_with : (fate : Fate) (known : Known) (n : ℕ) → ◌≡◌ {A = Known} (known_told fate (record known { waiting = n })) (record (known_told fate known) { waiting = n })
told_with fates.Stays known n = refl
told_with fates.Ends known n = refl
told_with (fates.Binds object) known n = refl
told_with (fates.Refuses object) known n = refl
told_with (fates.Forwards mount object flags rest) known n = refl
told_with (fates.Gives token) known n = refl

-- what the fate tells is what is known when the token of the outcome is given
told_served : (fate : Fate) (left : Known) → known_told fate left ≡ (if is_some (token_told fate) then given left else left)
told_served fates.Stays left = refl
told_served fates.Ends left = refl
told_served (fates.Binds object) left = refl
told_served (fates.Refuses object) left = refl
told_served (fates.Forwards mount object flags rest) left = refl
told_served (fates.Gives token) left = refl

as_many : (token : Option Given) → is_some (option_map (λ (given : Given). given.token) token) ≡ is_some token
as_many None = refl
as_many (Some given) = refl

pub known_then : (known new : Known) (dead spent : List ℕ) (fate : Fate) (token : Option Given) (n m : ℕ) → option_map (λ given. given.token) token ≡ token_told fate →
    new ≡ record (known_told fate (fold gone (fold ended known dead) spent)) { waiting = n } → n ≡ m → new ≡ known_served known dead spent token m
known_then known new dead spent fate token n m is e same =
    let left = fold gone (fold ended known dead) spent in
    e
    ∙ ap (λ (k : ℕ). let x : Known = record (known_told fate left) { waiting = k } in x) same
    ∙ ap (λ (k : Known). let x : Known = record k { waiting = m } in x) (told_served fate left)
    ∙ ap (λ (b : Bool). let x : Known = record (if b then given left else left) { waiting = m } in x) (sym (ap is_some is) ∙ as_many token)

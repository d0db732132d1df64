-- Whoever keeps what is known of endpoints and tokens knows at each point what looking back says.
use Rattle.std.proofs.Common.{◌≡◌, ℕ, ◌+◌, ◌&&◌, ◌||◌, ◌⊎◌, Bool, true, false, not, nat_le, nat_lt, List, [], ◌∷◌, length, count_by, Option, Contains, refl, sym, ap, ◌∙◌, inl, inr, if◌then◌else◌}
use Rattle.std.specs.List.{list_any}
use Rattle.std.proofs.lemmas.Bool.{or_cases, or_left, or_right, true≢false}
use Rattle.std.proofs.lemmas.List.Elements.{All-contains}
use Rattle.fidl_names.specs.declared.limits.TheConstants as limit
use Rattle.link_frames.specs.declared.kinds.FrameKind.{FrameKind}
use Rattle.link_frames.specs.declared.kinds.FrameKind.TheVariants as kind
use Rattle.link_frames.specs.declared.kinds.Refusal.{Refusal}
use Rattle.link_frames.specs.declared.kinds.Refusal.TheVariants as refusal
use Rattle.link_admission.specs.declared.kinds.Standing.{Standing}
use Rattle.link_admission.specs.declared.kinds.Standing.TheVariants as standing
use Rattle.link_admission.specs.Admission.{LookUps, admission, refusal_by, by_standing, may_travel, all_may_travel, look_ups as known_look_ups}
use Rattle.fidl_names.specs.First.{cause_if, first_of}
use Rattle.link_frames.specs.Frames.{Frame}
use Rattle.fidl_names.specs.HandleNumber.{is_client}
use Rattle.link_admission.specs.Numbering.{among}
use Rattle.link_admission.specs.Standings.{Known, holds, is_used as is_used_standing, standing_of as known_standing}
use Rattle.io_rights.specs.Operations.{none}
use Rattle.vfs_journal.specs.Entries.{Sent, Journal, handles_of, refuses}
use Rattle.vfs_journal.specs.History.{all_sent, waiting, is_dead, is_live, is_used, hung_up}
use Rattle.journal_laws.specs.Knowing.{Knows}
use Rattle.vfs_journal.specs.Lawful.{Lawful}
use Rattle.vfs_journal.specs.Outcomes.{Given}
use Rattle.vfs_journal.specs.Past.{behind, history_of}
use Rattle.vfs_journal.specs.Serving.{Moment}
use Rattle.vfs_journal.specs.Session.{look_ups}
use Rattle.journal_laws.specs.Soundness.{IsStart}
use Rattle.vfs_journal.specs.Starts.{Bound, Start, directory_birth}
use Rattle.vfs_journal.specs.Tokens.{is_held, waits_with}
use Rattle.journal_laws.proofs.Among.{carried_is}
use Rattle.journal_laws.proofs.Below.{Below}
use Rattle.journal_laws.proofs.Kept.{lawful_kept}
use Rattle.journal_laws.proofs.KnowingCount.{same_bool, lawful_accounted}
use Rattle.journal_laws.proofs.KnowingTokens.{outs_same, token_same}
use Rattle.journal_laws.proofs.KnowingServed.{Lives, by_binding, by_carrier, how_it_lives}
use Rattle.journal_laws.proofs.Sound.{View, view, IsView, Sound, IsKnown, used, carried_used}
use Rattle.journal_laws.proofs.Stepping.{stepped}
use Rattle.journal_laws.proofs.Steps.{refusals_change_nothing}
use Rattle.journal_laws.proofs.Views.{is_view}

-- ---- behind a refusal

some_bound : Bound
some_bound = record { endpoint = 0; server = 0; birth = directory_birth 0 none; mask = 0 }

pub refusals_known : (start : Start) (journal : Journal) (endpoint : ℕ) (why : Refusal) (known : Known) →
    Knows start (history_of start journal) known → Knows start (history_of start (refuses endpoint why ∷ journal)) known
unfolding history_of
refusals_known start journal endpoint why known k =
    let h = refusals_change_nothing start (history_of start journal) endpoint why in
    let past = history_of start journal in
    let now = behind start (refuses endpoint why) past in
    let carried = λ (n : ℕ). ap (list_any (λ (sent : Sent). among n (handles_of sent.sending))) h.sent in
    let waits = λ (n : ℕ). ap (list_any (λ (sent : Sent). among n (handles_of sent.sending))) h.queue in
    record {
      standing = λ n. k.standing n ∙ sym (ap (λ (l : LookUps). l.standing n) h.looked_up);
      live = k.live ∙ sym (ap (λ (l : LookUps). l.live) h.looked_up);
      waiting = k.waiting ∙ sym (ap (λ (l : LookUps). l.waiting) h.looked_up);
      servers = k.servers;
      holds = λ n. k.holds n ∙ sym (ap (λ (l : LookUps). l.holds n) h.looked_up);
      next = k.next ∙ sym (ap (λ (moment : Moment). moment.room.token) (h.seen some_bound));
      tokens = λ n. k.tokens n ∙ sym (token_same now past n h.same.tokens (carried n) (waits n));
      out = k.out ∙ sym (ap length (outs_same now past h.same.tokens (λ n there. ap (λ (b : Bool). b || waits_with now n) (ap (λ (l : LookUps). l.holds n) h.looked_up) ∙ ap (λ (b : Bool). is_held past n || b) (waits n))));
      given = k.given ∙ sym (ap (λ (ones : List Given). limit.FIRST_TOKEN + length ones) h.same.tokens);
    }

-- ---- admission

travel_same : (l m : LookUps) (handles : List ℕ) → ((n : ℕ) → may_travel l n ≡ may_travel m n) → all_may_travel l handles ≡ all_may_travel m handles
travel_same l m [] same = refl
travel_same l m (n ∷ ns) same =
    ap (λ (b : Bool). b && not (among n ns) && all_may_travel l ns) (same n) ∙ ap (λ (b : Bool). may_travel m n && not (among n ns) && b) (travel_same l m ns same)

abbrev message_refusal : ℕ → List ℕ → Standing → Bool → ℕ → ℕ → Option Refusal
message_refusal e handles stands travel waiting live =
    first_of
    (by_standing stands
    ∷ cause_if (not (is_client e)) refusal.BadHandle
    ∷ cause_if (not travel) refusal.BadHandle
    ∷ cause_if (nat_le 4096 waiting) refusal.ShouldWait
    ∷ cause_if (nat_lt 65536 (live + count_by is_client handles)) refusal.NoResources
    ∷ [])

abbrev close_refusal : ℕ → Standing → ℕ → Option Refusal
close_refusal e stands waiting =
    first_of (by_standing stands ∷ cause_if (not (is_client e)) refusal.BadHandle ∷ cause_if (nat_le 4096 waiting) refusal.ShouldWait ∷ [])

-- what admission looks up, in two ways
record AreAlike (l m : LookUps) : Type 0 where
  standing : (n : ℕ) → l.standing n ≡ m.standing n
  travel : (n : ℕ) → may_travel l n ≡ may_travel m n
  waiting : l.waiting ≡ m.waiting
  live : l.live ≡ m.live
  servers : l.servers ≡ m.servers

alike_admit : (l m : LookUps) → AreAlike l m → (k : FrameKind) (e : ℕ) (handles : List ℕ) → refusal_by k l e handles ≡ refusal_by k m e handles
alike_admit l m same kind.Message e handles =
    ap (λ a. message_refusal e handles a (all_may_travel l handles) l.waiting l.live) (same.standing e)
    ∙ ap (λ b. message_refusal e handles (m.standing e) b l.waiting l.live) (travel_same l m handles same.travel)
    ∙ ap (λ c. message_refusal e handles (m.standing e) (all_may_travel m handles) c l.live) same.waiting
    ∙ ap (λ d. message_refusal e handles (m.standing e) (all_may_travel m handles) m.waiting d) same.live
alike_admit l m same kind.Close e handles =
    ap (λ a. close_refusal e a l.waiting) (same.standing e) ∙ ap (λ c. close_refusal e (m.standing e) c) same.waiting
alike_admit l m same kind.Pick e handles = ap by_standing (same.standing e)
alike_admit l m same kind.Turn e handles = ap (λ servers. cause_if (nat_le servers e) refusal.BadHandle) same.servers
alike_admit l m same kind.Refused e handles = refl

-- a client's endpoint that lives was known
pub lives_known : (start : Start) (v : View) (n : ℕ) → IsStart start → Sound start v → IsView v → is_client n ≡ true → Lives v n → used start v.sent n ≡ true
lives_known start v n s past is client (by_binding b there at) = by_birth (past.born b (is.living_born b there).0) where
  by_birth : Contains start.mounts b ⊎ IsKnown start v.sent b.endpoint → used start v.sent n ≡ true
  by_birth (inl m) = absurd (true≢false (sym client ∙ ap is_client (sym at) ∙ All-contains (λ (bound : Bound). is_client bound.endpoint ≡ false) start.mounts b s.ends m))
  by_birth (inr known) = ap (used start v.sent) (sym at) ∙ known.1
lives_known start v n s past is client (by_carrier one there h) = carried_used start v.sent one n (is.waits one there) (carried_is one n h).1

used_by : (dead live closed' : Bool) → is_used_standing (if dead then standing.Dead else if live then (if closed' then standing.HungUp else standing.Live) else standing.Unused) ≡ (dead || live)
used_by true live closed' = refl
used_by false true true = refl
used_by false true false = refl
used_by false false closed' = refl

-- a client's number was known where it is dead or lives
pub used_where : Below → (start : Start) (journal : Journal) (n : ℕ) → IsStart start → Lawful start journal → is_client n ≡ true →
    is_used start (history_of start journal) n ≡ (is_dead (history_of start journal) n || is_live start (history_of start journal) n)
used_where below start journal n s lawful client =
    let history = history_of start journal in
    let past = lawful_kept below start s journal lawful in
    let is = is_view start journal (stepped start journal lawful) in
    same_bool (is_used start history n) (is_dead history n || is_live start history n)
    (λ h. either (is_dead history n) (is_live start history n) (lawful_accounted below start s journal lawful n client h))
    (λ h. known_by (past.sound.dead n) (λ g. lives_known start (view start history) n s past.sound is client (how_it_lives (view start history) n g)) (or_cases (is_dead history n) (is_live start history n) h)) where
      either : (a b : Bool) → (a ≡ true) ⊎ (b ≡ true) → (a || b) ≡ true
      either a b (inl h) = or_left a b h
      either a b (inr h) = or_right a b h

      known_by : {A B : Type 0} → (A → IsKnown start (all_sent (history_of start journal)) n) → (B → is_used start (history_of start journal) n ≡ true) → A ⊎ B → is_used start (history_of start journal) n ≡ true
      known_by f g (inl a) = (f a).1
      known_by f g (inr b) = g b

travel_by : (client used' used'' held held' : Bool) → (client ≡ true → used' ≡ used'') → held ≡ held' → ((client && not used') || held) ≡ ((client && not used'') || held')
travel_by true used' used'' held held' same h = ap (λ (b : Bool). not b || held) (same refl) ∙ ap (λ (b : Bool). not used'' || b) h
travel_by false used' used'' held held' same h = h

pub knowers_admit : Below → (start : Start) (journal : Journal) (known : Known) (frame : Frame) → IsStart start → Lawful start journal → Knows start (history_of start journal) known →
    admission (known_look_ups known) frame ≡ admission (look_ups start (history_of start journal)) frame
knowers_admit below start journal known frame s lawful k =
    let history = history_of start journal in
    alike_admit (known_look_ups known) (look_ups start history)
    (record {
      standing = k.standing;
      travel = λ n. travel_by (is_client n) (is_used_standing (known_standing known n)) (is_used start history n) (holds known n) (is_held history n)
          (λ client. ap is_used_standing (k.standing n) ∙ used_by (is_dead history n) (is_live start history n) (hung_up history n) ∙ sym (used_where below start journal n s lawful client))
          (k.holds n);
      waiting = k.waiting;
      live = k.live;
      servers = k.servers;
    })
    frame.kind frame.endpoint frame.handles

-- At each time of steps that keep the premises frames count on live endpoints, and are admitted just there.
use Rattle.std.proofs.Common.{◌≡◌, ◌≢◌, ℕ, ◌==◌, ◌&&◌, ◌||◌, ◌⊎◌, Bool, true, false, not, List, [], ◌∷◌, ◌++◌, Option, Some, None, All, AllPairs, Contains, flat_map, if◌then◌else◌, refl, sym, ap, ◌∙◌, subst, inl, inr}
use Rattle.std.specs.List.{list_all, list_any}
use Rattle.std.proofs.lemmas.Bool.{true≢false, false_from_ne_true, eqb-true, eq-eqb, and_parts, or_cases}
use Rattle.std.proofs.lemmas.List.Elements.{All-contains, All-cons, All-head, All-nil, All-tail, Contains-append_cases, Contains-append_right}
use Rattle.fidl_names.specs.First.{first_of}
use Rattle.fidl_names.specs.HandleNumber.{is_client}
use Rattle.link_admission.specs.Numbering.{among}
use Rattle.link_frames.specs.declared.kinds.FrameKind.{FrameKind}
use Rattle.link_frames.specs.declared.kinds.FrameKind.TheVariants as kind
use Rattle.link_frames.specs.declared.kinds.Refusal.{Refusal}
use Rattle.link_frames.specs.declared.kinds.Side.TheVariants.{ToServers}
use Rattle.link_admission.specs.declared.kinds.Standing.TheVariants as standing
use Rattle.link_frames.specs.Frames.{Frame, IsFrame}
use Rattle.link_frames.specs.Refusals.{refused_frame}
use Rattle.link_admission.specs.Admission.{LookUps, admission, all_may_travel, by_standing, refusal_by}
use Rattle.vfs_journal.specs.Entries.{Entry, Journal, Sent, hang_up, message, refuses, sends, serves}
use Rattle.vfs_journal.specs.History.{History, all_sent, hung_up, is_dead, is_live, is_used, standing_of}
use Rattle.vfs_journal.specs.Lawful.{Lawful}
use Rattle.vfs_journal.specs.Lawful as lawful
use Rattle.vfs_journal.specs.Outcomes.{Forwarded}
use Rattle.vfs_journal.specs.Output.{frames_behind}
use Rattle.vfs_journal.specs.Past.{behind, event_of, history_of}
use Rattle.vfs_journal.specs.Serving.{outcome_of}
use Rattle.vfs_journal.specs.Session.{admitted, by_refusal, look_ups, sent_behind, with_forward}
use Rattle.vfs_journal.specs.Starts.{Bound, Start}
use Rattle.vfs_journal.specs.Tokens.{all_given}
use Rattle.journal_laws.specs.Soundness.{IsStart}
use Rattle.journal_laws.proofs.Among.{among_of, member_of, one_passes}
use Rattle.journal_laws.proofs.Below.{Below}
use Rattle.journal_laws.proofs.Kept.{close_admitted, message_admitted, refusal_of}
use Rattle.journal_laws.proofs.KnowingServed.{after_served}
use Rattle.journal_laws.proofs.Lists.{pairs-head, pairs-left, pairs-tail}
use Rattle.journal_laws.proofs.Members.{contains_cases, contains_here, contains_later, contains_none}
use Rattle.journal_laws.proofs.Stepping.{onward_of}
use Rattle.journal_laws.proofs.Steps.{refusals_change_nothing, sendings_wait_last, servings_take_effect}
use Rattle.turn_law.specs.Counting.{AreLinked, FramesAreLinked, FramesThatCountAreAdmitted, KeepPremises, counts_on, is_close, is_open}
use Rattle.turn_law.specs.Premises.{ChangeNothing, Changes, HandlesStandOnce, MeetsNoLimit, TellsLimit}
use Rattle.turn_law.specs.Premises as premises
use Rattle.turn_law.specs.Quiet.{ClientsAreQuiet, IsQuiet}
use Rattle.turn_law.specs.Steps.{AreSteps, Step, arrival, frames_in, is_sending, journal_of, service}
use Rattle.turn_law.specs.Told.{is_new}
use Rattle.turn_law.proofs.BySteps.{StepsGoOn, by_steps}
use Rattle.turn_law.proofs.Linked.{IsLimit, close_has_none, close_linked, close_refusal, live_stands, live_undead, live_used, message_linked, message_refusal, named_uncarried, not_true, or_none, refusal_linked, travels_new, unused_new}
use Rattle.turn_law.proofs.QuietSessions.{stay_still}
use Rattle.turn_law.proofs.StepsMade.{steps_lawful, with_sending}

-- ---- what clients sent is quiet

pub fewer_changes : (k : FrameKind) (frame : Frame) (frames : List Frame) → ChangeNothing (with_sending k frame frames) → ChangeNothing frames
fewer_changes kind.Message frame frames h = All-tail (λ f. f.kind ≡ kind.Message → ¬ (Changes f.bytes f.handles)) frame frames h
fewer_changes kind.Close frame frames h = All-tail (λ f. f.kind ≡ kind.Message → ¬ (Changes f.bytes f.handles)) frame frames h
fewer_changes kind.Turn frame frames h = h
fewer_changes kind.Pick frame frames h = h
fewer_changes kind.Refused frame frames h = h

abbrev pub Quiet : Start → Journal → List Frame → Type 0
Quiet start journal frames = ChangeNothing frames → ClientsAreQuiet (history_of start journal)

quiet_more : (past : History) (start : Start) (one : Sent) → IsQuiet one.sending → ClientsAreQuiet past → ClientsAreQuiet (behind start (sends one) past)
quiet_more past start one quiet h sent there origin =
    by_case (Contains-append_cases (all_sent past) (one ∷ []) sent (subst (λ (ones : List Sent). Contains ones sent) (sendings_wait_last start past one).sent_last there)) where
      by_one : (one ≡ sent) ⊎ Contains [] sent → IsQuiet sent.sending
      by_one (inl e) = subst (λ (x : Sent). IsQuiet x.sending) e quiet
      by_one (inr none) = absurd (contains_none sent none)

      by_case : Contains (all_sent past) sent ⊎ Contains (one ∷ []) sent → IsQuiet sent.sending
      by_case (inl g) = h sent g origin
      by_case (inr g) = by_one (contains_cases sent one [] g)

-- what goes on was sent by no client
quiet_served : (start : Start) (journal : Journal) (one : Sent) (o : Option Forwarded) → ClientsAreQuiet (history_of start journal) → ClientsAreQuiet (history_of start (with_forward one.place (serves one ∷ journal) o))
unfolding history_of
quiet_served start journal one None h sent there origin = h sent (subst (λ (ones : List Sent). Contains ones sent) (servings_take_effect start (history_of start journal) one).sent_same there) origin
quiet_served start journal one (Some forward) h sent there origin =
    by_case (Contains-append_cases (all_sent served) (on ∷ []) sent (subst (λ (ones : List Sent). Contains ones sent) (sendings_wait_last start served on).sent_last there)) where
      served : History
      served = behind start (serves one) (history_of start journal)

      on : Sent
      on = onward_of journal one forward

      by_one : (on ≡ sent) ⊎ Contains [] sent → IsQuiet sent.sending
      by_one (inl e) = absurd (let wrong : Some one.place ≡ None = ap (λ (x : Sent). x.origin) e ∙ origin in cc)
      by_one (inr none) = absurd (contains_none sent none)

      by_case : Contains (all_sent served) sent ⊎ Contains (on ∷ []) sent → IsQuiet sent.sending
      by_case (inl g) = h sent (subst (λ (ones : List Sent). Contains ones sent) (servings_take_effect start (history_of start journal) one).sent_same g) origin
      by_case (inr g) = by_one (contains_cases sent on [] g)

-- ---- fewer premises

all_left : (P : Frame → Type 0) (xs ys : List Frame) → All P (xs ++ ys) → All P xs
all_left P [] ys h = All-nil P
all_left P (x ∷ xs) ys h = All-cons P x xs (All-head P x (xs ++ ys) h) (all_left P xs ys (All-tail P x (xs ++ ys) h))

right : (xs ys : List ℕ) → AllPairs (λ one other. one ≢ other) (xs ++ ys) → AllPairs (λ one other. one ≢ other) ys
right [] ys h = h
right (x ∷ xs) ys h = right xs ys (pairs-tail (λ one other. one ≢ other) x (xs ++ ys) h)

pub fewer_once : (frame : Frame) (frames : List Frame) → HandlesStandOnce (frame ∷ frames) → HandlesStandOnce frames
fewer_once frame frames h = right frame.handles (flat_map (λ f. f.handles) frames) h

pub fewer_handles : (k : FrameKind) (frame : Frame) (frames : List Frame) → HandlesStandOnce (with_sending k frame frames) → HandlesStandOnce frames
fewer_handles kind.Message frame frames h = right frame.handles (flat_map (λ f. f.handles) frames) h
fewer_handles kind.Close frame frames h = right frame.handles (flat_map (λ f. f.handles) frames) h
fewer_handles kind.Turn frame frames h = h
fewer_handles kind.Pick frame frames h = h
fewer_handles kind.Refused frame frames h = h

pub limits_before : (start : Start) (journal : Journal) (one : Sent) (o : Option Forwarded) → MeetsNoLimit (frames_behind start (with_forward one.place (serves one ∷ journal) o)) → MeetsNoLimit (frames_behind start journal)
unfolding history_of
limits_before start journal one None h = all_left (λ frame. ¬ (TellsLimit frame)) (frames_behind start journal) _ h
limits_before start journal one (Some forward) h = all_left (λ frame. ¬ (TellsLimit frame)) (frames_behind start journal) _ (all_left (λ frame. ¬ (TellsLimit frame)) _ _ h)

pub entry_limits : (start : Start) (journal : Journal) (entry : Entry) → MeetsNoLimit (frames_behind start (entry ∷ journal)) → MeetsNoLimit (frames_behind start journal)
unfolding history_of
entry_limits start journal entry h = all_left (λ frame. ¬ (TellsLimit frame)) (frames_behind start journal) _ h

-- no refusal is one for a limit
pub no_limit : (start : Start) (journal : Journal) (endpoint : ℕ) (why : Refusal) → MeetsNoLimit (frames_behind start (refuses endpoint why ∷ journal)) → ¬ (TellsLimit (refused_frame endpoint why))
unfolding history_of event_of
no_limit start journal endpoint why h =
    All-contains (λ frame. ¬ (TellsLimit frame)) (frames_behind start (refuses endpoint why ∷ journal)) (refused_frame endpoint why) h
    (Contains-append_right (frames_behind start journal) (refused_frame endpoint why ∷ []) (refused_frame endpoint why) (contains_here (refused_frame endpoint why) []))

-- ---- the induction

abbrev pub Linked : Start → Journal → List Frame → Type 0
Linked start journal frames = KeepPremises start journal frames → AreLinked start (history_of start journal) frames

first_linked : Below → (start : Start) → IsStart start → AreLinked start [] []
unfolding is_open history_of
first_linked below start s = record {
  opens = λ n client live. first_of_all n (live_used below start [] n s lawful.begun client live);
  named = λ n used. used;
} where
  first_of_all : (n : ℕ) → is_used start [] n ≡ true → list_any (λ bound. bound.endpoint == n) start.firsts ≡ true
  first_of_all n used = sym (or_none (list_any (λ bound. bound.endpoint == n) start.firsts)) ∙ used

pub linked_goes_on : Below → (start : Start) → IsStart start → StepsGoOn start (λ journal frames. Quiet start journal frames × Linked start journal frames)
unfolding history_of
linked_goes_on below start s = record {
  begins = (λ nothing sent there origin. absurd (contains_none sent there), λ keeps. first_linked below start s);
  refuses_on = λ journal frames frame why lawful' is refused h. (
    λ nothing sent there origin. h.0 (fewer_changes frame.kind frame frames nothing) sent (subst (λ (ones : List Sent). Contains ones sent) (refusals_change_nothing start (history_of start journal) frame.endpoint why).sent there) origin,
    λ keeps.
        refusal_linked below start journal frame frames why s lawful' is refused
        (λ e. no_limit start journal frame.endpoint why keeps.limits (subst (λ (w : Refusal). TellsLimit (refused_frame frame.endpoint w)) (sym e) (premises.waits frame.endpoint)))
        frame.kind refl keeps.handles
        (h.1 (record {
          changes = fewer_changes frame.kind frame frames keeps.changes;
          handles = fewer_handles frame.kind frame frames keeps.handles;
          limits = entry_limits start journal (refuses frame.endpoint why) keeps.limits;
        })),
  );
  messages_on = λ journal frames frame lawful' is form admits h. (
    λ nothing. quiet_more (history_of start journal) start (sent_behind journal frame.endpoint (message frame.bytes frame.handles) None)
        (All-head (λ f. f.kind ≡ kind.Message → ¬ (Changes f.bytes f.handles)) frame frames nothing form)
        (h.0 (fewer_changes kind.Message frame frames nothing)),
    λ keeps.
        let nothing = fewer_changes kind.Message frame frames keeps.changes in
        message_linked below start journal frame frames s lawful' form admits (stay_still below start journal s lawful' (h.0 nothing)).tokens
        (h.1 (record {
          changes = nothing;
          handles = fewer_handles kind.Message frame frames keeps.handles;
          limits = entry_limits start journal (sends (sent_behind journal frame.endpoint (message frame.bytes frame.handles) None)) keeps.limits;
        })),
  );
  closes_on = λ journal frames frame lawful' is form admits h. (
    λ nothing. quiet_more (history_of start journal) start (sent_behind journal frame.endpoint hang_up None) tt (h.0 (fewer_changes kind.Close frame frames nothing)),
    λ keeps.
        close_linked below start journal frame frames s lawful' is form admits
        (h.1 (record {
          changes = fewer_changes kind.Close frame frames keeps.changes;
          handles = fewer_handles kind.Close frame frames keeps.handles;
          limits = entry_limits start journal (sends (sent_behind journal frame.endpoint hang_up None)) keeps.limits;
        })),
  );
  serves_on = λ journal frames one lawful' first h. (
    λ nothing. quiet_served start journal one (outcome_of start (history_of start journal) one).forward (h.0 nothing),
    λ keeps.
        let after = after_served below start journal one s lawful' first in
        let linked = h.1 (record {
          changes = keeps.changes;
          handles = keeps.handles;
          limits = limits_before start journal one (outcome_of start (history_of start journal) one).forward keeps.limits;
        }) in
        record {
          opens = λ n client live. linked.opens n client (and_parts (is_live start (history_of start journal) n) _ (sym (after.live n) ∙ live)).0 ∙ sym (ap not (after.closed n));
          named = λ n used. linked.named n (after.known n used);
        },
  );
}

pub frames_linked : Below → FramesAreLinked
frames_linked below start steps s can = (by_steps start (λ journal frames. Quiet start journal frames × Linked start journal frames) (linked_goes_on below start s) steps can).1

-- ---- a frame that arrives

pub open_client : (start : Start) (n : ℕ) (frames : List Frame) → IsStart start → is_open start n frames ≡ true → is_client n ≡ true
unfolding is_open
open_client start n [] s h =
    let one = one_passes (λ (bound : Bound). bound.endpoint == n) start.firsts h in
    ap is_client (sym (eqb-true one.0.endpoint n one.2)) ∙ All-contains (λ (bound : Bound). is_client bound.endpoint ≡ true) start.firsts one.0 s.firsts one.1
open_client start n (frame ∷ frames) s h = by_case (open_client start n frames s) (or_cases (among n frame.handles && is_new start n) _ h) where
  by_case : (is_open start n frames ≡ true → is_client n ≡ true) → ((among n frame.handles && is_new start n) ≡ true) ⊎ ((is_open start n frames && not (is_close frame.kind && (frame.endpoint == n))) ≡ true) → is_client n ≡ true
  by_case rest (inl e) = (and_parts (is_client n) (not (list_any (λ bound. bound.endpoint == n) start.firsts)) (and_parts (among n frame.handles) (is_new start n) e).1).0
  by_case rest (inr e) = rest (and_parts (is_open start n frames) _ e).0

each_new : (start : Start) (handles : List ℕ) → ((n : ℕ) → among n handles ≡ true → is_new start n ≡ true) → list_all (is_new start) handles ≡ true
each_new start [] h = refl
each_new start (n ∷ handles) h =
    ap (λ (b : Bool). b && list_all (is_new start) handles) (h n (among_of n (n ∷ handles) (contains_here n handles)))
    ∙ each_new start handles (λ m there. h m (among_of m (n ∷ handles) (contains_later m n handles (member_of m handles there))))

pub new_each : (start : Start) (handles : List ℕ) → list_all (is_new start) handles ≡ true → (n : ℕ) → Contains handles n → is_new start n ≡ true
new_each start [] h n there = absurd (contains_none n there)
new_each start (m ∷ handles) h n there =
    let parts = and_parts (is_new start m) (list_all (is_new start) handles) h in
    new_by m n parts.0 (contains_cases n m handles there) (new_each start handles parts.1 n) where
      new_by : (m n : ℕ) → is_new start m ≡ true → (m ≡ n) ⊎ Contains handles n → (Contains handles n → is_new start n ≡ true) → is_new start n ≡ true
      new_by m n first (inl e) later = ap (is_new start) (sym e) ∙ first
      new_by m n first (inr g) later = later g

-- what is new and unused may travel
travels_all : (l : LookUps) (handles : List ℕ) → ((n : ℕ) → Contains handles n → (is_client n ≡ true) × (l.used n ≡ false)) → AllPairs (λ one other. one ≢ other) handles → all_may_travel l handles ≡ true
travels_all l [] each apart = refl
travels_all l (n ∷ handles) each apart =
    let first = each n (contains_here n handles) in
    let alone : among n handles ≡ false =
    false_from_ne_true (among n handles) (λ there. All-contains (λ other. n ≢ other) handles n (pairs-head (λ one other. one ≢ other) n handles apart) (member_of n handles there) refl) in
    ap (λ (b : Bool). (b && not (l.used n) || l.holds n) && not (among n handles) && all_may_travel l handles) first.0
    ∙ ap (λ (b : Bool). (not b || l.holds n) && not (among n handles) && all_may_travel l handles) first.1
    ∙ ap (λ (b : Bool). not b && all_may_travel l handles) alone
    ∙ travels_all l handles (λ m there. each m (contains_later m n handles there)) (pairs-tail (λ one other. one ≢ other) n handles apart)

standing_open : (dead live closed : Bool) → by_standing (if dead then standing.Dead else if live then (if closed then standing.HungUp else standing.Live) else standing.Unused) ≡ None → closed ≡ true → ⊥
standing_open true live closed h e = absurd (cc)
standing_open false false closed h e = absurd (cc)
standing_open false true true h e = absurd (cc)
standing_open false true false h e = absurd (cc)

first_refusal : (o : Option Refusal) (rest : List (Option Refusal)) → first_of (o ∷ rest) ≡ None → o ≡ None
first_refusal None rest h = refl
first_refusal (Some why) rest h = absurd (cc)

module _ (below : Below) (start : Start) (journal : Journal) (frames : List Frame) (frame : Frame) (s : IsStart start) (lawful' : Lawful start journal) (frame' : IsFrame ToServers frame)
    (linked : AreLinked start (history_of start journal) frames) (tokens : all_given (history_of start journal) ≡ []) where
  past : History
  past = history_of start journal

  counted : (is_live start (history_of start journal) frame.endpoint ≡ true) → (is_client frame.endpoint ≡ true) → hung_up (history_of start journal) frame.endpoint ≡ false → list_all (is_new start) frame.handles ≡ true →
      counts_on start frame.endpoint frames frame ≡ true
  counted live client unhung news =
      ap (λ (b : Bool). b && (is_open start frame.endpoint frames && list_all (is_new start) frame.handles)) (eq-eqb frame.endpoint frame.endpoint refl)
      ∙ ap (λ (b : Bool). b && list_all (is_new start) frame.handles) (linked.opens frame.endpoint client live ∙ ap not unhung)
      ∙ news

  unhung_by : by_standing (standing_of start (history_of start journal) frame.endpoint) ≡ None → hung_up (history_of start journal) frame.endpoint ≡ false
  unhung_by none = false_from_ne_true (hung_up (history_of start journal) frame.endpoint) (standing_open (is_dead (history_of start journal) frame.endpoint) (is_live start (history_of start journal) frame.endpoint) (hung_up (history_of start journal) frame.endpoint) none)

  pub only_there : (k : FrameKind) → frame.kind ≡ k → is_sending k ≡ true → admission (look_ups start (history_of start journal)) frame ≡ None →
      (is_live start (history_of start journal) frame.endpoint ≡ true) × (counts_on start frame.endpoint frames frame ≡ true)
  only_there kind.Message is sending none =
      let by_kind = refusal_of (look_ups start (history_of start journal)) frame kind.Message is none in
      let admitted' = message_admitted start (history_of start journal) frame.endpoint frame.handles by_kind in
      let unhung = unhung_by (first_refusal _ _ by_kind) in (
        admitted'.live,
        counted admitted'.live admitted'.client unhung
            (each_new start frame.handles (λ n there. let fresh = travels_new start (history_of start journal) n tokens (admitted'.travel n there) in unused_new start (history_of start journal) n fresh.0 fresh.1)),
      )
  only_there kind.Close is sending none =
      let by_kind = refusal_of (look_ups start (history_of start journal)) frame kind.Close is none in
      let admitted' = close_admitted start (history_of start journal) frame.endpoint frame.handles by_kind in
      let unhung = unhung_by (first_refusal _ _ by_kind) in
      (admitted'.live, counted admitted'.live admitted'.client unhung (ap (list_all (is_new start)) (close_has_none frame is frame')))
  only_there kind.Turn is sending none = absurd (cc)
  only_there kind.Pick is sending none = absurd (cc)
  only_there kind.Refused is sending none = absurd (cc)

  -- what counts on a live endpoint is refused for a limit alone
  pub refused_by : (why : Refusal) → HandlesStandOnce (frame ∷ frames) → is_live start (history_of start journal) frame.endpoint ≡ true → counts_on start frame.endpoint frames frame ≡ true →
      (k : FrameKind) → frame.kind ≡ k → is_sending k ≡ true → admission (look_ups start (history_of start journal)) frame ≡ Some why → IsLimit why
  refused_by why once live counts k is sending refused =
      by_kind k is sending (ap (λ (x : FrameKind). refusal_by x (look_ups start (history_of start journal)) frame.endpoint frame.handles) (sym is) ∙ refused) where
        parts : (is_open start frame.endpoint frames ≡ true) × (list_all (is_new start) frame.handles ≡ true)
        parts = and_parts (is_open start frame.endpoint frames) (list_all (is_new start) frame.handles) (and_parts (frame.endpoint == frame.endpoint) _ counts).1

        client : is_client frame.endpoint ≡ true
        client = open_client start frame.endpoint frames s parts.0

        unhung : hung_up (history_of start journal) frame.endpoint ≡ false
        unhung = not_true (hung_up (history_of start journal) frame.endpoint) (sym (linked.opens frame.endpoint client live) ∙ parts.0)

        stands' : standing_of start (history_of start journal) frame.endpoint ≡ standing.Live
        stands' = live_stands start (history_of start journal) frame.endpoint (live_undead below start journal frame.endpoint s lawful' live) live unhung

        unused : (n : ℕ) → Contains frame.handles n → is_new start n ≡ true → is_used start (history_of start journal) n ≡ false
        unused n there new =
            false_from_ne_true (is_used start (history_of start journal) n)
            (λ used. true≢false (sym (ap (λ (b : Bool). b && is_new start n) (among_of n frame.handles there) ∙ new) ∙ named_uncarried start n frame frames once (linked.named n used)))

        travel : all_may_travel (look_ups start (history_of start journal)) frame.handles ≡ true
        travel =
            travels_all (look_ups start (history_of start journal)) frame.handles
            (λ n there. let new = new_each start frame.handles parts.1 n there in ((and_parts (is_client n) _ new).0, unused n there new))
            (pairs-left (λ one other. one ≢ other) frame.handles (flat_map (λ f. f.handles) frames) once)

        by_kind : (j : FrameKind) → frame.kind ≡ j → is_sending j ≡ true → refusal_by j (look_ups start (history_of start journal)) frame.endpoint frame.handles ≡ Some why → IsLimit why
        by_kind kind.Message is' sending' h = message_refusal (look_ups start (history_of start journal)) frame.endpoint frame.handles why stands' client travel h
        by_kind kind.Close is' sending' h = inl (close_refusal (look_ups start (history_of start journal)) frame.endpoint why stands' client h)
        by_kind kind.Turn is' sending' h = absurd (cc)
        by_kind kind.Pick is' sending' h = absurd (cc)
        by_kind kind.Refused is' sending' h = absurd (cc)

-- the premises before a frame
pub frame_limits : (start : Start) (journal : Journal) (frame : Frame) (k : FrameKind) → frame.kind ≡ k → is_sending k ≡ true → (o : Option Refusal) →
    MeetsNoLimit (frames_behind start (by_refusal start journal frame o)) → MeetsNoLimit (frames_behind start journal)
frame_limits start journal frame k is sending (Some why) h = entry_limits start journal (refuses frame.endpoint why) h
frame_limits start journal frame kind.Message is sending None h =
    entry_limits start journal (sends (sent_behind journal frame.endpoint (message frame.bytes frame.handles) None)) (subst (λ (x : FrameKind). MeetsNoLimit (frames_behind start (admitted start journal x frame))) is h)
frame_limits start journal frame kind.Close is sending None h =
    entry_limits start journal (sends (sent_behind journal frame.endpoint hang_up None)) (subst (λ (x : FrameKind). MeetsNoLimit (frames_behind start (admitted start journal x frame))) is h)
frame_limits start journal frame kind.Turn is sending None h = absurd (cc)
frame_limits start journal frame kind.Pick is sending None h = absurd (cc)
frame_limits start journal frame kind.Refused is sending None h = absurd (cc)

pub just_there : Below → FramesThatCountAreAdmitted
unfolding journal_of
just_there below start steps frame s can sending keeps =
    record { only = only_there below start journal frames frame s lawful' can.0.0 linked tokens frame.kind refl sending; there = λ live counts. admitted_by live counts (admission (look_ups start past) frame) refl } where
      journal : Journal
      journal = journal_of start steps

      frames : List Frame
      frames = frames_in steps

      past : History
      past = history_of start journal

      lawful' : Lawful start journal
      lawful' = steps_lawful start steps can.1

      whole : frames_in (arrival frame ∷ steps) ≡ frame ∷ frames
      whole = ap (λ (b : Bool). if b then frame ∷ frames else frames) sending

      earlier : KeepPremises start journal frames
      earlier = record {
        changes = fewer_changes frame.kind frame frames keeps.changes;
        handles = fewer_handles frame.kind frame frames keeps.handles;
        limits = frame_limits start journal frame frame.kind refl sending (admission (look_ups start past) frame) keeps.limits;
      }

      both : Quiet start journal frames × Linked start journal frames
      both = by_steps start (λ j fs. Quiet start j fs × Linked start j fs) (linked_goes_on below start s) steps can.1

      linked : AreLinked start past frames
      linked = both.1 earlier

      tokens : all_given past ≡ []
      tokens = (stay_still below start journal s lawful' (both.0 earlier.changes)).tokens

      refused_limit : (why : Refusal) → admission (look_ups start past) frame ≡ Some why → ¬ (TellsLimit (refused_frame frame.endpoint why))
      refused_limit why e =
          no_limit start journal frame.endpoint why (subst (λ (o : Option Refusal). MeetsNoLimit (frames_behind start (by_refusal start journal frame o))) e keeps.limits)

      tells : (why : Refusal) → IsLimit why → TellsLimit (refused_frame frame.endpoint why)
      tells why (inl e) = subst (λ (w : Refusal). TellsLimit (refused_frame frame.endpoint w)) (sym e) (premises.waits frame.endpoint)
      tells why (inr e) = subst (λ (w : Refusal). TellsLimit (refused_frame frame.endpoint w)) (sym e) (premises.refuses frame.endpoint)

      admitted_by : is_live start past frame.endpoint ≡ true → counts_on start frame.endpoint frames frame ≡ true → (o : Option Refusal) → admission (look_ups start past) frame ≡ o → admission (look_ups start past) frame ≡ None
      admitted_by live counts None e = e
      admitted_by live counts (Some why) e =
          absurd (refused_limit why e (tells why
          (refused_by below start journal frames frame s lawful' can.0.0 linked tokens why (subst HandlesStandOnce whole keeps.handles) live counts frame.kind refl sending e)))

-- what steps say before a frame that arrives, where the premises hold behind it
pub record IsBeforeFrame (start : Start) (steps : List Step) (frame : Frame) : Type 0 where
  pub lawful : Lawful start (journal_of start steps)
  pub linked : AreLinked start (history_of start (journal_of start steps)) (frames_in steps)
  pub tokens : all_given (history_of start (journal_of start steps)) ≡ []
  pub once : HandlesStandOnce (frame ∷ frames_in steps)
  pub unlimited : (why : Refusal) → admission (look_ups start (history_of start (journal_of start steps))) frame ≡ Some why → ¬ (IsLimit why)

pub before_frame : Below → (start : Start) (steps : List Step) (frame : Frame) → IsStart start → AreSteps start (arrival frame ∷ steps) → is_sending frame.kind ≡ true →
    KeepPremises start (journal_of start (arrival frame ∷ steps)) (frames_in (arrival frame ∷ steps)) → IsBeforeFrame start steps frame
unfolding journal_of
before_frame below start steps frame s can sending keeps = record {
  lawful = steps_lawful start steps can.1;
  linked = both.1 earlier;
  tokens = (stay_still below start journal s (steps_lawful start steps can.1) (both.0 earlier.changes)).tokens;
  once = subst HandlesStandOnce (ap (λ (b : Bool). if b then frame ∷ frames_in steps else frames_in steps) sending) keeps.handles;
  unlimited = λ why e limit.
      no_limit start journal frame.endpoint why (subst (λ (o : Option Refusal). MeetsNoLimit (frames_behind start (by_refusal start journal frame o))) e keeps.limits) (tells why limit);
} where
  journal : Journal
  journal = journal_of start steps

  earlier : KeepPremises start journal (frames_in steps)
  earlier = record {
    changes = fewer_changes frame.kind frame (frames_in steps) keeps.changes;
    handles = fewer_handles frame.kind frame (frames_in steps) keeps.handles;
    limits = frame_limits start journal frame frame.kind refl sending (admission (look_ups start (history_of start journal)) frame) keeps.limits;
  }

  both : Quiet start journal (frames_in steps) × Linked start journal (frames_in steps)
  both = by_steps start (λ j fs. Quiet start j fs × Linked start j fs) (linked_goes_on below start s) steps can.1

  tells : (why : Refusal) → IsLimit why → TellsLimit (refused_frame frame.endpoint why)
  tells why (inl e) = subst (λ (w : Refusal). TellsLimit (refused_frame frame.endpoint w)) (sym e) (premises.waits frame.endpoint)
  tells why (inr e) = subst (λ (w : Refusal). TellsLimit (refused_frame frame.endpoint w)) (sym e) (premises.refuses frame.endpoint)

-- what arrived are frames
pub steps_are_frames : (start : Start) (steps : List Step) → AreSteps start steps → All (IsFrame ToServers) (frames_in steps)
steps_are_frames start [] can = All-nil (IsFrame ToServers)
steps_are_frames start (arrival frame ∷ steps) can = by_kind (is_sending frame.kind) (steps_are_frames start steps can.1) where
  by_kind : (b : Bool) → All (IsFrame ToServers) (frames_in steps) → All (IsFrame ToServers) (if b then frame ∷ frames_in steps else frames_in steps)
  by_kind true h = All-cons (IsFrame ToServers) frame (frames_in steps) can.0.0 h
  by_kind false h = h
steps_are_frames start (service one ∷ steps) can = steps_are_frames start steps can.1

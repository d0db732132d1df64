-- Frames count where they are admitted: what a journal's endpoints are beside the frames that made it.
use Rattle.std.proofs.Common.{◌≡◌, ◌≢◌, ℕ, ◌==◌, ◌≤◌, ◌&&◌, ◌||◌, ◌⊎◌, Bool, true, false, not, List, [], ◌∷◌, ◌++◌, length, Some, None, All, AllPairs, Contains, flat_map, if◌then◌else◌, refl, sym, ap, ◌∙◌, subst, inl, inr, arith}
use Rattle.std.specs.List.{list_any}
use Rattle.std.specs.Prelude.{IsTrue, is_some}
use Rattle.std.proofs.lemmas.Bool.{true≢false, false_from_ne_true, eqb-true, and_parts, or_cases, or_parts, or_left, or_right}
use Rattle.std.proofs.lemmas.List.Elements.{All-contains, Contains-append_left, Contains-append_right}
use Rattle.fidl_names.specs.First.{cause_if, first_of}
use Rattle.fidl_names.specs.HandleNumber.{is_client}
use Rattle.link_admission.specs.Numbering.{among}
use Rattle.link_frames.specs.declared.kinds.FrameKind.{FrameKind}
use Rattle.link_frames.specs.declared.kinds.FrameKind.TheVariants as kind
use Rattle.link_frames.specs.declared.kinds.Refusal.{Refusal}
use Rattle.link_frames.specs.declared.kinds.Refusal.TheVariants as refusal
use Rattle.link_frames.specs.declared.kinds.Side.TheVariants.{ToServers}
use Rattle.link_admission.specs.declared.kinds.Standing.{Standing}
use Rattle.link_admission.specs.declared.kinds.Standing.TheVariants as standing
use Rattle.link_frames.specs.Frames.{Frame, IsFrame, keeps_shape}
use Rattle.link_admission.specs.Admission.{LookUps, admission, all_may_travel, by_standing, is_full, may_travel, refusal_by, too_many}
use Rattle.link_admission.proofs.Travelling.{unused_by}
use Rattle.vfs_journal.specs.Entries.{Journal, Sending, Sent, endpoints_in, hang_up, handles_of, is_hang_up, message, refuses, sends}
use Rattle.vfs_journal.specs.History.{History, all_sent, hung_up, is_bound, is_dead, is_live, is_used, standing_of, travelling, was_carried}
use Rattle.vfs_journal.specs.Lawful.{Lawful}
use Rattle.vfs_journal.specs.Past.{behind, history_of}
use Rattle.vfs_journal.specs.Session.{look_ups, sent_behind}
use Rattle.vfs_journal.specs.Starts.{Start}
use Rattle.vfs_journal.specs.Tokens.{all_given, is_held}
use Rattle.journal_laws.specs.Soundness.{IsStart}
use Rattle.journal_laws.proofs.Among.{carried_is, member_of, one_passes}
use Rattle.journal_laws.proofs.Below.{Below}
use Rattle.journal_laws.proofs.Kept.{IsAdmitted, close_admitted, lawful_kept, message_admitted, refusal_of}
use Rattle.journal_laws.proofs.KnowingAdmits.{used_where}
use Rattle.journal_laws.proofs.KnowingServed.{lives_undead, sent_lives, used_more}
use Rattle.journal_laws.proofs.Lists.{pairs-head, pairs-tail}
use Rattle.journal_laws.proofs.Members.{contains_cases, contains_none}
use Rattle.journal_laws.proofs.Sound.{endpoint_known, view}
use Rattle.journal_laws.proofs.Stepping.{stepped}
use Rattle.journal_laws.proofs.Steps.{refusals_change_nothing, sendings_wait_last}
use Rattle.journal_laws.proofs.Views.{fresh_unserved, is_view, new_waits, sent_view}
use Rattle.turn_law.specs.Counting.{AreLinked, is_close, is_named, is_open}
use Rattle.turn_law.specs.Premises.{HandlesStandOnce}
use Rattle.turn_law.specs.Told.{is_new}
use Rattle.turn_law.proofs.StepsMade.{with_sending}

-- ---- tests

pub not_true : (b : Bool) → not b ≡ true → b ≡ false
not_true true e = absurd (cc)
not_true false e = refl

pub or_none : (b : Bool) → (b || false) ≡ b
or_none true = refl
or_none false = refl

pub and_true : (b : Bool) → (b && true) ≡ b
and_true true = refl
and_true false = refl

-- ---- handles that stand once

crosses_by : {X : Type 0} (R : X → X → Type 0) (z x y : X) (zs ys : List X) → All (R z) (zs ++ ys) → Contains ys y → (z ≡ x) ⊎ Contains zs x → (Contains zs x → R x y) → R x y
crosses_by R z x y zs ys first there (inl e) later = subst (λ w. R w y) e (All-contains (R z) (zs ++ ys) y first (Contains-append_right zs ys y there))
crosses_by R z x y zs ys first there (inr h) later = later h

crosses : {X : Type 0} (R : X → X → Type 0) (xs ys : List X) (x y : X) → AllPairs R (xs ++ ys) → Contains xs x → Contains ys y → R x y
crosses R [] ys x y all here there = absurd (contains_none x here)
crosses R (z ∷ zs) ys x y all here there =
    crosses_by R z x y zs ys (pairs-head R z (zs ++ ys) all) there (contains_cases x z zs here) (λ h. crosses R zs ys x y (pairs-tail R z (zs ++ ys) all) h there)

carried_by : (n : ℕ) (frame : Frame) (frames : List Frame) → (list_any (λ f. among n f.handles) frames ≡ true → Contains (flat_map (λ f. f.handles) frames) n) →
    (among n frame.handles ≡ true) ⊎ (list_any (λ f. among n f.handles) frames ≡ true) → Contains (frame.handles ++ flat_map (λ f. f.handles) frames) n
carried_by n frame frames rest (inl e) = Contains-append_left frame.handles (flat_map (λ f. f.handles) frames) n (member_of n frame.handles e)
carried_by n frame frames rest (inr e) = Contains-append_right frame.handles (flat_map (λ f. f.handles) frames) n (rest e)

carried_there : (n : ℕ) (frames : List Frame) → list_any (λ frame. among n frame.handles) frames ≡ true → Contains (flat_map (λ frame. frame.handles) frames) n
carried_there n [] h = absurd (cc)
carried_there n (frame ∷ frames) h = carried_by n frame frames (carried_there n frames) (or_cases (among n frame.handles) (list_any (λ f. among n f.handles) frames) h)

-- what a frame carries, no frame before it carries
pub once_carried : (n : ℕ) (frame : Frame) (frames : List Frame) → HandlesStandOnce (frame ∷ frames) → among n frame.handles ≡ true → list_any (λ f. among n f.handles) frames ≡ false
once_carried n frame frames once here =
    false_from_ne_true (list_any (λ f. among n f.handles) frames)
    (λ there. crosses (λ one other. one ≢ other) frame.handles (flat_map (λ f. f.handles) frames) n n once (member_of n frame.handles here) (carried_there n frames there) refl)

-- ---- numbers that are new

pub unheld : (history : History) (n : ℕ) → all_given history ≡ [] → is_held history n ≡ false
unheld history n none = ap (λ given. list_any (λ g. g.token == n) given && not (was_carried history n)) none

first_alone : (start : Start) (n : ℕ) → is_client n ≡ true → list_any (λ bound. bound.endpoint == n) start.firsts ≡ false → is_new start n ≡ true
first_alone start n client none = ap (λ (b : Bool). b && not (list_any (λ bound. bound.endpoint == n) start.firsts)) client ∙ ap not none

pub unused_new : (start : Start) (history : History) (n : ℕ) → is_client n ≡ true → is_used start history n ≡ false → is_new start n ≡ true
unused_new start history n client unused = first_alone start n client (or_parts (list_any (λ bound. bound.endpoint == n) start.firsts) (was_carried history n) unused).0

client_by : (c u h : Bool) → ((c && not u) || h) ≡ true → h ≡ false → c ≡ true
client_by true u h may none = refl
client_by false u true may none = absurd (cc)
client_by false u false may none = absurd (cc)

pub travels_new : (start : Start) (history : History) (n : ℕ) → all_given history ≡ [] → may_travel (look_ups start history) n ≡ true → (is_client n ≡ true) × (is_used start history n ≡ false)
travels_new start history n none may =
    (client_by (is_client n) (is_used start history n) (is_held history n) may (unheld history n none), unused_by (look_ups start history) n may (unheld history n none))

-- nobody hung up on what wasn't used
unused_unhung : Below → (start : Start) (journal : Journal) (n : ℕ) → IsStart start → Lawful start journal → is_client n ≡ true → is_used start (history_of start journal) n ≡ false → hung_up (history_of start journal) n ≡ false
unused_unhung below start journal n s lawful client unused =
    let history = history_of start journal in
    let past = (lawful_kept below start s journal lawful).sound in
    false_from_ne_true (hung_up history n)
    (λ g.
    let one = one_passes (λ (sent : Sent). is_hang_up sent.sending && (sent.endpoint == n)) (all_sent history) g in
    let at = eqb-true one.0.endpoint n (and_parts (is_hang_up one.0.sending) (one.0.endpoint == n) one.2).1 in
    true≢false (sym (ap (is_used start history) (sym at) ∙ endpoint_known start (all_sent history) one.0 s (ap is_client at ∙ client) (past.right one.0 one.1)) ∙ unused))

-- a client's endpoint that is live was used, and isn't dead
pub live_used : Below → (start : Start) (journal : Journal) (n : ℕ) → IsStart start → Lawful start journal → is_client n ≡ true → is_live start (history_of start journal) n ≡ true → is_used start (history_of start journal) n ≡ true
live_used below start journal n s lawful client live =
    used_where below start journal n s lawful client ∙ or_right (is_dead (history_of start journal) n) (is_live start (history_of start journal) n) live

pub live_undead : Below → (start : Start) (journal : Journal) (n : ℕ) → IsStart start → Lawful start journal → is_live start (history_of start journal) n ≡ true → is_dead (history_of start journal) n ≡ false
live_undead below start journal n s lawful live =
    lives_undead start (view start (history_of start journal)) n (is_view start journal (stepped start journal lawful)) (lawful_kept below start s journal lawful).transit live

-- ---- behind a sending

pub live_behind : Below → (start : Start) (journal : Journal) (endpoint : ℕ) (sending : Sending) (n : ℕ) → Lawful start journal → is_dead (history_of start journal) endpoint ≡ false →
    is_live start (behind start (sends (sent_behind journal endpoint sending None)) (history_of start journal)) n
    ≡ (is_live start (history_of start journal) n || among n (endpoints_in (sent_behind journal endpoint sending None)))
live_behind below start journal endpoint sending n lawful alive =
    let past = history_of start journal in
    let one = sent_behind journal endpoint sending None in
    let steps = stepped start journal lawful in
    sent_lives (view start past) (view start (behind start (sends one) past)) one n (sent_view start past one)
    (new_waits start past one (fresh_unserved start journal one steps (same_le (length journal))) alive) where
      same_le : (k : ℕ) → k ≤ k
      same_le k = omega arith

shuffled : (a b c : Bool) → (a || c) ≡ true → (a || (b || c)) ≡ true
shuffled true b c h = refl
shuffled false true c h = refl
shuffled false false c h = h

named_behind : (start : Start) (past : History) (one : Sent) (frame : Frame) (frames : List Frame) → ((n : ℕ) → among n (handles_of one.sending) ≡ true → among n frame.handles ≡ true) →
    ((n : ℕ) → is_used start past n ≡ true → is_named start frames n ≡ true) → (n : ℕ) → is_used start (behind start (sends one) past) n ≡ true → is_named start (frame ∷ frames) n ≡ true
named_behind start past one frame frames of_frame named n used =
    by_case (used_more start (all_sent past) one n (subst (λ (ones : List Sent). (list_any (λ bound. bound.endpoint == n) start.firsts || list_any (λ (x : Sent). among n (handles_of x.sending)) ones) ≡ true) (sendings_wait_last start past one).sent_last used)) where
      by_case : (is_used start past n ≡ true) ⊎ (among n (handles_of one.sending) ≡ true) → is_named start (frame ∷ frames) n ≡ true
      by_case (inl u) = shuffled (list_any (λ bound. bound.endpoint == n) start.firsts) (among n frame.handles) (list_any (λ f. among n f.handles) frames) (named n u)
      by_case (inr c) =
          or_right (list_any (λ bound. bound.endpoint == n) start.firsts) (among n frame.handles || list_any (λ f. among n f.handles) frames)
          (or_left (among n frame.handles) (list_any (λ f. among n f.handles) frames) (of_frame n c))

-- whether frames count behind one more
opened_by : Bool → Bool → Bool → Bool → Bool
opened_by carried new opens closes = (carried && new) || (opens && not closes)

open_more : (start : Start) (n : ℕ) (frame : Frame) (frames : List Frame) (carried new opens closes : Bool) → among n frame.handles ≡ carried → is_new start n ≡ new → is_open start n frames ≡ opens →
    (is_close frame.kind && (frame.endpoint == n)) ≡ closes → is_open start n (frame ∷ frames) ≡ opened_by carried new opens closes
unfolding is_open opened_by
open_more start n frame frames carried new opens closes a b c d =
    ap (λ (x : Bool). (x && is_new start n) || (is_open start n frames && not (is_close frame.kind && (frame.endpoint == n)))) a
    ∙ ap (λ (x : Bool). (carried && x) || (is_open start n frames && not (is_close frame.kind && (frame.endpoint == n)))) b
    ∙ ap (λ (x : Bool). (carried && new) || (x && not (is_close frame.kind && (frame.endpoint == n)))) c
    ∙ ap (λ (x : Bool). (carried && new) || (opens && not x)) d

opened_new : (opens closes : Bool) → opened_by true true opens closes ≡ true
unfolding opened_by
opened_new opens closes = refl

opened_same : (new opens : Bool) → opened_by false new opens false ≡ opens
unfolding opened_by
opened_same new opens = and_true opens

opened_closed : (new opens closes : Bool) → opened_by false new opens closes ≡ (opens && not closes)
unfolding opened_by
opened_closed new opens closes = refl

opened_old : (carried opens : Bool) → opened_by carried false opens false ≡ opens
unfolding opened_by
opened_old true opens = and_true opens
opened_old false opens = and_true opens

pub message_closes : (frame : Frame) (n : ℕ) → frame.kind ≡ kind.Message → (is_close frame.kind && (frame.endpoint == n)) ≡ false
message_closes frame n is = ap (λ (k : FrameKind). is_close k && (frame.endpoint == n)) is

pub close_closes : (frame : Frame) (n : ℕ) → frame.kind ≡ kind.Close → (is_close frame.kind && (frame.endpoint == n)) ≡ (frame.endpoint == n)
close_closes frame n is = ap (λ (k : FrameKind). is_close k && (frame.endpoint == n)) is

pub message_linked : Below → (start : Start) (journal : Journal) (frame : Frame) (frames : List Frame) → IsStart start → Lawful start journal → frame.kind ≡ kind.Message →
    admission (look_ups start (history_of start journal)) frame ≡ None → all_given (history_of start journal) ≡ [] → AreLinked start (history_of start journal) frames →
    AreLinked start (behind start (sends (sent_behind journal frame.endpoint (message frame.bytes frame.handles) None)) (history_of start journal)) (frame ∷ frames)
message_linked below start journal frame frames s lawful is admits none linked =
    record { opens = λ n client live. opens_by n client live (among n frame.handles) refl; named = named_behind start past one frame frames (λ n h. h) linked.named } where
      past : History
      past = history_of start journal

      one : Sent
      one = sent_behind journal frame.endpoint (message frame.bytes frame.handles) None

      now : History
      now = behind start (sends one) past

      admitted' : IsAdmitted start past frame.endpoint frame.handles
      admitted' = message_admitted start past frame.endpoint frame.handles (refusal_of (look_ups start past) frame kind.Message is admits)

      closed_now : (n : ℕ) → hung_up now n ≡ hung_up past n
      closed_now n = (sendings_wait_last start past one).closed n ∙ or_none (hung_up past n)

      opens_by : (n : ℕ) → is_client n ≡ true → is_live start now n ≡ true → (carried : Bool) → among n frame.handles ≡ carried → is_open start n (frame ∷ frames) ≡ not (hung_up now n)
      opens_by n client live true e =
          let fresh = travels_new start past n none (admitted'.travel n e) in
          open_more start n frame frames true true _ _ e (unused_new start past n fresh.0 fresh.1) refl refl
          ∙ opened_new _ _
          ∙ sym (ap not (closed_now n ∙ unused_unhung below start journal n s lawful fresh.0 fresh.1))
      opens_by n client live false e =
          let uncarried : among n (endpoints_in one) ≡ false = false_from_ne_true (among n (endpoints_in one)) (λ h. true≢false (sym (carried_is one n h).1 ∙ e)) in
          let before : is_live start past n ≡ true =
          sym (or_none (is_live start past n)) ∙ sym (live_behind below start journal frame.endpoint (message frame.bytes frame.handles) n lawful admitted'.alive ∙ ap (λ (b : Bool). is_live start past n || b) uncarried) ∙ live in
          open_more start n frame frames false _ _ false e refl (linked.opens n client before) (message_closes frame n is)
          ∙ opened_same _ (not (hung_up past n))
          ∙ sym (ap not (closed_now n))

-- ---- a hang-up

no_handles : (handles : List ℕ) (b : Bool) → IsTrue ((length handles == 0) && b) → handles ≡ []
no_handles [] b h = refl
no_handles (x ∷ handles) b h =
    let none : length (x ∷ handles) ≡ 0 = eqb-true (length (x ∷ handles)) 0 (and_parts (length (x ∷ handles) == 0) b h).0 in
    absurd (omega arith)

pub close_has_none : (frame : Frame) → frame.kind ≡ kind.Close → IsFrame ToServers frame → frame.handles ≡ []
close_has_none frame is frame' =
    no_handles frame.handles (length frame.bytes == 0) (subst (λ (k : FrameKind). IsTrue (keeps_shape k (length frame.handles) (length frame.bytes))) is frame'.shape.shape)

pub close_carries_none : (frame : Frame) (n : ℕ) → frame.kind ≡ kind.Close → IsFrame ToServers frame → among n frame.handles ≡ false
close_carries_none frame n is frame' = ap (among n) (close_has_none frame is frame')

pub close_linked : Below → (start : Start) (journal : Journal) (frame : Frame) (frames : List Frame) → IsStart start → Lawful start journal → IsFrame ToServers frame → frame.kind ≡ kind.Close →
    admission (look_ups start (history_of start journal)) frame ≡ None → AreLinked start (history_of start journal) frames →
    AreLinked start (behind start (sends (sent_behind journal frame.endpoint hang_up None)) (history_of start journal)) (frame ∷ frames)
close_linked below start journal frame frames s lawful frame' is admits linked =
    record { opens = opens_there; named = named_behind start past one frame frames (λ n h. absurd (cc)) linked.named } where
      past : History
      past = history_of start journal

      one : Sent
      one = sent_behind journal frame.endpoint hang_up None

      now : History
      now = behind start (sends one) past

      admitted' : IsAdmitted start past frame.endpoint []
      admitted' = close_admitted start past frame.endpoint frame.handles (refusal_of (look_ups start past) frame kind.Close is admits)

      not_either : (a b : Bool) → (not a && not b) ≡ not (a || (true && b))
      not_either true b = refl
      not_either false b = refl

      opens_there : (n : ℕ) → is_client n ≡ true → is_live start now n ≡ true → is_open start n (frame ∷ frames) ≡ not (hung_up now n)
      opens_there n client live =
          let before : is_live start past n ≡ true = sym (or_none (is_live start past n)) ∙ sym (live_behind below start journal frame.endpoint hang_up n lawful admitted'.alive) ∙ live in
          open_more start n frame frames false _ _ (frame.endpoint == n) (close_carries_none frame n is frame') refl (linked.opens n client before) (close_closes frame n is)
          ∙ opened_closed _ (not (hung_up past n)) (frame.endpoint == n)
          ∙ not_either (hung_up past n) (frame.endpoint == n)
          ∙ sym (ap not ((sendings_wait_last start past one).closed n))

-- ---- a refusal

-- a frame is refused for how its endpoint stands, for what it carries, or for a limit
stands : Bool → Bool → Bool → Standing
stands dead live closed = if dead then standing.Dead else if live then (if closed then standing.HungUp else standing.Live) else standing.Unused

pub live_stands : (start : Start) (history : History) (n : ℕ) → is_dead history n ≡ false → is_live start history n ≡ true → hung_up history n ≡ false → standing_of start history n ≡ standing.Live
unfolding stands
live_stands start history n alive live unhung =
    ap (λ (b : Bool). stands b (is_live start history n) (hung_up history n)) alive
    ∙ ap (λ (b : Bool). stands false b (hung_up history n)) live
    ∙ ap (λ (b : Bool). stands false true b) unhung

abbrev pub IsLimit : Refusal → Type 0
IsLimit why = (why ≡ refusal.ShouldWait) ⊎ (why ≡ refusal.NoResources)

some_same : {x y : Refusal} → Some x ≡ Some y → y ≡ x
some_same e = cc

pub close_refusal : (l : LookUps) (e : ℕ) (why : Refusal) → l.standing e ≡ standing.Live → is_client e ≡ true → refusal_by kind.Close l e [] ≡ Some why → why ≡ refusal.ShouldWait
close_refusal l e why live client refused =
    let left : first_of (cause_if (is_full l) refusal.ShouldWait ∷ []) ≡ Some why =
    sym (ap (λ (x : Standing). first_of (by_standing x ∷ cause_if (not (is_client e)) refusal.BadHandle ∷ cause_if (is_full l) refusal.ShouldWait ∷ [])) live
    ∙ ap (λ (b : Bool). first_of (cause_if (not b) refusal.BadHandle ∷ cause_if (is_full l) refusal.ShouldWait ∷ [])) client)
    ∙ refused in
    by_test (is_full l) left where
      by_test : (b : Bool) → first_of (cause_if b refusal.ShouldWait ∷ []) ≡ Some why → why ≡ refusal.ShouldWait
      by_test true h = some_same h
      by_test false h = absurd (cc)

pub message_refusal : (l : LookUps) (e : ℕ) (handles : List ℕ) (why : Refusal) → l.standing e ≡ standing.Live → is_client e ≡ true → all_may_travel l handles ≡ true → refusal_by kind.Message l e handles ≡ Some why → IsLimit why
message_refusal l e handles why live client travel refused =
    let limits = cause_if (is_full l) refusal.ShouldWait ∷ cause_if (too_many l handles) refusal.NoResources ∷ [] in
    let left : first_of limits ≡ Some why =
    sym (ap (λ (x : Standing). first_of (by_standing x ∷ cause_if (not (is_client e)) refusal.BadHandle ∷ cause_if (not (all_may_travel l handles)) refusal.BadHandle ∷ limits)) live
    ∙ ap (λ (b : Bool). first_of (cause_if (not b) refusal.BadHandle ∷ cause_if (not (all_may_travel l handles)) refusal.BadHandle ∷ limits)) client
    ∙ ap (λ (b : Bool). first_of (cause_if (not b) refusal.BadHandle ∷ limits)) travel)
    ∙ refused in
    by_test (is_full l) (too_many l handles) left where
      by_test : (b c : Bool) → first_of (cause_if b refusal.ShouldWait ∷ cause_if c refusal.NoResources ∷ []) ≡ Some why → IsLimit why
      by_test true c h = inl (some_same h)
      by_test false true h = inr (some_same h)
      by_test false false h = absurd (cc)

-- what is named by an earlier frame, or is a first connection, isn't carried anew
pub named_uncarried : (start : Start) (n : ℕ) (frame : Frame) (frames : List Frame) → HandlesStandOnce (frame ∷ frames) → is_named start frames n ≡ true → (among n frame.handles && is_new start n) ≡ false
named_uncarried start n frame frames once named =
    false_from_ne_true (among n frame.handles && is_new start n)
    (λ h.
    let parts = and_parts (among n frame.handles) (is_new start n) h in
    let unfirst = not_true (list_any (λ bound. bound.endpoint == n) start.firsts) (and_parts (is_client n) (not (list_any (λ bound. bound.endpoint == n) start.firsts)) parts.1).1 in
    let uncarried = once_carried n frame frames once parts.0 in
    true≢false (sym named ∙ ap (λ (b : Bool). b || list_any (λ f. among n f.handles) frames) unfirst ∙ uncarried))

open_uncarried : (start : Start) (n : ℕ) (frame : Frame) (frames : List Frame) → (among n frame.handles && is_new start n) ≡ false →
    is_open start n (frame ∷ frames) ≡ (is_open start n frames && not (is_close frame.kind && (frame.endpoint == n)))
unfolding is_open
open_uncarried start n frame frames none = ap (λ (b : Bool). b || (is_open start n frames && not (is_close frame.kind && (frame.endpoint == n)))) none

pub named_more : (start : Start) (n : ℕ) (frame : Frame) (frames : List Frame) → is_named start frames n ≡ true → is_named start (frame ∷ frames) n ≡ true
named_more start n frame frames h = shuffled (list_any (λ bound. bound.endpoint == n) start.firsts) (among n frame.handles) (list_any (λ f. among n f.handles) frames) h

-- behind a refusal endpoints live and are closed as before
pub live_same : (start : Start) (past : History) (endpoint : ℕ) (why : Refusal) (n : ℕ) → is_live start (behind start (refuses endpoint why) past) n ≡ is_live start past n
live_same start past endpoint why n =
    let is = refusals_change_nothing start past endpoint why in
    ap (λ (b : Bool). b || among n (travelling (behind start (refuses endpoint why) past))) (ap is_some (is.same.bound n))
    ∙ ap (λ (ones : List Sent). is_bound start past n || among n (flat_map endpoints_in ones)) is.queue

closed_same : (start : Start) (past : History) (endpoint : ℕ) (why : Refusal) (n : ℕ) → hung_up (behind start (refuses endpoint why) past) n ≡ hung_up past n
closed_same start past endpoint why n =
    ap (λ (ones : List Sent). list_any (λ sent. is_hang_up sent.sending && (sent.endpoint == n)) ones) (refusals_change_nothing start past endpoint why).sent

used_same : (start : Start) (past : History) (endpoint : ℕ) (why : Refusal) (n : ℕ) → is_used start (behind start (refuses endpoint why) past) n ≡ is_used start past n
used_same start past endpoint why n =
    ap (λ (ones : List Sent). list_any (λ bound. bound.endpoint == n) start.firsts || list_any (λ (sent : Sent). among n (handles_of sent.sending)) ones) (refusals_change_nothing start past endpoint why).sent

pub refusal_linked : Below → (start : Start) (journal : Journal) (frame : Frame) (frames : List Frame) (why : Refusal) → IsStart start → Lawful start journal → IsFrame ToServers frame →
    admission (look_ups start (history_of start journal)) frame ≡ Some why → (why ≢ refusal.ShouldWait) → (k : FrameKind) → frame.kind ≡ k → HandlesStandOnce (with_sending k frame frames) → AreLinked start (history_of start journal) frames →
    AreLinked start (behind start (refuses frame.endpoint why) (history_of start journal)) (with_sending k frame frames)
refusal_linked below start journal frame frames why s lawful frame' refused unlimited k is once linked =
    record { opens = λ n client live. opens_by k is once n client (sym (live_same start past frame.endpoint why n) ∙ live) ∙ sym (ap not (closed_same start past frame.endpoint why n)); named = named_by k } where
      past : History
      past = history_of start journal

      named_by : (j : FrameKind) (n : ℕ) → is_used start (behind start (refuses frame.endpoint why) past) n ≡ true → is_named start (with_sending j frame frames) n ≡ true
      named_by kind.Message n used = named_more start n frame frames (linked.named n (sym (used_same start past frame.endpoint why n) ∙ used))
      named_by kind.Close n used = named_more start n frame frames (linked.named n (sym (used_same start past frame.endpoint why n) ∙ used))
      named_by kind.Turn n used = linked.named n (sym (used_same start past frame.endpoint why n) ∙ used)
      named_by kind.Pick n used = linked.named n (sym (used_same start past frame.endpoint why n) ∙ used)
      named_by kind.Refused n used = linked.named n (sym (used_same start past frame.endpoint why n) ∙ used)

      uncarried : (n : ℕ) → HandlesStandOnce (frame ∷ frames) → is_client n ≡ true → is_live start past n ≡ true → (among n frame.handles && is_new start n) ≡ false
      uncarried n once' client live = named_uncarried start n frame frames once' (linked.named n (live_used below start journal n s lawful client live))

      closing : (n : ℕ) → frame.kind ≡ kind.Close → is_client n ≡ true → is_live start past n ≡ true → (here closed : Bool) → (frame.endpoint == n) ≡ here → hung_up past n ≡ closed → (not closed && not here) ≡ not closed
      closing n is' client live false closed e f = and_true (not closed)
      closing n is' client live true true e f = refl
      closing n is' client live true false e f =
          let at = eqb-true frame.endpoint n e in
          let stands' = live_stands start past n (live_undead below start journal n s lawful live) live f in
          let by_close : refusal_by kind.Close (look_ups start past) n [] ≡ Some why =
          sym (ap (λ (m : ℕ). refusal_by kind.Close (look_ups start past) m []) at) ∙ sym (ap (λ (x : FrameKind). refusal_by x (look_ups start past) frame.endpoint frame.handles) is') ∙ refused in
          absurd (unlimited (close_refusal (look_ups start past) n why stands' client by_close))

      opens_by : (j : FrameKind) → frame.kind ≡ j → HandlesStandOnce (with_sending j frame frames) → (n : ℕ) → is_client n ≡ true → is_live start past n ≡ true → is_open start n (with_sending j frame frames) ≡ not (hung_up past n)
      opens_by kind.Message is' once' n client live =
          open_uncarried start n frame frames (uncarried n once' client live)
          ∙ ap (λ (b : Bool). is_open start n frames && not b) (message_closes frame n is')
          ∙ and_true (is_open start n frames)
          ∙ linked.opens n client live
      opens_by kind.Close is' once' n client live =
          open_uncarried start n frame frames (uncarried n once' client live)
          ∙ ap (λ (b : Bool). is_open start n frames && not b) (close_closes frame n is')
          ∙ ap (λ (b : Bool). b && not (frame.endpoint == n)) (linked.opens n client live)
          ∙ closing n is' client live (frame.endpoint == n) (hung_up past n) refl refl
      opens_by kind.Turn is' once' n client live = linked.opens n client live
      opens_by kind.Pick is' once' n client live = linked.opens n client live
      opens_by kind.Refused is' once' n client live = linked.opens n client live

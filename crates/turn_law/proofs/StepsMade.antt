-- Steps make lawful journals, and sessions are made by steps.
use Rattle.std.proofs.Common.{◌≡◌, ℕ, zero, suc, Bool, true, false, List, [], ◌∷◌, ◌++◌, fold, Option, Some, None, filter, reverse, All, if◌then◌else◌, refl, sym, ap, ◌∙◌, subst, append_assoc, append-nil}
use Rattle.std.proofs.lemmas.List.Elements.{All-head, All-tail}
use Rattle.link_admission.specs.Admission.{admission}
use Rattle.link_frames.specs.declared.kinds.FrameKind.{FrameKind}
use Rattle.link_frames.specs.declared.kinds.FrameKind.TheVariants as kind
use Rattle.link_frames.specs.declared.kinds.Mode.{Mode}
use Rattle.link_frames.specs.declared.kinds.Mode.TheVariants as mode
use Rattle.link_frames.specs.declared.kinds.Refusal.{Refusal}
use Rattle.link_frames.specs.declared.kinds.Side.TheVariants.{ToServers}
use Rattle.link_frames.specs.Frames.{Frame, IsFrame}
use Rattle.link_frames.specs.Numbers.{word_in}
use Rattle.vfs_journal.specs.Entries.{Journal, Sent}
use Rattle.vfs_journal.specs.History.{History}
use Rattle.vfs_journal.specs.Lawful.{Lawful}
use Rattle.vfs_journal.specs.Lawful as lawful
use Rattle.vfs_journal.specs.Past.{history_of}
use Rattle.vfs_journal.specs.Session.{admitted, after_serving, arrives, by_refusal, drained, ended, head, look_ups, next, oldest, serving, serving_one, session, steps as stepping, weight}
use Rattle.vfs_journal.specs.Starts.{Start}
use Rattle.journal_laws.proofs.Draining.{ChoosesHeads, next_is_head, oldest_is_head, pick_is_head}
use Rattle.journal_laws.proofs.Lists.{reverse_more}
use Rattle.turn_law.specs.Steps.{AreSteps, CanArrive, CanStep, IsMadeBySteps, SessionsAreSteps, Step, StepsAreLawful, arrival, frames_in, is_sending, journal_of, service}

-- ---- lawful

sent_lawful : (start : Start) (journal : Journal) (frame : Frame) → Lawful start journal → IsFrame ToServers frame → (k : FrameKind) → frame.kind ≡ k → CanArrive start journal frame k →
    admission (look_ups start (history_of start journal)) frame ≡ None → Lawful start (admitted start journal k frame)
sent_lawful start journal frame h is kind.Message e can none = lawful.sent journal frame h is e none
sent_lawful start journal frame h is kind.Close e can none = lawful.closed journal frame h is e none
sent_lawful start journal frame h is kind.Turn e (why, refused) none = absurd (let wrong : Some why ≡ None = sym refused ∙ none in cc)
sent_lawful start journal frame h is kind.Pick e (why, refused) none = absurd (let wrong : Some why ≡ None = sym refused ∙ none in cc)
sent_lawful start journal frame h is kind.Refused e (why, refused) none = absurd (let wrong : Some why ≡ None = sym refused ∙ none in cc)

arrival_lawful : (start : Start) (journal : Journal) (frame : Frame) → Lawful start journal → IsFrame ToServers frame → CanArrive start journal frame frame.kind →
    (o : Option Refusal) → admission (look_ups start (history_of start journal)) frame ≡ o → Lawful start (by_refusal start journal frame o)
arrival_lawful start journal frame h is can (Some why) e = lawful.refused journal frame why h is e
arrival_lawful start journal frame h is can None e = sent_lawful start journal frame h is frame.kind refl can e

pub steps_lawful : StepsAreLawful
unfolding journal_of
steps_lawful start [] can = lawful.begun
steps_lawful start (arrival frame ∷ earlier) can =
    let journal = journal_of start earlier in
    arrival_lawful start journal frame (steps_lawful start earlier can.1) can.0.0 can.0.1 (admission (look_ups start (history_of start journal)) frame) refl
steps_lawful start (service sent ∷ earlier) can = lawful.served (journal_of start earlier) sent (steps_lawful start earlier can.1) can.0

abbrev pub with_sending : FrameKind → Frame → List Frame → List Frame
with_sending k frame frames = if is_sending k then frame ∷ frames else frames

-- ---- made by steps

-- steps make a journal of frames, the newest first
pub record Reaches (start : Start) (journal : Journal) (frames : List Frame) : Type 0 where
  pub steps : List Step
  pub can : AreSteps start steps
  pub makes : journal_of start steps ≡ journal
  pub frames_are : frames_in steps ≡ frames

pub service_reaches : (start : Start) (journal : Journal) (frames : List Frame) (one : Sent) → Reaches start journal frames → head start (history_of start journal) one.endpoint ≡ Some one → Reaches start (after_serving start journal one) frames
unfolding journal_of
service_reaches start journal frames one r first = record {
  steps = service one ∷ r.steps;
  can = (subst (λ (j : Journal). head start (history_of start j) one.endpoint ≡ Some one) (sym r.makes) first, r.can);
  makes = ap (λ (j : Journal). after_serving start j one) r.makes;
  frames_are = r.frames_are;
}

pub arrival_reaches : (start : Start) (journal : Journal) (frames : List Frame) (frame : Frame) → Reaches start journal frames → IsFrame ToServers frame → CanArrive start journal frame frame.kind →
    Reaches start (arrives start journal frame) (with_sending frame.kind frame frames)
unfolding journal_of
arrival_reaches start journal frames frame r is can = record {
  steps = arrival frame ∷ r.steps;
  can = (subst (λ (j : Journal). CanStep start j (arrival frame)) (sym r.makes) (is, can), r.can);
  makes = ap (λ (j : Journal). arrives start j frame) r.makes;
  frames_are = ap (λ (fs : List Frame). with_sending frame.kind frame fs) r.frames_are;
}

one_reaches : (start : Start) (choice : History → Option Sent) (journal : Journal) (frames : List Frame) (on : Journal → Journal) → ChoosesHeads start choice → Reaches start journal frames →
    ((j : Journal) → Reaches start j frames → Reaches start (on j) frames) → (o : Option Sent) → choice (history_of start journal) ≡ o → Reaches start (serving_one on (after_serving start journal) journal o) frames
one_reaches start choice journal frames on heads r rest None e = r
one_reaches start choice journal frames on heads r rest (Some one) e = rest (after_serving start journal one) (service_reaches start journal frames one r (heads (history_of start journal) one e))

serving_reaches : (times : ℕ) (start : Start) (choice : History → Option Sent) (journal : Journal) (frames : List Frame) → ChoosesHeads start choice → Reaches start journal frames → Reaches start (serving times start choice journal) frames
unfolding serving
serving_reaches zero start choice journal frames heads r = r
serving_reaches (suc more) start choice journal frames heads r =
    one_reaches start choice journal frames (serving more start choice) heads r (λ j g. serving_reaches more start choice j frames heads g) (choice (history_of start journal)) refl

drained_reaches : (start : Start) (journal : Journal) (frames : List Frame) → Reaches start journal frames → Reaches start (drained start journal) frames
drained_reaches start journal frames r = serving_reaches (weight (history_of start journal)) start (next start) journal frames (next_is_head start) r

-- a frame that asks for servings
performed : (start : Start) (journal : Journal) (frames : List Frame) (frame : Frame) → Reaches start journal frames → IsFrame ToServers frame → (k : FrameKind) → frame.kind ≡ k → is_sending k ≡ false →
    (o : Option Refusal) → admission (look_ups start (history_of start journal)) frame ≡ o → Reaches start (arrives start journal frame) (with_sending frame.kind frame frames)
performed start journal frames frame r is kind.Message e asks o admits = absurd (cc)
performed start journal frames frame r is kind.Close e asks o admits = absurd (cc)
performed start journal frames frame r is kind.Turn e asks (Some why) admits = arrival_reaches start journal frames frame r is (subst (CanArrive start journal frame) (sym e) (why, admits))
performed start journal frames frame r is kind.Pick e asks (Some why) admits = arrival_reaches start journal frames frame r is (subst (CanArrive start journal frame) (sym e) (why, admits))
performed start journal frames frame r is kind.Refused e asks (Some why) admits = arrival_reaches start journal frames frame r is (subst (CanArrive start journal frame) (sym e) (why, admits))
performed start journal frames frame r is kind.Turn e asks None admits =
    subst (λ (fs : List Frame). Reaches start (arrives start journal frame) fs) (sym (ap (λ (k : FrameKind). with_sending k frame frames) e))
    (subst (λ (j : Journal). Reaches start j frames) (sym (ap (by_refusal start journal frame) admits ∙ ap (λ (k : FrameKind). admitted start journal k frame) e))
    (serving_reaches (word_in frame.bytes) start (λ history. oldest start history frame.endpoint) journal frames (oldest_is_head start frame.endpoint) r))
performed start journal frames frame r is kind.Pick e asks None admits =
    subst (λ (fs : List Frame). Reaches start (arrives start journal frame) fs) (sym (ap (λ (k : FrameKind). with_sending k frame frames) e))
    (subst (λ (j : Journal). Reaches start j frames) (sym (ap (by_refusal start journal frame) admits ∙ ap (λ (k : FrameKind). admitted start journal k frame) e))
    (serving_reaches 1 start (λ history. head start history frame.endpoint) journal frames (pick_is_head start frame.endpoint) r))
performed start journal frames frame r is kind.Refused e asks None admits =
    subst (λ (fs : List Frame). Reaches start (arrives start journal frame) fs) (sym (ap (λ (k : FrameKind). with_sending k frame frames) e))
    (subst (λ (j : Journal). Reaches start j frames) (sym (ap (by_refusal start journal frame) admits ∙ ap (λ (k : FrameKind). admitted start journal k frame) e)) r)

arrives_by : (start : Start) (journal : Journal) (frames : List Frame) (frame : Frame) → Reaches start journal frames → IsFrame ToServers frame → (k : FrameKind) → frame.kind ≡ k →
    Reaches start (arrives start journal frame) (with_sending frame.kind frame frames)
arrives_by start journal frames frame r is kind.Message e = arrival_reaches start journal frames frame r is (subst (CanArrive start journal frame) (sym e) tt)
arrives_by start journal frames frame r is kind.Close e = arrival_reaches start journal frames frame r is (subst (CanArrive start journal frame) (sym e) tt)
arrives_by start journal frames frame r is kind.Turn e = performed start journal frames frame r is kind.Turn e refl (admission (look_ups start (history_of start journal)) frame) refl
arrives_by start journal frames frame r is kind.Pick e = performed start journal frames frame r is kind.Pick e refl (admission (look_ups start (history_of start journal)) frame) refl
arrives_by start journal frames frame r is kind.Refused e = performed start journal frames frame r is kind.Refused e refl (admission (look_ups start (history_of start journal)) frame) refl

step_reaches : (start : Start) (by : Mode) (journal : Journal) (frames : List Frame) (frame : Frame) → Reaches start journal frames → IsFrame ToServers frame →
    Reaches start (stepping start by journal frame) (with_sending frame.kind frame frames)
step_reaches start mode.Auto journal frames frame r is = drained_reaches start (arrives start journal frame) _ (arrives_by start journal frames frame r is frame.kind refl)
step_reaches start mode.Given journal frames frame r is = arrives_by start journal frames frame r is frame.kind refl

-- ---- sessions

in_order : (frame : Frame) (frames earlier : List Frame) (b : Bool) →
    reverse (filter (λ (f : Frame). is_sending f.kind) frames) ++ (if b then frame ∷ earlier else earlier)
    ≡ reverse (if b then frame ∷ filter (λ (f : Frame). is_sending f.kind) frames else filter (λ (f : Frame). is_sending f.kind) frames) ++ earlier
in_order frame frames earlier true =
    let rest = filter (λ (f : Frame). is_sending f.kind) frames in
    sym (ap (λ (fs : List Frame). fs ++ earlier) (reverse_more frame rest) ∙ append_assoc (reverse rest) (frame ∷ []) earlier)
in_order frame frames earlier false = refl

frames_reach : (start : Start) (by : Mode) (frames : List Frame) (journal : Journal) (earlier : List Frame) → All (IsFrame ToServers) frames → Reaches start journal earlier →
    Reaches start (fold (stepping start by) journal frames) (reverse (filter (λ (f : Frame). is_sending f.kind) frames) ++ earlier)
frames_reach start by [] journal earlier all r = r
frames_reach start by (frame ∷ frames) journal earlier all r =
    subst (λ (fs : List Frame). Reaches start (fold (stepping start by) (stepping start by journal frame) frames) fs) (in_order frame frames earlier (is_sending frame.kind))
    (frames_reach start by frames (stepping start by journal frame) (with_sending frame.kind frame earlier) (All-tail (IsFrame ToServers) frame frames all)
    (step_reaches start by journal earlier frame r (All-head (IsFrame ToServers) frame frames all)))

begun : (start : Start) → Reaches start [] []
unfolding journal_of
begun start = record { steps = []; can = tt; makes = refl; frames_are = refl }

made : (start : Start) (journal : Journal) (frames : List Frame) → Reaches start journal (reverse (filter (λ (f : Frame). is_sending f.kind) frames)) → IsMadeBySteps start journal frames
made start journal frames r = record { steps = r.steps; can = r.can; makes = r.makes; frames_are = r.frames_are }

pub sessions_made : SessionsAreSteps
sessions_made start by frames all =
    let sending = reverse (filter (λ (f : Frame). is_sending f.kind) frames) in
    let r = subst (λ (fs : List Frame). Reaches start (session start by frames) fs) (append-nil sending) (frames_reach start by frames [] [] all (begun start)) in
    (made start (session start by frames) frames r, made start (ended start by frames) frames (drained_reaches start (session start by frames) sending r))

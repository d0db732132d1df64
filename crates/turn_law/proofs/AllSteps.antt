-- Endpoints agree with the table behind all steps, so what is written is what they are told.
use Rattle.std.proofs.Common.{◌≡◌, ◌≢◌, ℕ, ◌⊎◌, Bool, true, false, List, [], ◌∷◌, ◌++◌, filter, flat_map, reverse, Option, Some, None, All, AllPairs, Contains, if◌then◌else◌, refl, sym, ap, ◌∙◌, subst, inl, inr, append-nil}
use Rattle.std.proofs.lemmas.List.Concat.{flat_map-append}
use Rattle.std.proofs.lemmas.List.{reverse-reverse}
use Rattle.std.proofs.lemmas.List.Elements.{All-append, All-cons, All-contains, All-head, All-nil, All-tail, Contains-append_cases, Contains-append_left, Contains-append_right}
use Rattle.fidl_names.specs.HandleNumber.{is_client}
use Rattle.link_admission.specs.Admission.{admission}
use Rattle.link_frames.specs.declared.kinds.FrameKind.{FrameKind}
use Rattle.link_frames.specs.declared.kinds.FrameKind.TheVariants as kind
use Rattle.link_frames.specs.declared.kinds.Refusal.{Refusal}
use Rattle.link_frames.specs.declared.kinds.Side.TheVariants.{ToServers}
use Rattle.link_frames.specs.Frames.{Frame, IsFrame}
use Rattle.vfs_journal.specs.Entries.{Journal, Sending, Sent, hang_up, message, refuses}
use Rattle.vfs_journal.specs.History.{bound_at, waiting}
use Rattle.vfs_journal.specs.Lawful.{Lawful}
use Rattle.vfs_journal.specs.Lawful as lawful
use Rattle.vfs_journal.specs.Output.{frames_behind}
use Rattle.vfs_journal.specs.Past.{history_of}
use Rattle.vfs_journal.specs.Serving.{outcome_of}
use Rattle.vfs_journal.specs.Session.{admitted, by_refusal, ended, look_ups}
use Rattle.vfs_journal.specs.Starts.{Bound, Start}
use Rattle.journal_laws.specs.Soundness.{IsDrained, IsStart}
use Rattle.journal_laws.proofs.Below.{Below}
use Rattle.journal_laws.proofs.Draining.{sessions_serve_all}
use Rattle.journal_laws.proofs.Filters.{all_kept, all_of}
use Rattle.journal_laws.proofs.Lists.{pairs-append, pairs-head, pairs-left, pairs-tail, reverse_more}
use Rattle.journal_laws.proofs.Members.{contains_cases, contains_none}
use Rattle.turn_law.specs.Answers.{AnswersAreTold, IsOfFrames, JournalsAreOfFrames, SessionsAreTold, WritesWhatIsTold, sending_frames}
use Rattle.turn_law.specs.Counting.{KeepPremises}
use Rattle.turn_law.specs.Invariant.{Agrees, ServingsAgree, StepsAgree, StepsKeepPremises, written_on}
use Rattle.turn_law.specs.Premises.{ChangeNothing, Changes, HandlesStandOnce, MeetsNoLimit}
use Rattle.turn_law.specs.Steps.{AreSteps, CanArrive, IsMadeBySteps, Step, arrival, frames_in, is_sending, journal_of, past_of, service}
use Rattle.turn_law.specs.Told.{sending_by, table_of, told}
use Rattle.turn_law.proofs.AllTold.{all_told}
use Rattle.turn_law.proofs.Answering.{answered_still}
use Rattle.turn_law.proofs.Arrivals.{arrivals, beginnings}
use Rattle.turn_law.proofs.Carried.{IsService, Sends}
use Rattle.turn_law.proofs.EndPlaces.{ends_stand}
use Rattle.turn_law.proofs.LinkedSteps.{entry_limits, fewer_changes, fewer_handles, frame_limits, limits_before, steps_are_frames}
use Rattle.turn_law.proofs.QuietSessions.{Heads, heads}
use Rattle.turn_law.proofs.ServingsAgree.{served_clients, served_ends}
use Rattle.turn_law.proofs.StepsMade.{Reaches, arrival_reaches, service_reaches, sessions_made, steps_lawful, with_sending}

-- ---- a serving

steps_send : (start : Start) (steps : List Step) → All Sends (frames_in steps)
steps_send start [] = All-nil Sends
steps_send start (service one ∷ steps) = steps_send start steps
steps_send start (arrival frame ∷ steps) = by_kind frame.kind refl (steps_send start steps) where
  by_kind : (k : FrameKind) → frame.kind ≡ k → All Sends (frames_in steps) → All Sends (if is_sending k then frame ∷ frames_in steps else frames_in steps)
  by_kind kind.Message e rest = All-cons Sends frame (frames_in steps) (message frame.bytes frame.handles, ap (λ (k : FrameKind). sending_by k frame) e) rest
  by_kind kind.Close e rest = All-cons Sends frame (frames_in steps) (hang_up, ap (λ (k : FrameKind). sending_by k frame) e) rest
  by_kind kind.Turn e rest = rest
  by_kind kind.Pick e rest = rest
  by_kind kind.Refused e rest = rest

pub servings : Below → ServingsAgree
unfolding journal_of
servings below start steps one s can keeps agrees = record {
  clients = λ n client. served_clients below start journal (frames_in steps) one bound s c n client;
  ends = λ n none. served_ends below start journal (frames_in steps) one bound s c n none (agrees.ends n none);
} where
  journal : Journal
  journal = journal_of start steps

  lawful' : Lawful start journal
  lawful' = steps_lawful start steps can.1

  first : Heads start journal one
  first = heads below start journal one s lawful' can.0

  bound : Bound
  bound = first.serving'.at

  c : IsService start journal (frames_in steps) one bound
  c = record {
    lawful = lawful';
    all = steps_are_frames start steps can.1;
    once = keeps.handles;
    sends = steps_send start steps;
    first = can.0;
    at = first.serving'.bound;
    answered = answered_still below start steps one bound s can keeps first.serving'.bound;
    stands = ends_stand below start steps s can.1;
    agrees = agrees.clients;
  }

-- ---- all steps

arrival_limits : (start : Start) (journal : Journal) (frame : Frame) (k : FrameKind) → frame.kind ≡ k → CanArrive start journal frame k → MeetsNoLimit (frames_behind start (by_refusal start journal frame (admission (look_ups start (history_of start journal)) frame))) →
    MeetsNoLimit (frames_behind start journal)
arrival_limits start journal frame kind.Message is can h = frame_limits start journal frame kind.Message is refl (admission (look_ups start (history_of start journal)) frame) h
arrival_limits start journal frame kind.Close is can h = frame_limits start journal frame kind.Close is refl (admission (look_ups start (history_of start journal)) frame) h
arrival_limits start journal frame kind.Turn is (why, e) h = entry_limits start journal (refuses frame.endpoint why) (subst (λ (o : Option Refusal). MeetsNoLimit (frames_behind start (by_refusal start journal frame o))) e h)
arrival_limits start journal frame kind.Pick is (why, e) h = entry_limits start journal (refuses frame.endpoint why) (subst (λ (o : Option Refusal). MeetsNoLimit (frames_behind start (by_refusal start journal frame o))) e h)
arrival_limits start journal frame kind.Refused is (why, e) h = entry_limits start journal (refuses frame.endpoint why) (subst (λ (o : Option Refusal). MeetsNoLimit (frames_behind start (by_refusal start journal frame o))) e h)

-- the premises held before the last step
premises_before : (start : Start) (steps : List Step) (step : Step) → AreSteps start (step ∷ steps) → StepsKeepPremises start (step ∷ steps) → StepsKeepPremises start steps
unfolding journal_of
premises_before start steps (arrival frame) can keeps = record {
  changes = fewer_changes frame.kind frame (frames_in steps) keeps.changes;
  handles = fewer_handles frame.kind frame (frames_in steps) keeps.handles;
  limits = arrival_limits start (journal_of start steps) frame frame.kind refl can.0.1 keeps.limits;
}
premises_before start steps (service one) can keeps = record {
  changes = keeps.changes;
  handles = keeps.handles;
  limits = limits_before start (journal_of start steps) one (outcome_of start (past_of start steps) one).forward keeps.limits;
}

pub steps_agree : Below → StepsAgree
unfolding journal_of
steps_agree below start [] s can keeps = beginnings start s
steps_agree below start (arrival frame ∷ steps) s can keeps =
    arrivals below start steps frame s can keeps (steps_agree below start steps s can.1 (premises_before start steps (arrival frame) can keeps))
steps_agree below start (service one ∷ steps) s can keeps =
    servings below start steps one s can keeps (steps_agree below start steps s can.1 (premises_before start steps (service one) can keeps))

-- ---- frames in their order, and the newest first

all_turned : (P : Frame → Type 0) (frames : List Frame) → All P frames → All P (reverse frames)
all_turned P [] h = All-nil P
all_turned P (frame ∷ frames) h =
    subst (All P) (sym (reverse_more frame frames)) (All-append P (reverse frames) (frame ∷ []) (all_turned P frames (All-tail P frame frames h)) (All-cons P frame [] (All-head P frame frames h) (All-nil P)))

abbrev carried : List Frame → List ℕ
carried frames = flat_map (λ frame. frame.handles) frames

turned_more : (frame : Frame) (frames : List Frame) → carried (reverse (frame ∷ frames)) ≡ carried (reverse frames) ++ frame.handles
turned_more frame frames =
    ap carried (reverse_more frame frames) ∙ flat_map-append (λ (f : Frame). f.handles) (reverse frames) (frame ∷ []) ∙ ap (λ (ns : List ℕ). carried (reverse frames) ++ ns) (append-nil frame.handles)

turned_there : (frames : List Frame) (n : ℕ) → Contains (carried (reverse frames)) n → Contains (carried frames) n
turned_there [] n h = h
turned_there (frame ∷ frames) n h =
    by_side (turned_there frames n) (Contains-append_cases (carried (reverse frames)) frame.handles n (subst (λ (ns : List ℕ). Contains ns n) (turned_more frame frames) h)) where
      by_side : (Contains (carried (reverse frames)) n → Contains (carried frames) n) → Contains (carried (reverse frames)) n ⊎ Contains frame.handles n → Contains (frame.handles ++ carried frames) n
      by_side rest (inl g) = Contains-append_right frame.handles (carried frames) n (rest g)
      by_side rest (inr g) = Contains-append_left frame.handles (carried frames) n g

right_pairs : (xs ys : List ℕ) → AllPairs (λ one other. one ≢ other) (xs ++ ys) → AllPairs (λ one other. one ≢ other) ys
right_pairs [] ys h = h
right_pairs (x ∷ xs) ys h = right_pairs xs ys (pairs-tail (λ one other. one ≢ other) x (xs ++ ys) h)

apart_from : (xs ys : List ℕ) (x y : ℕ) → AllPairs (λ one other. one ≢ other) (xs ++ ys) → Contains xs x → Contains ys y → x ≢ y
apart_from [] ys x y h here there same = contains_none x here
apart_from (z ∷ xs) ys x y h here there same =
    by_case (λ g. apart_from xs ys x y (pairs-tail (λ one other. one ≢ other) z (xs ++ ys) h) g there same) (contains_cases x z xs here) where
      by_case : (Contains xs x → ⊥) → (z ≡ x) ⊎ Contains xs x → ⊥
      by_case rest (inl e) = All-contains (λ other. z ≢ other) (xs ++ ys) y (pairs-head (λ one other. one ≢ other) z (xs ++ ys) h) (Contains-append_right xs ys y there) (e ∙ same)
      by_case rest (inr g) = rest g

handles_turned : (frames : List Frame) → HandlesStandOnce frames → HandlesStandOnce (reverse frames)
handles_turned [] h = h
handles_turned (frame ∷ frames) h =
    subst (AllPairs (λ one other. one ≢ other)) (sym (turned_more frame frames))
    (pairs-append (λ one other. one ≢ other) (carried (reverse frames)) frame.handles (handles_turned frames (right_pairs frame.handles (carried frames) h)) (pairs-left (λ one other. one ≢ other) frame.handles (carried frames) h)
    (all_of (λ (x : ℕ). All (λ (y : ℕ). x ≢ y) frame.handles) (carried (reverse frames))
    (λ x there. all_of (λ (y : ℕ). x ≢ y) frame.handles (λ y here same. apart_from frame.handles (carried frames) y x h here (turned_there frames x there) (sym same)))))

-- ---- the law

pub answers_told : Below → AnswersAreTold
answers_told below start journal frames s made keeps none endpoint =
    ap (λ (j : Journal). written_on start j endpoint) (sym made.makes)
    ∙ all_told below start made.steps endpoint s (steps_agree below start made.steps s made.can keeps')
    (ap (λ (j : Journal). waiting (history_of start j)) made.makes ∙ none)
    ∙ ap (λ (fs : List Frame). (table_of start fs).told endpoint) made.frames_are where
      keeps' : StepsKeepPremises start made.steps
      keeps' = record {
        changes = subst ChangeNothing (sym made.frames_are) (all_turned (λ f. f.kind ≡ kind.Message → ¬ (Changes f.bytes f.handles)) (sending_frames frames) keeps.changes);
        handles = subst HandlesStandOnce (sym made.frames_are) (handles_turned (sending_frames frames) keeps.handles);
        limits = subst (λ (j : Journal). MeetsNoLimit (frames_behind start j)) (sym made.makes) keeps.limits;
      }

pub sessions_told : Below → SessionsAreTold
sessions_told below start by frames s all keeps = answers_told below start (ended start by frames) frames s (sessions_made start by frames all).1 keeps (sessions_serve_all below start by frames s all).none

-- ---- each lawful journal

admitted_reaches : (start : Start) (journal : Journal) (frames : List Frame) (frame : Frame) → Reaches start journal frames → IsFrame ToServers frame → CanArrive start journal frame frame.kind →
    (o : Option Refusal) → admission (look_ups start (history_of start journal)) frame ≡ o → Reaches start (by_refusal start journal frame o) (with_sending frame.kind frame frames)
admitted_reaches start journal frames frame r is can o e =
    subst (λ (x : Option Refusal). Reaches start (by_refusal start journal frame x) (with_sending frame.kind frame frames)) e (arrival_reaches start journal frames frame r is can)

-- the frames of its steps
pub record IsReached (start : Start) (journal : Journal) : Type 0 where
  pub frames : List Frame
  pub reaches : Reaches start journal frames

refusable : (start : Start) (journal : Journal) (frame : Frame) (why : Refusal) → admission (look_ups start (history_of start journal)) frame ≡ Some why → (k : FrameKind) → CanArrive start journal frame k
refusable start journal frame why e kind.Message = tt
refusable start journal frame why e kind.Close = tt
refusable start journal frame why e kind.Turn = (why, e)
refusable start journal frame why e kind.Pick = (why, e)
refusable start journal frame why e kind.Refused = (why, e)

lawful_reaches : (start : Start) (journal : Journal) → Lawful start journal → IsReached start journal
unfolding journal_of
lawful_reaches start journal lawful.begun = record { frames = []; reaches = record { steps = []; can = tt; makes = refl; frames_are = refl } }
lawful_reaches start journal (lawful.refused earlier frame why h is e) =
    let old = lawful_reaches start earlier h in
    record { frames = with_sending frame.kind frame old.frames; reaches = admitted_reaches start earlier old.frames frame old.reaches is (refusable start earlier frame why e frame.kind) (Some why) e }
lawful_reaches start journal (lawful.sent earlier frame h is k none) =
    let old = lawful_reaches start earlier h in
    record {
      frames = with_sending frame.kind frame old.frames;
      reaches =
          subst (λ (x : FrameKind). Reaches start (admitted start earlier x frame) (with_sending frame.kind frame old.frames)) k
          (admitted_reaches start earlier old.frames frame old.reaches is (subst (CanArrive start earlier frame) (sym k) tt) None none);
    }
lawful_reaches start journal (lawful.closed earlier frame h is k none) =
    let old = lawful_reaches start earlier h in
    record {
      frames = with_sending frame.kind frame old.frames;
      reaches =
          subst (λ (x : FrameKind). Reaches start (admitted start earlier x frame) (with_sending frame.kind frame old.frames)) k
          (admitted_reaches start earlier old.frames frame old.reaches is (subst (CanArrive start earlier frame) (sym k) tt) None none);
    }
lawful_reaches start journal (lawful.served earlier one h first) =
    let old = lawful_reaches start earlier h in
    record { frames = old.frames; reaches = service_reaches start earlier old.frames one old.reaches first }

all_sending : (steps : List Step) → All (λ frame. is_sending frame.kind ≡ true) (frames_in steps)
all_sending [] = All-nil (λ frame. is_sending frame.kind ≡ true)
all_sending (service one ∷ steps) = all_sending steps
all_sending (arrival frame ∷ steps) = by_kind (is_sending frame.kind) refl (all_sending steps) where
  by_kind : (b : Bool) → is_sending frame.kind ≡ b → All (λ (f : Frame). is_sending f.kind ≡ true) (frames_in steps) → All (λ (f : Frame). is_sending f.kind ≡ true) (if b then frame ∷ frames_in steps else frames_in steps)
  by_kind true e rest = All-cons (λ (f : Frame). is_sending f.kind ≡ true) frame (frames_in steps) e rest
  by_kind false e rest = rest

pub journals_made : JournalsAreOfFrames
journals_made start journal h =
    let r = (lawful_reaches start journal h).reaches in
    let frames = frames_in r.steps in
    record {
      frames = reverse frames;
      made = record {
        steps = r.steps;
        can = r.can;
        makes = r.makes;
        frames_are = sym (ap reverse (all_kept (λ (f : Frame). is_sending f.kind) (reverse frames) (all_turned (λ f. is_sending f.kind ≡ true) frames (all_sending r.steps))) ∙ reverse-reverse frames);
      };
    }

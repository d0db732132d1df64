-- The induction over the steps of a journal.
use Rattle.std.proofs.Common.{◌≡◌, List, [], ◌∷◌, Option, Some, None, refl, sym, ◌∙◌}
use Rattle.link_admission.specs.Admission.{admission}
use Rattle.link_frames.specs.declared.kinds.FrameKind.{FrameKind}
use Rattle.link_frames.specs.declared.kinds.FrameKind.TheVariants as kind
use Rattle.link_frames.specs.declared.kinds.Refusal.{Refusal}
use Rattle.link_frames.specs.declared.kinds.Side.TheVariants.{ToServers}
use Rattle.link_frames.specs.Frames.{Frame, IsFrame}
use Rattle.vfs_journal.specs.Entries.{Journal, Sent, hang_up, message, refuses, sends}
use Rattle.vfs_journal.specs.Lawful.{Lawful}
use Rattle.vfs_journal.specs.Past.{history_of}
use Rattle.vfs_journal.specs.Session.{admitted, after_serving, by_refusal, head, look_ups, sent_behind}
use Rattle.vfs_journal.specs.Starts.{Start}
use Rattle.turn_law.specs.Steps.{AreSteps, CanArrive, Step, arrival, frames_in, journal_of, service}
use Rattle.turn_law.proofs.StepsMade.{steps_lawful, with_sending}

-- what holds of no journal, and goes on behind each step
pub record StepsGoOn (start : Start) (P : Journal → List Frame → Type 0) : Type 0 where
  pub begins : P [] []
  pub refuses_on : (journal : Journal) (frames : List Frame) (frame : Frame) (why : Refusal) → Lawful start journal → IsFrame ToServers frame →
      admission (look_ups start (history_of start journal)) frame ≡ Some why → P journal frames → P (refuses frame.endpoint why ∷ journal) (with_sending frame.kind frame frames)
  pub messages_on : (journal : Journal) (frames : List Frame) (frame : Frame) → Lawful start journal → IsFrame ToServers frame → frame.kind ≡ kind.Message →
      admission (look_ups start (history_of start journal)) frame ≡ None → P journal frames → P (sends (sent_behind journal frame.endpoint (message frame.bytes frame.handles) None) ∷ journal) (frame ∷ frames)
  pub closes_on : (journal : Journal) (frames : List Frame) (frame : Frame) → Lawful start journal → IsFrame ToServers frame → frame.kind ≡ kind.Close →
      admission (look_ups start (history_of start journal)) frame ≡ None → P journal frames → P (sends (sent_behind journal frame.endpoint hang_up None) ∷ journal) (frame ∷ frames)
  pub serves_on : (journal : Journal) (frames : List Frame) (one : Sent) → Lawful start journal → head start (history_of start journal) one.endpoint ≡ Some one → P journal frames → P (after_serving start journal one) frames

admitted_on : (start : Start) (P : Journal → List Frame → Type 0) → StepsGoOn start P → (journal : Journal) (frames : List Frame) (frame : Frame) → Lawful start journal → IsFrame ToServers frame →
    admission (look_ups start (history_of start journal)) frame ≡ None → P journal frames → (k : FrameKind) → frame.kind ≡ k → CanArrive start journal frame k → P (admitted start journal k frame) (with_sending k frame frames)
admitted_on start P on journal frames frame lawful is none h kind.Message e can = on.messages_on journal frames frame lawful is e none h
admitted_on start P on journal frames frame lawful is none h kind.Close e can = on.closes_on journal frames frame lawful is e none h
admitted_on start P on journal frames frame lawful is none h kind.Turn e (why, refused) = absurd (let wrong : Some why ≡ None = sym refused ∙ none in cc)
admitted_on start P on journal frames frame lawful is none h kind.Pick e (why, refused) = absurd (let wrong : Some why ≡ None = sym refused ∙ none in cc)
admitted_on start P on journal frames frame lawful is none h kind.Refused e (why, refused) = absurd (let wrong : Some why ≡ None = sym refused ∙ none in cc)

arrived_on : (start : Start) (P : Journal → List Frame → Type 0) → StepsGoOn start P → (journal : Journal) (frames : List Frame) (frame : Frame) → Lawful start journal → IsFrame ToServers frame →
    CanArrive start journal frame frame.kind → P journal frames → (o : Option Refusal) → admission (look_ups start (history_of start journal)) frame ≡ o → P (by_refusal start journal frame o) (with_sending frame.kind frame frames)
arrived_on start P on journal frames frame lawful is can h (Some why) e = on.refuses_on journal frames frame why lawful is e h
arrived_on start P on journal frames frame lawful is can h None e = admitted_on start P on journal frames frame lawful is e h frame.kind refl can

pub by_steps : (start : Start) (P : Journal → List Frame → Type 0) → StepsGoOn start P → (steps : List Step) → AreSteps start steps → P (journal_of start steps) (frames_in steps)
unfolding journal_of
by_steps start P on [] can = on.begins
by_steps start P on (arrival frame ∷ steps) can =
    let journal = journal_of start steps in
    arrived_on start P on journal (frames_in steps) frame (steps_lawful start steps can.1) can.0.0 can.0.1 (by_steps start P on steps can.1) (admission (look_ups start (history_of start journal)) frame) refl
by_steps start P on (service one ∷ steps) can = on.serves_on (journal_of start steps) (frames_in steps) one (steps_lawful start steps can.1) can.0 (by_steps start P on steps can.1)

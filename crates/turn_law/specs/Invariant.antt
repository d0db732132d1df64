-- The invariant of the one induction over steps: what a journal is, endpoint by endpoint, beside the table of the frames that made it.
--
-- The table runs ahead of the journal: it answers each frame as it comes, while in the journal it waits. So the journal is compared with the
-- table before the frame that waits first, endpoint by endpoint. Of an endpoint, a frame counts that can be heard as far as frames say: it
-- stands behind the frame that carries the endpoint, and before a Close. In steps that keep the premises
--  - what waits on a bound endpoint are the last frames that count there, in order, and before them it has the life and was told the messages
--    that the journal says (`IsAsTold`);
--  - on an endpoint that travels all that counts waits, and nothing was written. Its carrier is the frame that carries it, which counts and is
--    served by the same rule, or the rest of an Open that was heard: what is sent on the end of a mount now makes of the endpoint what the
--    whole Open made of it (`TravelsAs`);
--  - any other endpoint has no life now, and was told what was written on it; nothing more can be heard on it, for whatever carried it is past
--    (`IsGone`).
-- Behind a drain nothing waits and nothing travels, so each endpoint was told what the table says.
use Rattle.std.specs.Prelude.{◌≡◌, ◌==◌, true, false, ℕ, List, [], ◌∷◌, ◌++◌, filter, length, map, Option, Some, None}
use Rattle.fidl_names.specs.HandleNumber.{is_client}
use Rattle.link_frames.specs.Frames.{Frame}
use Rattle.link_admission.specs.Numbering.{among}
use Rattle.conn_rules.specs.Births.{Position}
use Rattle.vfs_journal.specs.Entries.{Journal, Sending, Sent}
use Rattle.vfs_journal.specs.History.{History, bound_at, is_live, position_of, waiting}
use Rattle.vfs_journal.specs.Output.{frames_behind}
use Rattle.vfs_journal.specs.Past.{history_of}
use Rattle.vfs_journal.specs.Serving.{outcome_of, outcome_of_sending}
use Rattle.vfs_journal.specs.Session.{after_serving}
use Rattle.vfs_journal.specs.Starts.{Bound, Start}
use Rattle.journal_laws.specs.Soundness.{Carries, IsStart}
use Rattle.turn_law.specs.Counting.{KeepPremises, before, counting, counts_on, last_sendings, sendings_in}
use Rattle.turn_law.specs.Steps.{AreSteps, Step, arrival, frames_in, journal_of, past_of, service}
use Rattle.turn_law.specs.Tables.{SaySame}
use Rattle.turn_law.specs.Told.{is_heard, messages_on, sending_by, sent_on, still, table_at_start, table_of}

-- ---- in the journal

-- what waits on an endpoint, in order of sending
abbrev pub queue_on : History → ℕ → List Sent
queue_on history endpoint = filter (λ sent. sent.endpoint == endpoint) (waiting history)

-- what these send
abbrev pub sendings_of : List Sent → List Sending
sendings_of ones = map (λ one. one.sending) ones

-- the messages that were written on an endpoint
abbrev pub written_on : Start → Journal → ℕ → List Frame
written_on start journal endpoint = messages_on endpoint (frames_behind start journal)

-- ---- the invariant, of one endpoint

-- who is bound, with what waits there, the position and what was written, is as frames tell
pub record IsAsTold (start : Start) (frames : List Frame) (bound : Bound) (queue : List Sent) (position : Position)
    (written : List Frame) : Type 0 where
  pub waits : sendings_of queue ≡ last_sendings start bound.endpoint (length queue) frames
  pub life : (table_of start (before start bound.endpoint (length queue) frames)).life bound.endpoint ≡ Some (bound, position)
  pub told : (table_of start (before start bound.endpoint (length queue) frames)).told bound.endpoint ≡ written

-- an endpoint that is bound
abbrev pub IsBoundAs : Start → Journal → List Frame → Bound → Type 0
IsBoundAs start journal frames bound =
    IsAsTold start frames bound (queue_on (history_of start journal) bound.endpoint) (position_of (history_of start journal) bound.endpoint)
    (written_on start journal bound.endpoint)

-- what waits is what a frame sent, which counts
pub record IsOfFrame (start : Start) (frame : Frame) (earlier : List Frame) (one : Sent) : Type 0 where
  pub on : frame.endpoint ≡ one.endpoint
  pub sends : sending_by frame.kind frame ≡ Some one.sending
  pub counts : counts_on start frame.endpoint earlier frame ≡ true

-- what waits on the end of a mount is the rest of an Open that was heard: it makes of the endpoint that it carries what that made of it
pub record IsRestOf (start : Start) (endpoint : ℕ) (frame : Frame) (earlier : List Frame) (one : Sent) : Type 0 where
  pub heard : is_heard start (table_of start earlier) frame ≡ true
  pub rest : SaySame endpoint (sent_on start one.endpoint one.sending (table_at_start start)) (table_of start (frame ∷ earlier))

abbrev pub Comes : Start → ℕ → Frame → List Frame → Sent → Option ℕ → Type 0
Comes start endpoint frame earlier one None = IsOfFrame start frame earlier one
Comes start endpoint frame earlier one (Some origin) = IsRestOf start endpoint frame earlier one

-- an endpoint that an entry carries
pub record TravelsAs (start : Start) (journal : Journal) (frames : List Frame) (endpoint : ℕ) (one : Sent) : Type 0 where
  pub queue : sendings_of (queue_on (history_of start journal) endpoint) ≡ sendings_in (counting start endpoint frames)
  pub silent : written_on start journal endpoint ≡ []
  pub later : List Frame
  pub frame : Frame
  pub earlier : List Frame
  pub split : frames ≡ later ++ frame ∷ earlier
  pub carries : among endpoint frame.handles ≡ true
  pub comes : Comes start endpoint frame earlier one one.origin

-- any other
pub record IsGone (start : Start) (journal : Journal) (frames : List Frame) (endpoint : ℕ) : Type 0 where
  pub ended : (table_of start frames).life endpoint ≡ None
  pub told : (table_of start frames).told endpoint ≡ written_on start journal endpoint

pub record AgreesOn (start : Start) (journal : Journal) (frames : List Frame) (endpoint : ℕ) : Type 0 where
  pub bound : (bound : Bound) → bound_at start (history_of start journal) endpoint ≡ Some bound → IsBoundAs start journal frames bound
  pub travels : (one : Sent) → Carries (history_of start journal) one endpoint → TravelsAs start journal frames endpoint one
  pub gone : is_live start (history_of start journal) endpoint ≡ false → IsGone start journal frames endpoint

-- ---- and of all steps

-- each client's endpoint agrees with the table, and on the ends of mounts nothing is written
pub record Agrees (start : Start) (steps : List Step) : Type 0 where
  pub clients : (endpoint : ℕ) → is_client endpoint ≡ true → AgreesOn start (journal_of start steps) (frames_in steps) endpoint
  pub ends : (endpoint : ℕ) → is_client endpoint ≡ false → written_on start (journal_of start steps) endpoint ≡ []

-- ---- laws

-- the premises of the law, of steps
abbrev pub StepsKeepPremises : Start → List Step → Type 0
StepsKeepPremises start steps = KeepPremises start (journal_of start steps) (frames_in steps)

-- at the beginning all agree
abbrev pub BeginningsAgree : Type 0
BeginningsAgree = (start : Start) → IsStart start → Agrees start []

-- and they do so behind each frame that arrives
abbrev pub ArrivalsAgree : Type 0
ArrivalsAgree =
    (start : Start) (steps : List Step) (frame : Frame) → IsStart start → AreSteps start (arrival frame ∷ steps) →
    StepsKeepPremises start (arrival frame ∷ steps) → Agrees start steps → Agrees start (arrival frame ∷ steps)

-- where they agree and nothing waits, what was written on each endpoint is what it is told
abbrev pub WhereNothingWaitsAllIsTold : Type 0
WhereNothingWaitsAllIsTold =
    (start : Start) (steps : List Step) (endpoint : ℕ) → IsStart start → Agrees start steps → waiting (past_of start steps) ≡ [] →
    written_on start (journal_of start steps) endpoint ≡ (table_of start (frames_in steps)).told endpoint

-- a serving is answered as in a moment of the table, and on each endpoint the messages of the answer are what is written
pub record IsAnsweredStill (start : Start) (journal : Journal) (one : Sent) (bound : Bound) : Type 0 where
  pub outcome : outcome_of start (history_of start journal) one
      ≡ outcome_of_sending (still start (bound, position_of (history_of start journal) bound.endpoint)) one.sending
  pub written : (endpoint : ℕ) → written_on start (after_serving start journal one) endpoint
      ≡ written_on start journal endpoint ++ messages_on endpoint (outcome_of start (history_of start journal) one).frames

abbrev pub ServingsAreAnsweredStill : Type 0
ServingsAreAnsweredStill =
    (start : Start) (steps : List Step) (one : Sent) (bound : Bound) → IsStart start → AreSteps start (service one ∷ steps) →
    StepsKeepPremises start (service one ∷ steps) →
    bound_at start (past_of start steps) one.endpoint ≡ Some bound → IsAnsweredStill start (journal_of start steps) one bound

-- and behind each serving
abbrev pub ServingsAgree : Type 0
ServingsAgree =
    (start : Start) (steps : List Step) (one : Sent) → IsStart start →
    AreSteps start (service one ∷ steps) → StepsKeepPremises start (service one ∷ steps) →
    Agrees start steps → Agrees start (service one ∷ steps)

-- so they do behind all steps
abbrev pub StepsAgree : Type 0
StepsAgree =
    (start : Start) (steps : List Step) → IsStart start → AreSteps start steps →
    StepsKeepPremises start steps → Agrees start steps

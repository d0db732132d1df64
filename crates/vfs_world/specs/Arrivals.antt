-- Words of the steps of a frame. No public clause needs these.
use Rattle.std.specs.Prelude.{◌≡◌, ◌⊎◌, ◌≤◌, ◌<◌, ◌+◌, ℕ, true, IsSome, List, [], ◌∷◌, ◌++◌, None, Ok, OnOk, Option, Result, Some, slice_get, slice_set}
use Rattle.fidl_names.specs.declared.limits.TheConstants as limit
use Rattle.fidl_names.specs.HandleNumber.{is_client}
use Rattle.link_admission.specs.Admission.{Admits, admission, look_ups}
use Rattle.link_frames.specs.Frames.{Frame}
use Rattle.link_frames.specs.declared.kinds.FrameKind.{FrameKind}
use Rattle.link_frames.specs.declared.kinds.FrameKind.TheVariants as kind
use Rattle.vfs_journal.specs.Entries.{Journal, Sending, message}
use Rattle.vfs_journal.specs.History.{waiting}
use Rattle.vfs_journal.specs.Past.{history_of}
use Rattle.vfs_journal.specs.Serving.{Moment, outcome_of_sending}
use Rattle.vfs_journal.specs.Starts.{Start}
use Rattle.message_queues.specs.Queues.{IsAbove, Requeues, count, queue_of, server_of}
use Rattle.vfs_server.specs.declared.fate.Fate.TheVariants as fates
use Rattle.vfs_server.specs.Servers.{Server, seen}
use Rattle.vfs_server.specs.Serving.{IsMomentOf, Serves}
use Rattle.io_messages.specs.declared.protocols.Protocol.TheVariants as protocol
use Rattle.io_messages.specs.Asked.{Asked}
use Rattle.io_messages.specs.Requests.{request_of}
use Rattle.vfs_world.specs.Running.{IsRunning}
use Rattle.vfs_world.specs.Servings.{IsOldestOfAll, ServesTimes}
use Rattle.vfs_world.specs.World.{LeadsTo, StandsFor, World}

-- a frame is admitted: what is known is as its admission leaves it, and all else is as it was
pub record IsAdmitted (old : World) (frame : Frame) (new : World) : Type 0 where
  pub none : admission (look_ups old.known) frame ≡ None
  pub admits : Admits old.known frame new.known
  pub same : new ≡ record old { known = new.known }

-- it is admitted in a world that runs
pub record Hears (most : ℕ) (frame : Frame) (world : World) : Type 0 where
  pub before : World
  pub running : IsRunning most before
  pub admitted : IsAdmitted before frame world

-- one more can wait: the next place is above those of all that wait, of which there are fewer than may wait
pub record CanWait (world : World) : Type 0 where
  pub newest : IsAbove world.queues world.places
  pub few : count world.queues < limit.MAX_WAITING
  pub low : world.places ≤ limit.MAX_PLACES

-- it waits behind all that waits on its endpoint, and takes a place
pub record WaitsLast (old : World) (endpoint : ℕ) (sending : Sending) (new : World) : Type 0 where
  pub queued : Requeues old.queues endpoint (queue_of old.queues endpoint ++ record { place = old.places; endpoint = endpoint; sending = sending; origin = None } ∷ []) new.queues
  pub same : new ≡ record old { queues = new.queues; places = old.places + 1 }

-- a frame sends something: a message, or that its client hung up
abbrev pub Sends : FrameKind → Type 0
Sends k = (k ≡ kind.Message) ⊎ (k ≡ kind.Close)

-- a frame sends something to an endpoint that is bound at this server, and nothing waits
pub record IsFree (frame : Frame) (server : ℕ) (world : World) : Type 0 where
  pub sends : Sends frame.kind
  pub bound : server_of world.queues frame.endpoint ≡ Some server
  pub none : count world.queues ≡ 0

-- a frame is a message without handles on a client's endpoint
pub record IsPlain (frame : Frame) : Type 0 where
  pub message : frame.kind ≡ kind.Message
  pub bare : frame.handles ≡ []
  pub client : is_client frame.endpoint ≡ true

-- ---- parts of files that are asked for

-- nothing waits, and a frame is a message without handles on a client's endpoint; no more endpoints live than may
pub record CanBeServed (frame : Frame) (world : World) : Type 0 where
  pub none : count world.queues ≡ 0
  pub few : world.known.live ≤ limit.MAX_LIVE
  pub plain : IsPlain frame

-- the request for a part of a file is served at a server, where the endpoint is bound, and no other server does anything
pub record AnswersPart (old : List Server) (at endpoint txid : ℕ) (a : Asked) (new : List Server) (before after : List ℕ) : Type 0 where
  pub one : Server
  pub there : slice_get old at ≡ Some one
  pub bound : IsSome (seen one endpoint)
  pub answers : (bytes : List ℕ) (token : Option ℕ) (moment : Moment) → request_of protocol.File bytes [] ≡ Ok (txid, a) → IsMomentOf one endpoint token [] moment →
      (now : Server) × (new ≡ slice_set old at now) × Serves moment (outcome_of_sending moment (message bytes [])) fates.Stays one now before after

-- what a call leads to on its way to a drain behind a journal: a world that stands for the journal, and from there servings of the oldest
-- entries of all
pub record Reaches (start : Start) (later : Journal) (new : World) (earlier : Journal) (before after : List ℕ) : Type 0 where
  pub there : World
  pub between : List ℕ
  pub leads : LeadsTo start later there earlier before between
  pub done : ℕ
  pub serves : ServesTimes IsOldestOfAll done there new between after

-- ---- where what is done leads, from whatever journal a world stood for

-- to standing for this one
abbrev pub LeadsOn : {A E : Type 0} → Result A E → World → (Start → Journal → Journal) → World → List ℕ → List ℕ → Type 0
LeadsOn result old later new before after =
    (start : Start) (journal : Journal) → StandsFor start old journal → OnOk result (LeadsTo start (later start journal) new journal before after)

-- to there on the way to a drain
abbrev pub ReachesOn : {A E : Type 0} → Result A E → World → (Start → Journal → Journal) → World → List ℕ → List ℕ → Type 0
ReachesOn result old later new before after =
    (start : Start) (journal : Journal) → StandsFor start old journal → OnOk result (Reaches start (later start journal) new journal before after)

-- to one in which nothing waits
abbrev pub LeavesNothing : {A E : Type 0} → Result A E → World → (Start → Journal → Journal) → Type 0
LeavesNothing result old later =
    (start : Start) (journal : Journal) → StandsFor start old journal → OnOk result (waiting (history_of start (later start journal)) ≡ [])

-- and it keeps running in those places of a frame more, from wherever this frame was admitted
abbrev pub RunsOnAdmitted : {A E : Type 0} → Result A E → Frame → World → World → Type 0
RunsOnAdmitted result frame old new =
    (most : ℕ) (before : World) → IsRunning most before → IsAdmitted before frame old → OnOk result (IsRunning (most + limit.FRAME_PLACES) new)

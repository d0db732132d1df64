-- Which frames can be heard as far as frames say, whatever they are answered; and that a journal's frames are admitted just there.
use Rattle.std.specs.Prelude.{◌≡◌, ◌==◌, ◌&&◌, ◌||◌, All, Bool, true, false, not, is_some, ℕ, zero, suc, List, [], ◌∷◌, filter_map, reverse, take, None, if◌then◌else◌}
use Rattle.std.specs.List.{list_all, list_any}
use Rattle.fidl_names.specs.HandleNumber.{is_client}
use Rattle.link_admission.specs.Admission.{admission}
use Rattle.link_frames.specs.declared.kinds.FrameKind.{FrameKind}
use Rattle.link_frames.specs.declared.kinds.FrameKind.TheVariants as kind
use Rattle.link_frames.specs.declared.kinds.Side.TheVariants.{ToServers}
use Rattle.link_frames.specs.Frames.{Frame, IsFrame}
use Rattle.link_admission.specs.Numbering.{among}
use Rattle.vfs_journal.specs.Entries.{Journal, Sending}
use Rattle.vfs_journal.specs.History.{History, hung_up, is_live, is_used}
use Rattle.vfs_journal.specs.Output.{frames_behind}
use Rattle.vfs_journal.specs.Session.{look_ups}
use Rattle.vfs_journal.specs.Starts.{Start}
use Rattle.journal_laws.specs.Soundness.{IsStart}
use Rattle.turn_law.specs.Premises.{ChangeNothing, HandlesStandOnce, MeetsNoLimit}
use Rattle.turn_law.specs.Steps.{AreSteps, Step, arrival, frames_in, is_sending, journal_of, past_of}
use Rattle.turn_law.specs.Told.{is_heard, is_new, sending_by, table_of}

-- ---- what counts, as far as frames say

abbrev pub is_close : FrameKind → Bool
is_close kind.Close = true
is_close _ = false

-- frames count on an endpoint behind these, of which the newest stands first: it is a first connection, or one of them carries it, and no
-- Close counted on it
unfoldable pub is_open : Start → ℕ → List Frame → Bool
is_open start endpoint [] = list_any (λ bound. bound.endpoint == endpoint) start.firsts
is_open start endpoint (frame ∷ earlier) =
    (among endpoint frame.handles && is_new start endpoint)
    || (is_open start endpoint earlier && not (is_close frame.kind && (frame.endpoint == endpoint)))

-- a frame counts on an endpoint behind earlier ones
abbrev pub counts_on : Start → ℕ → List Frame → Frame → Bool
counts_on start endpoint earlier frame =
    (frame.endpoint == endpoint) && (is_open start endpoint earlier && list_all (is_new start) frame.handles)

-- the frames that count on an endpoint, the newest first
unfoldable pub counting : Start → ℕ → List Frame → List Frame
counting start endpoint [] = []
counting start endpoint (frame ∷ earlier) =
    if counts_on start endpoint earlier frame then frame ∷ counting start endpoint earlier else counting start endpoint earlier

-- the frames before the last so many that count on an endpoint; all of them for none
unfoldable pub before : Start → ℕ → ℕ → List Frame → List Frame
before start endpoint zero frames = frames
before start endpoint (suc ahead) [] = []
before start endpoint (suc ahead) (frame ∷ earlier) =
    if counts_on start endpoint earlier frame then before start endpoint ahead earlier else before start endpoint (suc ahead) earlier

-- what frames send, of which the newest stands first, in their order
abbrev pub sendings_in : List Frame → List Sending
sendings_in frames = filter_map (λ frame. sending_by frame.kind frame) (reverse frames)

-- what the last so many send, in their order
abbrev pub last_sendings : Start → ℕ → ℕ → List Frame → List Sending
last_sendings start endpoint ahead frames = sendings_in (take ahead (counting start endpoint frames))

-- ---- laws

-- the premises, of a journal and the frames that made it
pub record KeepPremises (start : Start) (journal : Journal) (frames : List Frame) : Type 0 where
  pub changes : ChangeNothing frames
  pub handles : HandlesStandOnce frames
  pub limits : MeetsNoLimit (frames_behind start journal)

-- a first connection, or a number that a frame carried
abbrev pub is_named : Start → List Frame → ℕ → Bool
is_named start frames number =
    list_any (λ bound. bound.endpoint == number) start.firsts || list_any (λ frame. among number frame.handles) frames

-- frames count on a client's endpoint that is live where nobody hung up on it, and what was used was named
pub record AreLinked (start : Start) (history : History) (frames : List Frame) : Type 0 where
  pub opens : (endpoint : ℕ) → is_client endpoint ≡ true → is_live start history endpoint ≡ true →
      is_open start endpoint frames ≡ not (hung_up history endpoint)
  pub named : (number : ℕ) → is_used start history number ≡ true → is_named start frames number ≡ true

abbrev pub FramesAreLinked : Type 0
FramesAreLinked =
    (start : Start) (steps : List Step) → IsStart start → AreSteps start steps →
    KeepPremises start (journal_of start steps) (frames_in steps) → AreLinked start (past_of start steps) (frames_in steps)

-- a frame is admitted where its endpoint is live and it counts there
pub record IsAdmittedJustThere (start : Start) (steps : List Step) (frame : Frame) : Type 0 where
  pub only : admission (look_ups start (past_of start steps)) frame ≡ None →
      (is_live start (past_of start steps) frame.endpoint ≡ true) × (counts_on start frame.endpoint (frames_in steps) frame ≡ true)
  pub there : is_live start (past_of start steps) frame.endpoint ≡ true →
      counts_on start frame.endpoint (frames_in steps) frame ≡ true →
      admission (look_ups start (past_of start steps)) frame ≡ None

-- what doesn't count is refused; and what counts is refused only where its endpoint is dead, or was carried by what was refused
abbrev pub FramesThatCountAreAdmitted : Type 0
FramesThatCountAreAdmitted =
    (start : Start) (steps : List Step) (frame : Frame) → IsStart start → AreSteps start (arrival frame ∷ steps) →
    is_sending frame.kind ≡ true →
    KeepPremises start (journal_of start (arrival frame ∷ steps)) (frames_in (arrival frame ∷ steps)) →
    IsAdmittedJustThere start steps frame

-- a frame is heard where its endpoint has a life, and the frame counts there
abbrev pub FramesAreHeardWhereTheyCount : Type 0
FramesAreHeardWhereTheyCount =
    (start : Start) (frame : Frame) (earlier : List Frame) → IsStart start → All (IsFrame ToServers) (frame ∷ earlier) →
    is_heard start (table_of start earlier) frame
    ≡ (is_some ((table_of start earlier).life frame.endpoint) && counts_on start frame.endpoint earlier frame)

-- What records say of a run: the journal that was made, what went out, and where each record may stand.
use Rattle.std.specs.Prelude.{◌≡◌, ℕ, All, List, [], ◌∷◌, ◌++◌, Some, fold}
use Rattle.std.specs.List.{flat_map}
use Rattle.link_frames.specs.Frames.{Frame}
use Rattle.vfs_journal.specs.Entries.{Journal, Sent}
use Rattle.vfs_journal.specs.History.{waiting}
use Rattle.vfs_journal.specs.Output.{frames_behind}
use Rattle.vfs_journal.specs.Past.{history_of}
use Rattle.vfs_journal.specs.Session.{arrives, head, picked}
use Rattle.vfs_journal.specs.Starts.{Start}
use Rattle.link_audit.specs.Records.{GoesOn, IsRecord, Record, comes_in, ends, goes_out, served, spellings_of}

-- the journal behind a record: a frame that came in was sent or refused, and the first entry of an endpoint that was served is served
abbrev pub behind_record : Start → Journal → Record → Journal
behind_record start journal (comes_in frame) = arrives start journal frame
behind_record start journal (served endpoint) = picked start endpoint journal
behind_record start journal (goes_out frame) = journal
behind_record start journal ends = journal

-- the journal that records make, in order
abbrev pub journal_of : Start → List Record → Journal
journal_of start records = fold (behind_record start) [] records

abbrev pub out_of : Record → List Frame
out_of (goes_out frame) = frame ∷ []
out_of _ = []

-- the frames that went out
abbrev pub outs : List Record → List Frame
outs records = flat_map out_of records

-- all that the journal so far stands for went out, and nothing else
abbrev pub IsAllOut : Start → List Record → Type 0
IsAllOut start before = outs before ≡ frames_behind start (journal_of start before)

-- this frame is the next that is to go out
abbrev pub IsNext : Start → List Record → Frame → Type 0
IsNext start before frame = (later : List Frame) × (frames_behind start (journal_of start before) ≡ outs before ++ frame ∷ later)

-- something on this endpoint can be served
abbrev pub CanServe : Start → List Record → ℕ → Type 0
CanServe start before endpoint = (sent : Sent) × (head start (history_of start (journal_of start before)) endpoint ≡ Some sent)

abbrev pub NothingWaits : Start → List Record → Type 0
NothingWaits start before = waiting (history_of start (journal_of start before)) ≡ []

-- a record may stand behind these
abbrev pub MayStand : Start → List Record → Record → Type 0
MayStand start before (comes_in frame) = IsAllOut start before
MayStand start before (served endpoint) = IsAllOut start before × CanServe start before endpoint
MayStand start before (goes_out frame) = IsNext start before frame
MayStand start before ends = IsAllOut start before × NothingWaits start before

-- so each of these records behind those before it
abbrev pub EachStands : Start → List Record → Type 0
EachStands start records = (before later : List Record) (one : Record) → records ≡ before ++ one ∷ later → MayStand start before one

-- the bytes of a recording are these records, the last is its end and no other, and each may stand where it does
pub record IsLawful (start : Start) (recording : List ℕ) (records : List Record) : Type 0 where
  pub before : List Record
  pub ended : records ≡ before ++ ends ∷ []
  pub going : All GoesOn before
  pub sound : All IsRecord records
  pub spelled : recording ≡ spellings_of records
  pub stands : EachStands start records

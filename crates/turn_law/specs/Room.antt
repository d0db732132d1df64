-- What is in use at a server shows in no answer but a refusal for want of room.
use Rattle.std.specs.Prelude.{◌≡◌, ◌⊎◌, Contains, List}
use Rattle.link_frames.specs.Frames.{Frame}
use Rattle.vfs_journal.specs.Entries.{Sending}
use Rattle.vfs_journal.specs.History.{tree_at}
use Rattle.vfs_journal.specs.Serving.{Moment, outcome_of_sending}
use Rattle.vfs_journal.specs.Starts.{Start}
use Rattle.turn_law.specs.Premises.{TellsLimit}
use Rattle.turn_law.specs.Quiet.{IsQuiet}
use Rattle.turn_law.specs.Told.{still}

-- one of the frames tells of a limit
pub record TellOfLimit (frames : List Frame) : Type 0 where
  pub frame : Frame
  pub there : Contains frames frame
  pub tells : TellsLimit frame

-- a quiet sending is answered as in a moment with the start's tree and nothing in use, or its answer tells of a limit
abbrev pub AnswersAreStill : Type 0
AnswersAreStill =
    (start : Start) (moment : Moment) (sending : Sending) → moment.tree ≡ tree_at start.trees moment.bound.server → IsQuiet sending →
    (outcome_of_sending moment sending ≡ outcome_of_sending (still start (moment.bound, moment.position)) sending)
    ⊎ TellOfLimit (outcome_of_sending moment sending).frames

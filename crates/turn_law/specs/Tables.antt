-- What a frame changes in the table.
use Rattle.std.specs.Prelude.{◌≡◌, ◌≢◌, ℕ, true, false, List, ◌∷◌}
use Rattle.fidl_names.specs.HandleNumber.{is_client}
use Rattle.link_frames.specs.Frames.{Frame}
use Rattle.link_admission.specs.Numbering.{among}
use Rattle.vfs_journal.specs.Starts.{Start}
use Rattle.turn_law.specs.Told.{Table, table_of}

-- these say the same of an endpoint
pub record SaySame (endpoint : ℕ) (one other : Table) : Type 0 where
  pub life : one.life endpoint ≡ other.life endpoint
  pub told : one.told endpoint ≡ other.told endpoint

-- a frame changes nothing of a client's endpoint that it neither is sent on nor carries
abbrev pub FramesTouchTheirOwn : Type 0
FramesTouchTheirOwn =
    (start : Start) (frame : Frame) (earlier : List Frame) (endpoint : ℕ) → is_client endpoint ≡ true →
    frame.endpoint ≢ endpoint → among endpoint frame.handles ≡ false →
    SaySame endpoint (table_of start (frame ∷ earlier)) (table_of start earlier)

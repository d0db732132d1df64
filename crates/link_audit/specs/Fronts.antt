-- What a lent record stands for, and what is read in front of some bytes.
use Rattle.std.specs.Prelude.{◌≡◌, ◌≤◌, ◌<◌, ℕ, List, length, drop}
use Rattle.link_frames.specs.Frames.{spelling}
use Rattle.link_frames.specs.Views.{frame_of}
use Rattle.link_audit.specs.Records.{InFront, Record, comes_in, ends, goes_out, served}
use Rattle.link_audit.specs.declared.records.Front.{Front}
use Rattle.link_audit.specs.declared.records.Record.{Record as Lent}
use Rattle.link_audit.specs.declared.records.Record.TheVariants as lent

-- the record without where it lies
abbrev pub record_of : Lent → Record
record_of (lent.In frame) = comes_in (frame_of frame)
record_of (lent.Served endpoint) = served endpoint
record_of (lent.Out frame spelled) = goes_out (frame_of frame)
record_of lent.End = ends

-- a frame that went out lies there as it is spelled
abbrev pub LiesSpelled : Lent → Type 0
LiesSpelled (lent.Out frame spelled) = spelled.now ≡ spelling (frame_of frame)
LiesSpelled _ = Unit {0}

-- this record stands in front of these bytes, and takes so many of them
pub record Shows (bytes : List ℕ) (front : Front) : Type 0 where
  pub stands : InFront bytes (record_of front.one) (drop front.size bytes)
  pub spelled : LiesSpelled front.one
  pub some : 0 < front.size
  pub within : front.size ≤ length bytes

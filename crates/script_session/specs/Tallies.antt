-- A tally of frames that is kept while they come.
use Rattle.std.specs.Prelude.{◌≡◌, List, length}
use Rattle.link_frames.specs.Frames.{Frame, spellings}
use Rattle.fidl_wire.specs.Names.{AreDistinct}
use Rattle.sha2.specs.Hashers.{Holds256}
use Rattle.vfs_journal.specs.Entries.{Journal}
use Rattle.vfs_journal.specs.Output.{frames_behind}
use Rattle.vfs_journal.specs.Starts.{Start}
use Rattle.vfs_world.specs.World.{StandsFor, World}
use Rattle.script_session.specs.declared.tally.Tally.{Tally}

-- these frames were counted, and their bytes hashed
pub record Tallies (all : List Frame) (tally : Tally) : Type 0 where
  pub frames : tally.frames ≡ length all
  pub bytes : tally.bytes ≡ length (spellings all)
  pub hash : Holds256 tally.hasher (spellings all)

-- a session whose frames so far are tallied
pub record Metered (start : Start) (journal : Journal) (world : World) (tally : Tally) : Type 0 where
  pub distinct : AreDistinct
  pub stands : StandsFor start world journal
  pub tallies : Tallies (frames_behind start journal) tally

-- The session over a tree: what is written for its frames, and which world stands behind them.
use Rattle.std.specs.Prelude.{List, true}
use Rattle.link_frames.specs.Frames.{Frame, spellings}
use Rattle.link_frames.specs.declared.kinds.Mode.{Mode}
use Rattle.vfs_journal.specs.Output.{frames_behind}
use Rattle.vfs_journal.specs.Session.{session, ended}
use Rattle.vfs_journal.specs.Starts.{Start}
use Rattle.vfs_world.specs.World.{World, StandsFor}
use Rattle.link_session.specs.Session.{Course}

-- what is written for the frames of a session so far, and with the last drain; memory may be
-- wanting for it
unfoldable pub tree_course : Start → Mode → Course
tree_course start by = record {
  so_far = λ frames. spellings (frames_behind start (session start by frames));
  by_end = λ frames. spellings (frames_behind start (ended start by frames));
  starves = true;
}

-- the world stands for the session of these frames
unfoldable pub StandsBehind : Start → Mode → World → List Frame → Type 0
StandsBehind start by world frames = StandsFor start world (session start by frames)

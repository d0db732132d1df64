-- Each frame as a line: what is written for the frames of a stream.
use Rattle.std.specs.Prelude.{ℕ, List, true}
use Rattle.std.specs.List.{flat_map}
use Rattle.link_frames.specs.Frames.{Frame}
use Rattle.vfs_script.specs.Transcripts.{frame_line}
use Rattle.link_session.specs.Session.{Course}

-- the lines of frames, one after another
abbrev pub lines_of : List Frame → List ℕ
lines_of frames = flat_map frame_line frames

-- each frame's line is written for it, and nothing at the end; memory may be wanting for it
unfoldable pub lines_course : Course
lines_course = record { so_far = lines_of; by_end = lines_of; starves = true }

-- What is told of the output of a script that is played.
use Rattle.std.specs.Prelude.{◌≡◌, ℕ, List, length}
use Rattle.link_frames.specs.declared.kinds.Mode.{Mode}
use Rattle.link_frames.specs.Frames.{Frame, spellings}
use Rattle.sha2.specs.Sha256.{sha256}
use Rattle.vfs_journal.specs.Session.{ended}
use Rattle.vfs_journal.specs.Starts.{Start}
use Rattle.vfs_script.specs.Scripts.{frames_of}
use Rattle.script_session.specs.declared.measuring.Measured.{Measured}
use Rattle.vfs_journal.specs.Output.{frames_behind}

-- the output frames of a script's text that is played to its end: those of the session that its
-- frames end
abbrev pub output_frames : Start → Mode → List ℕ → List Frame
output_frames start by text = frames_behind start (ended start by (frames_of text))

-- how many frames these are, how many bytes spell them, and the SHA-256 of those bytes
pub record Measures (all : List Frame) (measured : Measured) : Type 0 where
  pub frames : measured.frames ≡ length all
  pub bytes : measured.bytes ≡ length (spellings all)
  pub hash : measured.hash ≡ sha256 (spellings all)

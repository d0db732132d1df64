-- A script that is played over a start, line by line, and its transcript.
use Rattle.std.specs.Prelude.{ℕ, List, [], ◌∷◌, length, drop, fold}
use Rattle.link_frames.specs.declared.kinds.Mode.{Mode}
use Rattle.link_frames.specs.Frames.{Frame}
use Rattle.vfs_journal.specs.Entries.{Journal}
use Rattle.vfs_journal.specs.Output.{frames_behind}
use Rattle.vfs_journal.specs.Session.{drained, steps}
use Rattle.vfs_journal.specs.Starts.{Start}
use Rattle.vfs_script.specs.Scripts.{Spoken, call_in, frame_of, script_lines}
use Rattle.script_session.specs.Answering.{Past, sends}
use Rattle.script_session.specs.Transcript.{text_of, with_frames}

-- those that a later journal has more
abbrev pub frames_since : Start → Journal → Journal → List Frame
frames_since start earlier later = drop (length (frames_behind start earlier)) (frames_behind start later)

-- how far a script is played: the session's journal, and what happened by then
pub record Played : Type 0 where
  pub journal : Journal
  pub past : Past

abbrev pub not_yet : Played
not_yet = record { journal = []; past = [] }

-- a line is played: its frame is sent, and what is written for it comes back
abbrev pub play_line : Start → Mode → Played → Spoken → Played
play_line start by played said =
    let later = steps start by played.journal (frame_of said) in
    record { journal = later; past = with_frames (sends (call_in said) ∷ played.past) (frames_since start played.journal later) }

abbrev pub play_lines : Start → Mode → List Spoken → Played
play_lines start by lines = fold (play_line start by) not_yet lines

-- what is written for the last drain comes back
abbrev pub drain_played : Start → Played → Past
drain_played start played = with_frames played.past (frames_since start played.journal (drained start played.journal))

-- all that happens where a script is played: each line, and then the last drain
abbrev pub play_all : Start → Mode → List Spoken → Past
play_all start by lines = drain_played start (play_lines start by lines)

-- the transcript of a script's text
unfoldable pub transcript : Start → Mode → List ℕ → List ℕ
transcript start by text = text_of (play_all start by (script_lines text))

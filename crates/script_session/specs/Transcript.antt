-- The text of a transcript.
use Rattle.std.specs.Prelude.{ℕ, List, [], ◌∷◌, ◌++◌}
use Rattle.link_frames.specs.Frames.{Frame}
use Rattle.vfs_script.specs.Transcripts.{counts_line, frame_line}
use Rattle.script_session.specs.Answering.{Past, sends, gets, count_answers, count_calls}

-- frames come back, one after the other
abbrev pub with_frames : Past → List Frame → Past
with_frames past [] = past
with_frames past (frame ∷ frames) = with_frames (gets frame ∷ past) frames

-- the lines of the frames that came back, in order
abbrev pub lines_of : Past → List ℕ
lines_of [] = []
lines_of (sends call ∷ past) = lines_of past
lines_of (gets frame ∷ past) = lines_of past ++ frame_line frame

-- these lines, and then how many calls there were, and how many of them were answered
abbrev pub text_of : Past → List ℕ
text_of past = lines_of past ++ counts_line (count_calls past) (count_answers past)

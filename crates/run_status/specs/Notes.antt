-- What a status says: its exit number, and its note.
use Rattle.std.specs.Prelude.{ℕ, List, [], ◌++◌, codes, decimal}
use Rattle.link_frames.specs.declared.kinds.FrameReason.{FrameReason}
use Rattle.link_frames.specs.declared.kinds.FrameReason.TheVariants as reason
use Rattle.run_status.specs.declared.notes.Note.{Note}
use Rattle.run_status.specs.declared.notes.Note.TheVariants as note
use Rattle.run_status.specs.declared.statuses.Status.{Status}
use Rattle.run_status.specs.declared.statuses.Status.TheVariants as status
use Rattle.run_status.specs.declared.words.NoWords.{NoWords}
use Rattle.run_status.specs.declared.words.NoWords.TheVariants as words

abbrev pub exit_of : Status → ℕ
exit_of status.Done = 0
exit_of status.Usage = 1
exit_of (status.TreeRefused rule item) = 2
exit_of (status.ScriptRefused line) = 2
exit_of status.ReadFault = 3
exit_of status.WriteFault = 4
exit_of status.FileFault = 5
exit_of status.FileTooLarge = 5
exit_of status.InputTooLong = 8
exit_of (status.Collision first second) = 9
exit_of status.NoMemory = 10
exit_of (status.BadFrame at why) = 6
exit_of (status.Truncated at) = 7

-- the exit number of a process that has no words
abbrev pub exit_without : NoWords → ℕ
exit_without words.NotText = 12
exit_without words.NoMemory = 10

-- the word of a reason
abbrev pub word_of : FrameReason → List ℕ
word_of reason.Kind = codes "kind"
word_of reason.Zero = codes "zero"
word_of reason.Handles = codes "handles"
word_of reason.Bytes = codes "bytes"
word_of reason.Shape = codes "shape"

-- the note, with its line end; nothing where all was done
abbrev pub note_of : Status → List ℕ
note_of status.Done = []
note_of status.Usage = codes "usage: vfs file NAME | serve TREE auto | serve TREE given | run TREE SCRIPT | check TREE | show | make N\n"
note_of (status.TreeRefused rule item) = codes "tree refused: rule " ++ decimal rule ++ codes " item " ++ decimal item ++ codes "\n"
note_of (status.ScriptRefused line) = codes "script refused: line " ++ decimal line ++ codes "\n"
note_of status.ReadFault = codes "read failed\n"
note_of status.WriteFault = codes "write failed\n"
note_of status.FileFault = codes "file failed\n"
note_of status.FileTooLarge = codes "file too large\n"
note_of status.InputTooLong = codes "input too long\n"
note_of (status.Collision first second) = codes "ordinals collide: " ++ decimal first ++ codes " " ++ decimal second ++ codes "\n"
note_of status.NoMemory = codes "no memory\n"
note_of (status.BadFrame at why) = codes "bad frame at " ++ decimal at ++ codes ": " ++ word_of why ++ codes "\n"
note_of (status.Truncated at) = codes "input ends inside the frame at " ++ decimal at ++ codes "\n"

-- the line that a form of notes has
abbrev pub line_of : Note → List ℕ
line_of (note.Line text) = text.now
line_of (note.Number text number) = text.now ++ decimal number ++ codes "\n"
line_of (note.TwoNumbers text number between second) = text.now ++ decimal number ++ between.now ++ decimal second ++ codes "\n"
line_of (note.Reason at reason) = codes "bad frame at " ++ decimal at ++ codes ": " ++ word_of reason ++ codes "\n"

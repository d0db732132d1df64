-- What a status says: its exit number, and its note.
use Rattle.std.specs.Prelude.{ℕ, List, [], ◌++◌, codes, decimal}
use Rattle.run_status.specs.Notes.{word_of}
use Rattle.mirror_program.specs.declared.statuses.MirrorStatus.{MirrorStatus}
use Rattle.mirror_program.specs.declared.statuses.MirrorStatus.TheVariants as status

abbrev pub exit_of : MirrorStatus → ℕ
exit_of status.Done = 0
exit_of status.Usage = 1
exit_of status.ReadFault = 3
exit_of status.WriteFault = 4
exit_of (status.BadFrame at why) = 6
exit_of (status.BadEvents at) = 6
exit_of (status.Truncated at) = 7
exit_of status.InputTooLong = 8
exit_of status.NoMemory = 10

-- the note, with its line end; nothing where all was done
abbrev pub note_of : MirrorStatus → List ℕ
note_of status.Done = []
note_of status.Usage = codes "usage: mirror ENDPOINT\n"
note_of status.ReadFault = codes "read failed\n"
note_of status.WriteFault = codes "write failed\n"
note_of (status.BadFrame at why) = codes "bad frame at " ++ decimal at ++ codes ": " ++ word_of why ++ codes "\n"
note_of (status.BadEvents at) = codes "bad events at " ++ decimal at ++ codes "\n"
note_of (status.Truncated at) = codes "input ends inside the frame at " ++ decimal at ++ codes "\n"
note_of status.InputTooLong = codes "input too long\n"
note_of status.NoMemory = codes "no memory\n"

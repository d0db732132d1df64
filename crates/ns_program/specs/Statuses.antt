-- What a status says: its exit number, its note, and which fault of a file it tells.
use Rattle.std.specs.Prelude.{ℕ, List, [], ◌++◌, codes, decimal, Option, Some, None}
use Rattle.host_io.specs.declared.files.FileFault.{FileFault}
use Rattle.host_io.specs.declared.files.FileFault.TheVariants as fault
use Rattle.ns_program.specs.declared.statuses.NsStatus.{NsStatus}
use Rattle.ns_program.specs.declared.statuses.NsStatus.TheVariants as status

abbrev pub exit_of : NsStatus → ℕ
exit_of status.Done = 0
exit_of status.Usage = 1
exit_of (status.TableRefused line) = 2
exit_of (status.LineRefused line) = 2
exit_of status.WriteFault = 4
exit_of status.FileFault = 5
exit_of status.FileTooLarge = 5
exit_of status.NoMemory = 10

-- the note, with its line end; nothing where all was done
abbrev pub note_of : NsStatus → List ℕ
note_of status.Done = []
note_of status.Usage = codes "usage: ns TABLE SCRIPT\n"
note_of (status.TableRefused line) = codes "table refused: line " ++ decimal line ++ codes "\n"
note_of (status.LineRefused line) = codes "line refused: line " ++ decimal line ++ codes "\n"
note_of status.WriteFault = codes "write failed\n"
note_of status.FileFault = codes "file failed\n"
note_of status.FileTooLarge = codes "file too large\n"
note_of status.NoMemory = codes "no memory\n"

abbrev pub fault_in : NsStatus → Option FileFault
fault_in status.FileFault = Some fault.Failed
fault_in status.FileTooLarge = Some fault.TooLarge
fault_in status.NoMemory = Some fault.NoMemory
fault_in _ = None

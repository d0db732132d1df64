-- What is told of a status: its own usage, and else what `vfs` tells.
use Rattle.std.specs.Prelude.{ℕ, List, codes}
use Rattle.run_status.specs.Notes as vfs
use Rattle.run_status.specs.declared.statuses.Status.{Status}
use Rattle.run_status.specs.declared.statuses.Status.TheVariants as status

abbrev pub note_of : Status → List ℕ
note_of status.Usage = codes "usage: frames SCRIPT\n"
note_of other = vfs.note_of other

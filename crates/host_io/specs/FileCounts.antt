-- The counts of files of the system.
use Rattle.std.specs.Prelude.{ℕ, ◌+◌, ◌≤◌, Result, Ok, Err}
use Rattle.host_io.specs.Causes.{next_count}
use Rattle.host_io.specs.declared.files.FileFault.{FileFault}
use Rattle.host_io.specs.declared.files.FileFault.TheVariants as fault

-- how many reads failed, and how many files were too long
pub record FileCounts : Type 0 where
  pub faults : ℕ
  pub overlong : ℕ

-- after a read that gave this answer
abbrev pub after_read : {T : Type 0} → Result T FileFault → FileCounts → FileCounts
after_read (Ok bytes) counts = counts
after_read (Err fault.Failed) counts = record { faults = next_count counts.faults; overlong = counts.overlong }
after_read (Err fault.TooLarge) counts = record { faults = counts.faults; overlong = next_count counts.overlong }
after_read (Err fault.NoMemory) counts = counts

-- one read, whatever it gave: each count is at most one more
pub record IsOneRead (before after : FileCounts) : Type 0 where
  pub faults : after.faults ≤ before.faults + 1
  pub overlong : after.overlong ≤ before.overlong + 1

-- Why a command has no file, and what reading leaves as it is.
use Rattle.std.specs.Prelude.{◌≡◌, ℕ, ◌≤◌, List, length}
use Rattle.host_io.specs.Causes.{NeverFalls, Rose}
use Rattle.host_io.specs.Told.{Told, IsAllOf, IsLongerThan}
use Rattle.run_status.specs.Outside.{FilesTold}

-- the file of this name is missing, or couldn't be read
abbrev pub IsFileFault : List ℕ → FilesTold → FilesTold → Type 0
IsFileFault name before after = Rose (before.faults name) (after.faults name)

-- the file of this name is longer than the limit
abbrev pub IsFileTooLarge : ℕ → List ℕ → FilesTold → FilesTold → Type 0
IsFileTooLarge most name before after =
    Rose (before.overlong name) (after.overlong name) × IsLongerThan most (before.told name)

-- this is the whole file, and within the limit
abbrev pub IsWithin : ℕ → Told → List ℕ → Type 0
IsWithin most told file = IsAllOf told file × (length file ≤ most)

-- what is told of files is as it was, and no count of theirs fell
pub record StillTold (before after : FilesTold) : Type 0 where
  pub told : (name : List ℕ) → after.told name ≡ before.told name
  pub faults : NeverFalls before.faults after.faults
  pub overlong : NeverFalls before.overlong after.overlong

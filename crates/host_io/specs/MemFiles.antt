-- Files in memory.
use Rattle.std.specs.Prelude.{◌≡◌, ℕ, ◌+◌, ◌≤◌, List, Option, Result, None, Some, Ok, Err, refl}
use Rattle.std.specs.Coded.{Coded, code_by, coded×, coded_ℕ, coded_list}
use Rattle.std.specs.Cmp.Lexicographic.{slice_cmp}
use Rattle.std.specs.FinMap.{FinMap, code, get}
use Rattle.std.specs.Ordering.{nat_cmp}
use Rattle.host_io.specs.Calls.{Calls, calls_code, after_success, after_failure}
use Rattle.host_io.specs.Causes.{Rose, next_count}
use Rattle.host_io.specs.Told.{Told, Missing, Holds}
use Rattle.host_io.specs.declared.files.FileFault.{FileFault}
use Rattle.host_io.specs.declared.files.FileFault.TheVariants as fault

-- from the bytes of a name to the bytes of the file
abbrev pub Contents : Type 0
Contents = FinMap (slice_cmp nat_cmp) (List ℕ)

-- a map is stored as its entries
abbrev pub contents_code : Coded Contents
contents_code = code (coded_list coded_ℕ) (coded_list coded_ℕ)

-- the files, the calls that read one, and how many of these found a file too long
pub record FilesState : Type 0 where
  pub files : Contents
  pub calls : Calls
  pub overlong : ℕ

-- a state is stored as its fields
abbrev pub files_code : Coded FilesState
files_code =
    code_by (Contents × (Calls × ℕ)) (coded× contents_code (coded× calls_code coded_ℕ))
    (λ s. (s.files, (s.calls, s.overlong))) (λ p. record { files = p.0; calls = p.1.0; overlong = p.1.1 }) (λ _. refl)

-- what is told of a file that was looked up
abbrev pub told_of : Option (List ℕ) → Told
told_of None = Missing
told_of (Some bytes) = Holds bytes

-- after a call that gave this answer: a failure and a file too long are counted
abbrev pub after_answer : {T : Type 0} → Result T FileFault → FilesState → FilesState
after_answer (Ok bytes) state = record { files = state.files; calls = after_success state.calls; overlong = state.overlong }
after_answer (Err fault.Failed) state = record { files = state.files; calls = after_failure state.calls; overlong = state.overlong }
after_answer (Err fault.TooLarge) state = record { files = state.files; calls = after_success state.calls; overlong = next_count state.overlong }
after_answer (Err fault.NoMemory) state = record { files = state.files; calls = after_success state.calls; overlong = state.overlong }

-- one read of this name, whatever it gave: one call is counted, and at most one fault, which is there where no file has the name
pub record IsReadOf (name : List ℕ) (before after : FilesState) : Type 0 where
  pub files : after.files ≡ before.files
  pub once : after.calls.made ≡ next_count before.calls.made
  pub faults : after.calls.faults ≤ before.calls.faults + 1
  pub overlong : after.overlong ≤ before.overlong + 1
  pub missing : get before.files name ≡ None → Rose before.calls.faults after.calls.faults

-- What holds of every generated workload.
use Rattle.std.specs.Prelude.{◌≡◌, ◌≤◌, ◌+◌, ◌*◌, ℕ, length, Some, None}
use Rattle.link_frames.specs.declared.kinds.Mode.TheVariants.{Auto}
use Rattle.fidl_names.specs.declared.limits.TheConstants as limit
use Rattle.vfs_script.specs.Scripts.{bad_line, frames_of, script_mode}
use Rattle.workload.specs.Workload.{IsRounds, workload}

-- it is a script in mode auto: it isn't too long, none of its lines is bad, and each round has
-- three frames
pub record IsGoodScript (rounds : ℕ) : Type 0 where
  pub short : length (workload rounds) ≤ limit.MAX_TEXT
  pub good : bad_line (workload rounds) ≡ None
  pub mode : script_mode (workload rounds) ≡ Some Auto
  pub frames : length (frames_of (workload rounds)) ≡ 3 * rounds + 2

-- so it is for each number of rounds that can be made
abbrev pub WorkloadsAreScripts : Type 0
WorkloadsAreScripts = (rounds : ℕ) → IsRounds rounds → IsGoodScript rounds

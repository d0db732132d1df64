-- Causes of a command that plays a script, in their order.
use Rattle.std.specs.Prelude.{ℕ, List}
use Rattle.fidl_names.specs.declared.limits.TheConstants as limit
use Rattle.run_status.specs.declared.statuses.Status.{Status}
use Rattle.run_status.specs.declared.statuses.Status.TheVariants as status
use Rattle.run_status.specs.Causes.{After}
use Rattle.run_status.specs.Outside.{FilesTold}
use Rattle.run_status.specs.FileCauses.{HasNoFile}
use Rattle.script_session.specs.Scripts.{IsBadAt, IsPlayable, Said}
use Rattle.script_session.specs.Workloads.{IsReport}

-- why a command has no script: it has no file, or the first bad line of the file
abbrev pub HasNoScript : List ℕ → FilesTold → FilesTold → Status → Type 0
HasNoScript script before after (status.ScriptRefused line) = IsBadAt (before.told script) line
HasNoScript script before after status = HasNoFile limit.MAX_TEXT script before after status

-- or the script, none of whose lines is bad, so that it can be played
abbrev pub AfterScript : List ℕ → FilesTold → FilesTold → Type 0 → (Said → Status → Type 0) → Status → Type 0
AfterScript script before after same = After (HasNoScript script before after) same (IsPlayable (before.told script))

-- memory is wanting
abbrev pub IsStarved : Status → Type 0
IsStarved status.NoMemory = Unit {0}
IsStarved _ = ⊥

-- or there is the report of a workload
abbrev pub AfterReport : ℕ → Type 0 → (List ℕ → Status → Type 0) → Status → Type 0
AfterReport rounds same = After IsStarved same (IsReport rounds)

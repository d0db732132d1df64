-- Causes of a command that reads a file, in their order.
use Rattle.std.specs.Prelude.{ℕ, List, Option, Some, None, IsSomeAnd, MatchOption}
use Rattle.fidl_names.specs.declared.limits.TheConstants as limit
use Rattle.host_io.specs.declared.files.FileFault.{FileFault}
use Rattle.host_io.specs.declared.files.FileFault.TheVariants as fault
use Rattle.session_start.specs.Items.{Lists}
use Rattle.run_status.specs.declared.statuses.Status.{Status}
use Rattle.run_status.specs.declared.statuses.Status.TheVariants as status
use Rattle.run_status.specs.Causes.{After}
use Rattle.run_status.specs.Outside.{FilesTold}
use Rattle.run_status.specs.Files.{IsFileFault, IsFileTooLarge, IsWithin}
use Rattle.run_status.specs.Trees.{IsBroken, IsTree}

-- why a file isn't had; for want of memory nothing else is said
abbrev pub IsFileCause : ℕ → List ℕ → FilesTold → FilesTold → FileFault → Type 0
IsFileCause most name before after fault.Failed = IsFileFault name before after
IsFileCause most name before after fault.TooLarge = IsFileTooLarge most name before after
IsFileCause most name before after fault.NoMemory = Unit {0}

-- why a command of any program has no file, by which of the program's statuses tell which fault of a file
abbrev pub LacksFile : {S : Type 0} → (S → Option FileFault) → ℕ → List ℕ → FilesTold → FilesTold → S → Type 0
LacksFile fault_in most name before after status = IsSomeAnd (fault_in status) (IsFileCause most name before after)

-- why one has no start, by which statuses tell a rule with its item: it has no file, or the first rule that the file breaks
abbrev pub LacksStart : {S : Type 0} → (S → Option (ℕ × ℕ)) → (S → Option FileFault) → List ℕ → FilesTold → FilesTold → S → Type 0
LacksStart rule_in fault_in tree before after status =
    MatchOption (rule_in status) (LacksFile fault_in limit.MAX_TEXT tree before after status)
    (λ broken. IsBroken (before.told tree) broken.0 broken.1)

-- the fault of a file that a status of `vfs` tells, and the rule of a tree file with its item
abbrev pub fault_in : Status → Option FileFault
fault_in status.FileFault = Some fault.Failed
fault_in status.FileTooLarge = Some fault.TooLarge
fault_in status.NoMemory = Some fault.NoMemory
fault_in _ = None

abbrev pub rule_in : Status → Option (ℕ × ℕ)
rule_in (status.TreeRefused rule item) = Some (rule, item)
rule_in _ = None

-- why a command of `vfs` has no file
abbrev pub HasNoFile : ℕ → List ℕ → FilesTold → FilesTold → Status → Type 0
HasNoFile = LacksFile fault_in

-- then the file, which is one that is served
abbrev pub AfterFile : List ℕ → FilesTold → FilesTold → Type 0 → (List ℕ → Status → Type 0) → Status → Type 0
AfterFile name before after same = After (HasNoFile limit.MAX_FILE name before after) same (IsWithin limit.MAX_FILE (before.told name))

-- and why no start
abbrev pub HasNoStart : List ℕ → FilesTold → FilesTold → Status → Type 0
HasNoStart = LacksStart rule_in fault_in

-- or the tree file, which breaks no rule, and has bytes in its files
abbrev pub AfterTree : List ℕ → FilesTold → FilesTold → Type 0 → (Lists → Status → Type 0) → Status → Type 0
AfterTree tree before after same = After (HasNoStart tree before after) same (IsTree (before.told tree))

-- What `audit TREE RECORDING` may answer, and what it did by then.
use Rattle.std.specs.Prelude.{◌≡◌, ◌≤◌, ◌⊎◌, ℕ, List, [], ◌∷◌, length}
use Rattle.fidl_wire.specs.Names.{AreDistinct}
use Rattle.host_io.specs.Causes.{Rose}
use Rattle.host_io.specs.Streams.{AppendsPart}
use Rattle.host_io.specs.Told.{Holds}
use Rattle.link_audit.specs.Verdicts.{IsVerdict}
use Rattle.link_audit.specs.Vouching.{VouchesForLaws}
use Rattle.link_audit.specs.declared.auditing.TheConstants.{MAX_RECORDING}
use Rattle.link_audit.specs.declared.verdicts.Verdict.{Verdict}
use Rattle.run_status.specs.FileCauses.{LacksFile, LacksStart}
use Rattle.run_status.specs.Files.{IsFileFault, IsWithin}
use Rattle.run_status.specs.Trees.{IsTree, Stands}
use Rattle.run_status.specs.Causes.{After}
use Rattle.run_status.specs.Outside.{FilesTold, SinkTold}
use Rattle.run_status.specs.Texts.{GotAll}
use Rattle.session_start.specs.Items.{Lists}
use Rattle.vfs_journal.specs.Starts.{Start, start_of}
use Rattle.audit_program.specs.Statuses.{Collides, fault_in, line_of, rule_in, status_of}
use Rattle.audit_program.specs.declared.statuses.AuditStatus.{AuditStatus}
use Rattle.audit_program.specs.declared.statuses.AuditStatus.TheVariants as status

-- the words name a tree's file and a recording's
abbrev pub AreNames : List (List ℕ) → List ℕ → List ℕ → Type 0
AreNames words tree recording = words ≡ tree ∷ recording ∷ []

-- they aren't two
abbrev pub AreOthers : List (List ℕ) → Type 0
AreOthers words = (tree recording : List ℕ) → AreNames words tree recording → ⊥

-- the line of a verdict is written and flushed, and no call of the sink failed; or a front of it is written, and one failed; or memory was
-- wanting, and nothing is written
abbrev pub WritesLine : Verdict → Type 0 → SinkTold → SinkTold → AuditStatus → Type 0
WritesLine verdict same before after status.NoMemory = same
WritesLine verdict same before after status.WriteFault =
    AppendsPart before.written after.written (line_of verdict) × Rose before.faults after.faults
WritesLine verdict same before after answer =
    (answer ≡ status_of verdict) × GotAll before after (line_of verdict) × (after.faults ≡ before.faults)

-- the verdict on the recording is told. A yes says that the laws of sessions hold of the run that was recorded
abbrev pub TellsVerdict : Start → List ℕ → Type 0 → SinkTold → SinkTold → AuditStatus → Type 0
TellsVerdict start recording same before after status.NoMemory = same
TellsVerdict start recording same before after answer =
    (verdict : Verdict) × IsVerdict start recording verdict × VouchesForLaws start recording verdict
    × WritesLine verdict same before after answer

-- the causes in their order: the names of methods, the tree's file and its rules, the recording's file; and then the verdict
abbrev pub Answers : List ℕ → List ℕ → FilesTold → FilesTold → Type 0 → SinkTold → SinkTold → AuditStatus → Type 0
Answers tree recording before after same wrote writes =
    After Collides same (λ (none : Unit {0}). AreDistinct) (λ none.
    After (LacksStart rule_in fault_in tree before after) same (IsTree (before.told tree)) (λ lists.
    After (LacksFile fault_in MAX_RECORDING recording before after) same (IsWithin MAX_RECORDING (before.told recording))
    (λ bytes. TellsVerdict (start_of lists) bytes same wrote writes)))

-- ---- that it succeeds

-- the names differ, the tree's file is told and breaks no rule, the recording is told and within its limit, and this is its verdict
pub record HasAll (tree recording : List ℕ) (before : FilesTold) (lists : Lists) (bytes : List ℕ) (verdict : Verdict) : Type 0 where
  pub distinct : AreDistinct
  pub text : List ℕ
  pub told : before.told tree ≡ Holds text
  pub stands : Stands (Holds text) lists
  pub recorded : before.told recording ≡ Holds bytes
  pub few : length bytes ≤ MAX_RECORDING
  pub is : IsVerdict (start_of lists) bytes verdict

-- no fault came from outside
pub record NoFault (tree recording : List ℕ) (before after : FilesTold) (wrote writes : SinkTold) : Type 0 where
  pub of_tree : IsFileFault tree before after → ⊥
  pub of_recording : IsFileFault recording before after → ⊥
  pub sink : Rose wrote.faults writes.faults → ⊥

-- the status says this verdict, or that memory is wanting
abbrev pub IsTold : Verdict → AuditStatus → Type 0
IsTold verdict answer = (answer ≡ status_of verdict) ⊎ (answer ≡ status.NoMemory)

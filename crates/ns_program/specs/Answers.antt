-- What the program may answer, and what it did by then.
use Rattle.std.specs.Prelude.{◌≡◌, ◌≤◌, ℕ, List, length}
use Rattle.fidl_names.specs.declared.limits.TheConstants as limit
use Rattle.host_io.specs.Causes.{Rose}
use Rattle.host_io.specs.Streams.{AppendsPart}
use Rattle.host_io.specs.Told.{Holds}
use Rattle.run_status.specs.Causes.{After}
use Rattle.run_status.specs.FileCauses.{LacksFile}
use Rattle.run_status.specs.Files.{IsFileFault}
use Rattle.run_status.specs.Outside.{FilesTold, SinkTold}
use Rattle.run_status.specs.Texts.{GotAll}
use Rattle.io_namespace.specs.Entries.{Table}
use Rattle.ns_program.specs.Rewriting.{IsScript, IsLostAt, IsLostScript}
use Rattle.ns_program.specs.Statuses.{fault_in}
use Rattle.ns_program.specs.Tables.{IsTable, IsBadTable, IsRefusedAt, Says, lines_of}
use Rattle.ns_program.specs.Words.{Asks}
use Rattle.ns_program.specs.declared.statuses.NsStatus.{NsStatus}
use Rattle.ns_program.specs.declared.statuses.NsStatus.TheVariants as status

-- why there is no table: no file, or the first line that is refused
abbrev pub HasNoTable : List ℕ → FilesTold → FilesTold → NsStatus → Type 0
HasNoTable name before after (status.TableRefused line) = IsBadTable (before.told name) line
HasNoTable name before after status = LacksFile fault_in limit.MAX_TEXT name before after status

-- and why no script
abbrev pub HasNoScript : Table → List ℕ → FilesTold → FilesTold → NsStatus → Type 0
HasNoScript table name before after (status.LineRefused line) = IsLostScript table (before.told name) line
HasNoScript table name before after status = LacksFile fault_in limit.MAX_TEXT name before after status

-- the text is written and flushed, and no call of the sink failed; or a front of it is written, and one failed
abbrev pub Writes : List ℕ → SinkTold → SinkTold → NsStatus → Type 0
Writes text before after status.Done = GotAll before after text × (after.faults ≡ before.faults)
Writes text before after status.WriteFault = AppendsPart before.written after.written text × Rose before.faults after.faults
Writes text before after _ = ⊥

-- the causes in their order, and then the work
abbrev pub Answers : Asks → FilesTold → FilesTold → SinkTold → SinkTold → Type 0 → NsStatus → Type 0
Answers asks before after sink_before sink_after same =
    After (HasNoTable asks.table before after) same (IsTable (before.told asks.table))
    (λ table. After (HasNoScript table asks.script before after) same (IsScript table (before.told asks.script))
    (λ out. Writes out sink_before sink_after))

-- both files are told, within their limits, and no line of either is refused
pub record IsServable (asks : Asks) (before : FilesTold) : Type 0 where
  pub table : List ℕ
  pub table_told : before.told asks.table ≡ Holds table
  pub table_few : length table ≤ limit.MAX_TEXT
  pub none_refused : (number : ℕ) → IsRefusedAt (lines_of table) number → ⊥
  pub script : List ℕ
  pub script_told : before.told asks.script ≡ Holds script
  pub script_few : length script ≤ limit.MAX_TEXT
  pub none_lost : (said : Table) (number : ℕ) → Says (lines_of table) said → IsLostAt said (lines_of script) number → ⊥

-- no fault came from outside
pub record NoFault (asks : Asks) (before after : FilesTold) (sink_before sink_after : SinkTold) : Type 0 where
  pub table : IsFileFault asks.table before after → ⊥
  pub script : IsFileFault asks.script before after → ⊥
  pub sink : Rose sink_before.faults sink_after.faults → ⊥

abbrev pub IsDoneOrNoMemory : NsStatus → Type 0
IsDoneOrNoMemory status.Done = Unit {0}
IsDoneOrNoMemory status.NoMemory = Unit {0}
IsDoneOrNoMemory _ = ⊥

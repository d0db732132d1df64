-- What a command may answer, and what it did by then.
use Rattle.std.specs.Prelude.{ℕ, List, length, ◌≡◌, ◌≤◌, ◌⊎◌}
use Rattle.fidl_names.specs.declared.limits.TheConstants as limit
use Rattle.host_io.specs.Causes.{Rose}
use Rattle.host_io.specs.Told.{Holds}
use Rattle.fidl_wire.specs.Names.{AreDistinct}
use Rattle.session_start.specs.Items.{Lists}
use Rattle.link_frames.specs.declared.kinds.Side.TheVariants as side
use Rattle.vfs_journal.specs.Starts.{start_of}
use Rattle.script_session.specs.Playing.{transcript}
use Rattle.run_status.specs.declared.statuses.Status.{Status}
use Rattle.run_status.specs.declared.statuses.Status.TheVariants as status
use Rattle.run_status.specs.Causes.{AfterNames}
use Rattle.run_status.specs.Outside.{FilesTold, Outside, sink_of}
use Rattle.run_status.specs.Texts.{WritesPieces, WritesText}
use Rattle.link_session.specs.Session.{SessionAnswers, IsWhole}
use Rattle.run_status.specs.FileCauses.{AfterFile, AfterTree}
use Rattle.run_status.specs.Files.{IsFileFault}
use Rattle.run_status.specs.Trees.{Stands, line_of}
use Rattle.file_session.specs.OneFile.{file_course}
use Rattle.vfs_program.specs.TreeSession.{tree_course}
use Rattle.vfs_program.specs.Shown.{lines_course}
use Rattle.script_session.specs.ScriptCauses.{AfterReport, AfterScript}
use Rattle.script_session.specs.Scripts.{Said, Says}
use Rattle.vfs_program.specs.Words.{Asks, FileOf, ServeOf, RunOf, CheckOf, ShowAll, MakeOf}

-- what each command answers: its causes in their order, and then its work
abbrev pub Answers : Asks → Outside → Outside → Type 0 → Type 0 → Status → Type 0
Answers (FileOf name) before after source_same sink_same =
    AfterNames (source_same × sink_same)
    (AfterFile name before.files after.files (source_same × sink_same)
    (λ file. SessionAnswers side.ToServers (file_course file) before.streams after.streams sink_same))
Answers (ServeOf tree by) before after source_same sink_same =
    AfterNames (source_same × sink_same)
    (AfterTree tree before.files after.files (source_same × sink_same)
    (λ lists. SessionAnswers side.ToServers (tree_course (start_of lists) by) before.streams after.streams sink_same))
Answers (RunOf tree script) before after source_same sink_same =
    λ status. source_same × AfterNames sink_same
    (AfterTree tree before.files after.files sink_same
    (λ lists. AfterScript script before.files after.files sink_same
    (λ said. WritesPieces (transcript (start_of lists) said.by said.text) (sink_of before.streams) (sink_of after.streams)))) status
Answers (CheckOf tree) before after source_same sink_same =
    λ status. source_same × AfterTree tree before.files after.files sink_same
    (λ lists. WritesText (line_of lists) ⊥ (sink_of before.streams) (sink_of after.streams)) status
Answers ShowAll before after source_same sink_same =
    λ status. (after.files ≡ before.files) × AfterNames (source_same × sink_same)
    (SessionAnswers side.Any lines_course before.streams after.streams sink_same) status
Answers (MakeOf rounds) before after source_same sink_same =
    λ status. source_same × (after.files ≡ before.files) × AfterNames sink_same
    (AfterReport rounds sink_same
    (λ report. WritesText report ⊥ (sink_of before.streams) (sink_of after.streams))) status

-- the file is told, and within its limit
abbrev pub HasFile : List ℕ → Outside → Type 0
HasFile name before = (file : List ℕ) × (before.files.told name ≡ Holds file) × (length file ≤ limit.MAX_FILE)

-- the tree file is told, within its limit and breaks no rule
abbrev pub HasTree : List ℕ → Outside → Type 0
HasTree tree before = (text : List ℕ) × (lists : Lists) × (before.files.told tree ≡ Holds text) × Stands (Holds text) lists

-- the script's file is told, within its limit, and none of its lines is bad
pub record HasScript (script : List ℕ) (before : FilesTold) : Type 0 where
  pub said : Said
  pub told : before.told script ≡ Holds said.text
  pub says : Says (Holds said.text) said

-- the command has all that it needs
abbrev pub IsServable : Asks → Outside → Type 0
IsServable (FileOf name) before = AreDistinct × HasFile name before × IsWhole side.ToServers before.streams
IsServable (ServeOf tree by) before = AreDistinct × HasTree tree before × IsWhole side.ToServers before.streams
IsServable (RunOf tree script) before = AreDistinct × HasTree tree before × HasScript script before.files
IsServable (CheckOf tree) before = HasTree tree before
IsServable ShowAll before = AreDistinct × IsWhole side.Any before.streams
IsServable (MakeOf rounds) before = AreDistinct

-- a file that a command names, and the source where it reads that, met a fault
abbrev pub FileRose : Asks → Outside → Outside → Type 0
FileRose (FileOf name) before after = IsFileFault name before.files after.files
FileRose (ServeOf tree by) before after = IsFileFault tree before.files after.files
FileRose (RunOf tree script) before after = IsFileFault tree before.files after.files ⊎ IsFileFault script before.files after.files
FileRose (CheckOf tree) before after = IsFileFault tree before.files after.files
FileRose ShowAll before after = ⊥
FileRose (MakeOf rounds) before after = ⊥

abbrev pub SourceRose : Asks → Outside → Outside → Type 0
SourceRose (RunOf tree script) before after = ⊥
SourceRose (CheckOf tree) before after = ⊥
SourceRose (MakeOf rounds) before after = ⊥
SourceRose asks before after = Rose before.streams.read_faults after.streams.read_faults

-- no fault came from outside
pub record NoFault (asks : Asks) (before after : Outside) : Type 0 where
  pub file : FileRose asks before after → ⊥
  pub source : SourceRose asks before after → ⊥
  pub sink : Rose before.streams.write_faults after.streams.write_faults → ⊥

abbrev pub IsDoneOrNoMemory : Status → Type 0
IsDoneOrNoMemory status.Done = Unit {0}
IsDoneOrNoMemory status.NoMemory = Unit {0}
IsDoneOrNoMemory _ = ⊥

-- That what a command writes is the output of one journal, that of its session, which is lawful and
-- keeps the laws of every session.
use Rattle.std.specs.Prelude.{◌≡◌, ◌⊎◌, ℕ, All, List, ◌++◌}
use Rattle.std.specs.Io.KnownBytes.{IsAtEnd}
use Rattle.link_frames.specs.Frames.{Frame, Frames, IsFrame, spellings}
use Rattle.link_frames.specs.Fronts.{Begins}
use Rattle.link_frames.specs.declared.kinds.Mode.{Mode}
use Rattle.link_frames.specs.declared.kinds.Mode.TheVariants.{Auto}
use Rattle.link_frames.specs.declared.kinds.Side.TheVariants.{ToServers}
use Rattle.session_start.specs.Items.{Lists}
use Rattle.tree_file.specs.Generated.{generated_lists}
use Rattle.vfs_journal.specs.Entries.{Journal}
use Rattle.vfs_journal.specs.Output.{frames_behind, output_of}
use Rattle.vfs_journal.specs.Past.{history_of}
use Rattle.vfs_journal.specs.Session.{ended, session}
use Rattle.vfs_journal.specs.Starts.{Start, start_of}
use Rattle.vfs_script.specs.Scripts.{calls_of, count_calls, frames_of, script_lines}
use Rattle.vfs_script.specs.Transcripts.{counts_line}
use Rattle.script_session.specs.Answering.{count_answers}
use Rattle.script_session.specs.Playing.{play_all}
use Rattle.journal_laws.specs.Soundness.{IsDrained}
use Rattle.session_laws.specs.Laws.{IsLawfulOver}
use Rattle.workload.specs.Workload.{workload}
use Rattle.run_status.specs.declared.statuses.Status.{Status}
use Rattle.run_status.specs.declared.statuses.Status.TheVariants as status
use Rattle.run_status.specs.Causes.{AfterNames}
use Rattle.run_status.specs.Outside.{Outside, Streams, sink_of}
use Rattle.run_status.specs.Texts.{WritesPieces, WritesText}
use Rattle.link_session.specs.Session.{EndsBehind, Took, Wrote}
use Rattle.run_status.specs.FileCauses.{AfterTree}
use Rattle.vfs_program.specs.Shown.{lines_of}
use Rattle.script_session.specs.ScriptCauses.{AfterReport, AfterScript}
use Rattle.script_session.specs.Scripts.{Said}
use Rattle.script_session.specs.Workloads.{report_for}
use Rattle.vfs_program.specs.Words.{Asks, FileOf, ServeOf, RunOf, CheckOf, ShowAll, MakeOf}

-- ---- a session of frames

-- a lawful journal, which keeps the laws; the first frames that were taken; and what was written
pub record IsOfJournal (lists : Lists) (before after : Streams) : Type 0 where
  pub journal : Journal
  pub over : IsLawfulOver lists journal
  -- what was taken begins with these frames
  pub taken : List ℕ
  pub took : Took before after taken
  pub frames : List Frame
  pub each : All (IsFrame ToServers) frames
  pub begins : Begins (spellings frames) taken
  -- and these bytes were written
  pub bytes : List ℕ
  pub wrote : Wrote before after bytes

-- the frames are all whole ones of an input that ended, is bad behind them, or has the limit; the
-- journal is that of the session which they end, nothing waits in it, and its output was written
pub record IsAllByEnd (lists : Lists) (by : Mode) (before after : Streams) : Type 0 where
  pub written : IsOfJournal lists before after
  pub ends : EndsBehind ToServers written.taken (IsAtEnd after.left) written.frames
  pub own : written.journal ≡ ended (start_of lists) by written.frames
  pub drained : IsDrained (history_of (start_of lists) written.journal)
  pub output : written.bytes ≡ output_of (start_of lists) written.journal

-- the frames are all whole ones that were taken; the journal is that of the session over them, with
-- no last drain, and its output was written
pub record IsAllSoFar (lists : Lists) (by : Mode) (before after : Streams) : Type 0 where
  pub written : IsOfJournal lists before after
  pub rest : List ℕ
  pub read : Frames ToServers written.taken written.frames rest
  pub own : written.journal ≡ session (start_of lists) by written.frames
  pub output : written.bytes ≡ output_of (start_of lists) written.journal

-- the journal is that of the session over these frames, or that which they end, where the input did;
-- and a front of its output was written
pub record IsFront (lists : Lists) (by : Mode) (before after : Streams) : Type 0 where
  pub written : IsOfJournal lists before after
  pub own : (written.journal ≡ session (start_of lists) by written.frames)
      ⊎ ((written.journal ≡ ended (start_of lists) by written.frames) × EndsBehind ToServers written.taken (IsAtEnd after.left) written.frames)
  pub front : Begins written.bytes (output_of (start_of lists) written.journal)

-- all of the output where the session ended, or a read failed; a front only where a write failed or
-- memory was wanting
abbrev pub IsLawfulServing : Lists → Mode → Streams → Streams → Status → Type 0
IsLawfulServing lists by before after status.Done = IsAllByEnd lists by before after
IsLawfulServing lists by before after (status.Truncated at) = IsAllByEnd lists by before after
IsLawfulServing lists by before after (status.BadFrame at why) = IsAllByEnd lists by before after
IsLawfulServing lists by before after status.InputTooLong = IsAllByEnd lists by before after
IsLawfulServing lists by before after status.ReadFault = IsAllSoFar lists by before after
IsLawfulServing lists by before after status.WriteFault = IsFront lists by before after
IsLawfulServing lists by before after status.NoMemory = IsFront lists by before after
IsLawfulServing lists by before after _ = ⊥

-- ---- a session that is played

-- the journal of the session which these frames end is lawful and keeps the laws, and nothing waits
-- in it
pub record IsEnded (lists : Lists) (by : Mode) (frames : List Frame) : Type 0 where
  pub journal : Journal
  pub own : journal ≡ ended (start_of lists) by frames
  pub over : IsLawfulOver lists journal
  pub drained : IsDrained (history_of (start_of lists) journal)

-- the counts behind a transcript: of the script's calls, and of the frames that answer one
abbrev pub counts_of : Start → Said → List ℕ
counts_of start said = counts_line (count_calls (calls_of said.text)) (count_answers (play_all start said.by (script_lines said.text)))

-- what is written of a script is the lines of all frames that the journal stands for, and then the
-- counts of calls and answers: all of it where the command is done, and else a front
pub record IsLawfulPlaying (lists : Lists) (said : Said) (before after : Streams) (status : Status) : Type 0 where
  pub played : IsEnded lists said.by (frames_of said.text)
  pub wrote : WritesPieces (lines_of (frames_behind (start_of lists) played.journal) ++ counts_of (start_of lists) said)
      (sink_of before) (sink_of after) status

-- and of a workload the report of what went in, and of all frames that the journal over the
-- generated start stands for
pub record IsLawfulMaking (rounds : ℕ) (before after : Streams) (status : Status) : Type 0 where
  pub played : IsEnded generated_lists Auto (frames_of (workload rounds))
  pub wrote : WritesText (report_for (frames_of (workload rounds)) (frames_behind (start_of generated_lists) played.journal)) ⊥
      (sink_of before) (sink_of after) status

-- ---- commands

-- where no cause stopped it before, a session over a tree wrote what is lawful, by its status; the
-- other commands have no such session
abbrev pub IsLawfulRun : Asks → Outside → Outside → Type 0 → Type 0 → Status → Type 0
IsLawfulRun (FileOf name) before after source_same sink_same = λ status. Unit {0}
IsLawfulRun (ServeOf tree by) before after source_same sink_same =
    AfterNames (source_same × sink_same)
    (AfterTree tree before.files after.files (source_same × sink_same)
    (λ lists. IsLawfulServing lists by before.streams after.streams))
IsLawfulRun (RunOf tree script) before after source_same sink_same =
    AfterNames sink_same
    (AfterTree tree before.files after.files sink_same
    (λ lists. AfterScript script before.files after.files sink_same
    (λ said. IsLawfulPlaying lists said before.streams after.streams)))
IsLawfulRun (CheckOf tree) before after source_same sink_same = λ status. Unit {0}
IsLawfulRun ShowAll before after source_same sink_same = λ status. Unit {0}
IsLawfulRun (MakeOf rounds) before after source_same sink_same =
    AfterNames sink_same (AfterReport rounds sink_same (λ report. IsLawfulMaking rounds before.streams after.streams))

-- Runs of programs, the output of one of which is the input of the next: `frames SCRIPT | vfs serve TREE MODE | vfs show`.
use Rattle.std.specs.Prelude.{◌≡◌, ℕ, List, [], ◌++◌, Some}
use Rattle.host_io.specs.Told.{Holds}
use Rattle.link_frames.specs.declared.kinds.Mode.{Mode}
use Rattle.run_status.specs.declared.statuses.Status.TheVariants as status
use Rattle.run_status.specs.Outside.{Outside, sink_of}
use Rattle.vfs_program.specs.Answers as vfs
use Rattle.vfs_program.specs.Words.{Asks, ServeOf, RunOf, ShowAll}
use Rattle.vfs_script.specs.Scripts.{script_mode}
use Rattle.vfs_script.specs.Transcripts.{counts_line}
use Rattle.frames_program.specs.Answers.{Answers}

-- a run, by what the outside told before it and behind it
pub record Run : Type 0 where
  pub before : Outside
  pub after : Outside

-- the program `frames` is done with this script, and `vfs` with what it was asked, as their calls' clauses say it. No cause stopped them,
-- so that nothing is said of what a cause leaves as it was
abbrev pub IsMade : List ℕ → Run → Type 0
IsMade script run =
    Answers script run.before.files run.after.files (sink_of run.before.streams) (sink_of run.after.streams) (Unit {0}) (Unit {0}) status.Done

abbrev pub IsDone : Asks → Run → Type 0
IsDone asks run = vfs.Answers asks run.before run.after (Unit {0}) (Unit {0}) status.Done

-- the file of this name has this text
abbrev pub Finds : List ℕ → List ℕ → Run → Type 0
Finds name text run = run.before.files.told name ≡ Holds text

-- nothing was written before, and these bytes are all that was by then
pub record Writes (run : Run) (bytes : List ℕ) : Type 0 where
  pub none : run.before.streams.written ≡ Some []
  pub all : run.after.streams.written ≡ Some bytes

-- what the one wrote is the other's input
pub record Feeds (first second : Run) : Type 0 where
  pub bytes : List ℕ
  pub written : Writes first bytes
  pub input : second.before.streams.left ≡ Some bytes

-- the pipe, and beside it `vfs run TREE SCRIPT`
pub record Pipe : Type 0 where
  pub frames : Run
  pub serve : Run
  pub show : Run
  pub run : Run

-- all four are done, over the same tree and the same script, whose mode the pipe serves in
pub record IsPiped (tree script : List ℕ) (pipe : Pipe) : Type 0 where
  pub nodes : List ℕ
  pub text : List ℕ
  pub by : Mode
  pub mode : script_mode text ≡ Some by
  pub script_made : Finds script text pipe.frames
  pub script_run : Finds script text pipe.run
  pub tree_served : Finds tree nodes pipe.serve
  pub tree_run : Finds tree nodes pipe.run
  pub made : IsMade script pipe.frames
  pub first : Feeds pipe.frames pipe.serve
  pub served : IsDone (ServeOf tree by) pipe.serve
  pub second : Feeds pipe.serve pipe.show
  pub shown : IsDone ShowAll pipe.show
  pub played : IsDone (RunOf tree script) pipe.run

-- what the one wrote is what the other did but for its last line, which counts the calls of the script and those that were answered
pub record IsButForCounts (shorter longer : List ℕ) : Type 0 where
  pub calls : ℕ
  pub answered : ℕ
  pub is : longer ≡ shorter ++ counts_line calls answered

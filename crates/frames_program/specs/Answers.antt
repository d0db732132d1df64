-- What the program may answer, and what it did by then.
use Rattle.std.specs.Prelude.{ℕ, List}
use Rattle.fidl_wire.specs.Names.{AreDistinct}
use Rattle.host_io.specs.Causes.{Rose}
use Rattle.link_frames.specs.Frames.{spellings}
use Rattle.run_status.specs.declared.statuses.Status.{Status}
use Rattle.run_status.specs.Causes.{AfterNames}
use Rattle.run_status.specs.Files.{IsFileFault}
use Rattle.run_status.specs.Outside.{FilesTold, SinkTold}
use Rattle.run_status.specs.Texts.{WritesText}
use Rattle.script_session.specs.ScriptCauses.{AfterScript}
use Rattle.vfs_program.specs.Answers.{HasScript}
use Rattle.vfs_script.specs.Scripts.{frames_of}

-- the causes in their order, and then the frames of the script, as bytes. Nothing is touched before the names, and no memory is taken
-- behind the script
abbrev pub Answers : List ℕ → FilesTold → FilesTold → SinkTold → SinkTold → Type 0 → Type 0 → Status → Type 0
Answers script before after sink_before sink_after files_same sink_same =
    AfterNames (files_same × sink_same)
    (AfterScript script before after sink_same
    (λ said. WritesText (spellings (frames_of said.text)) ⊥ sink_before sink_after))

-- the names are distinct, and the script's file is told, within its limit, and has no bad line
abbrev pub IsServable : List ℕ → FilesTold → Type 0
IsServable script before = AreDistinct × HasScript script before

-- no fault came from outside
pub record NoFault (script : List ℕ) (before after : FilesTold) (sink_before sink_after : SinkTold) : Type 0 where
  pub file : IsFileFault script before after → ⊥
  pub sink : Rose sink_before.faults sink_after.faults → ⊥

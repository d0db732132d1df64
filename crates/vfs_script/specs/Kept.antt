-- What is kept of a script.
use Rattle.std.specs.Prelude.{◌≡◌, ℕ, ⊤, List, [], ◌∷◌, ◌++◌, Option, Some, None, Result, Ok, Err}
use Rattle.link_frames.specs.declared.kinds.Mode.{Mode}
use Rattle.link_frames.specs.Frames.{Frame, spelling}
use Rattle.vfs_script.specs.declared.calls.Call.{Call}
use Rattle.vfs_script.specs.declared.faults.ScriptFault.{ScriptFault}
use Rattle.vfs_script.specs.declared.faults.ScriptFault.TheVariants as fault
use Rattle.vfs_script.specs.Scripts.{Spoken, frame_of, call_in}

-- a script: its mode, the bytes of its frames, and beside each frame the call that it makes
pub record ScriptValue : Type 0 where
  pub mode : Mode
  pub bytes : List ℕ
  pub calls : List (Option Call)

-- the frames and calls of the lines so far
pub record Kept : Type 0 where
  pub bytes : List ℕ
  pub calls : List (Option Call)

-- one frame more, and the call that it makes
abbrev pub kept_and : Kept → Frame → Option Call → Kept
kept_and kept frame call = record { bytes = kept.bytes ++ spelling frame; calls = kept.calls ++ call ∷ [] }

-- these lines were taken, one after another
abbrev pub kept_with : Kept → List Spoken → Kept
kept_with kept [] = kept
kept_with kept (said ∷ others) = kept_with (kept_and kept (frame_of said) (call_in said)) others

abbrev pub Took : Option Spoken → Kept → Kept → Type 0
Took None old new = ⊥
Took (Some said) old new = new ≡ kept_and old (frame_of said) (call_in said)

-- a line was taken; or it is the bad one, which says nothing; want of memory is free
abbrev pub Takes : ℕ → Option Spoken → Kept → Kept → Result (Unit {0}) ScriptFault → Type 0
Takes number said old new (Ok u) = Took said old new
Takes number said old new (Err (fault.Line line)) = (line ≡ number) × (said ≡ None)
Takes number said old new (Err fault.NoMemory) = ⊤

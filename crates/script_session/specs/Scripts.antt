-- What a script's file is for a command.
use Rattle.std.specs.Prelude.{◌≡◌, ℕ, All, List, Some, None}
use Rattle.link_frames.specs.Frames.{IsFrame}
use Rattle.link_frames.specs.declared.kinds.Mode.{Mode}
use Rattle.link_frames.specs.declared.kinds.Side.TheVariants.{ToServers}
use Rattle.fidl_names.specs.declared.limits.TheConstants as limit
use Rattle.host_io.specs.Told.{Told}
use Rattle.vfs_script.specs.Scripts.{bad_line, frames_of, script_mode}
use Rattle.run_status.specs.Files.{IsWithin}

-- the text of a script, and the mode that it says
pub record Said : Type 0 where
  pub text : List ℕ
  pub by : Mode

-- the file is this script, and none of its lines is bad
pub record Says (told : Told) (said : Said) : Type 0 where
  pub within : IsWithin limit.MAX_TEXT told said.text
  pub good : bad_line said.text ≡ None
  pub mode : script_mode said.text ≡ Some said.by

-- it can be played: what it says are frames that may go to the servers
pub record IsPlayable (told : Told) (said : Said) : Type 0 where
  pub says : Says told said
  pub frames : All (IsFrame ToServers) (frames_of said.text)

-- the first bad line of the file; 0 where no line says the mode
pub record IsBadAt (told : Told) (line : ℕ) : Type 0 where
  pub text : List ℕ
  pub within : IsWithin limit.MAX_TEXT told text
  pub first : bad_line text ≡ Some line

-- Words of the steps in which a script is played; and of what text a script is.
use Rattle.std.specs.Prelude.{◌≡◌, ℕ, List, Some}
use Rattle.link_frames.specs.Frames.{spellings}
use Rattle.fidl_wire.specs.Names.{AreDistinct}
use Rattle.io_client.specs.Calls.{Calls}
use Rattle.vfs_journal.specs.Starts.{Start}
use Rattle.vfs_script.specs.Kept.{ScriptValue}
use Rattle.vfs_script.specs.Scripts.{calls_of, frames_of, script_mode}
use Rattle.vfs_world.specs.World.{World, StandsFor}
use Rattle.script_session.specs.Telling.{Knows}
use Rattle.script_session.specs.Playing.{Played}

-- what is kept of a script is its text's mode, frames and calls
pub record IsScript (text : List ℕ) (script : ScriptValue) : Type 0 where
  pub mode : script_mode text ≡ Some script.mode
  pub bytes : script.bytes ≡ spellings (frames_of text)
  pub calls : script.calls ≡ calls_of text

-- a script is played so far: the world stands for its journal, and what is known of calls is what
-- happened
pub record Plays (start : Start) (played : Played) (world : World) (calls : Calls) : Type 0 where
  pub distinct : AreDistinct
  pub stands : StandsFor start world played.journal
  pub knows : Knows played.past calls

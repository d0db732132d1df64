-- What holds of every script, for those above.
use Rattle.std.specs.Prelude.{ℕ, List, All}
use Rattle.fidl_names.specs.Numbers.{AreBytes}
use Rattle.link_frames.specs.Frames.{IsFrame, spellings}
use Rattle.link_frames.specs.declared.kinds.Side.TheVariants as side
use Rattle.vfs_script.specs.Scripts.{AreCalls, calls_of, frames_of}
use Rattle.vfs_script.proofs.FrameLaws.{frames_go}
use Rattle.vfs_script.proofs.ScriptLemmas.{calls_are}

-- what a script stands for are frames that may go to the servers
pub script_frames : (text : List ℕ) → AreBytes (spellings (frames_of text)) → All (IsFrame side.ToServers) (frames_of text)
script_frames text are = frames_go text are

-- each call has a reply, and a higher transaction id than those before it
pub script_calls : (text : List ℕ) → AreCalls 0 (calls_of text)
script_calls text = calls_are text

-- The output of a session, in which a directory is watched on the endpoint.
use Rattle.std.specs.Prelude.{◌≡◌, ◌↔◌, ℕ, true, Bool, All, Contains, List}
use Rattle.std.specs.Cmp.Lexicographic.{slice_cmp}
use Rattle.std.specs.List.Sorted.{IsStrictlySortedBy}
use Rattle.std.specs.Ordering.{nat_cmp}
use Rattle.link_frames.specs.Frames.{Frame, IsFrame}
use Rattle.link_frames.specs.declared.kinds.Mode.{Mode}
use Rattle.link_frames.specs.declared.kinds.Side.TheVariants.{ToServers}
use Rattle.node_graph.specs.Tree.{names_in}
use Rattle.session_start.specs.Accepted.{AreAccepted, HasFilesOfBytes}
use Rattle.session_start.specs.Items.{Lists}
use Rattle.vfs_journal.specs.History.{History, is_watcher, living, tree_at, trees_of}
use Rattle.vfs_journal.specs.Output.{output_of}
use Rattle.vfs_journal.specs.Past.{history_of}
use Rattle.vfs_journal.specs.Session.{ended}
use Rattle.vfs_journal.specs.Starts.{Bound, start_of}
use Rattle.session_laws.specs.Watching.{AsksForNames}
use Rattle.run_status.specs.Outside.{Streams, sink_of}
use Rattle.run_status.specs.Texts.{GotAll}
use Rattle.mirror_program.specs.Texts.{text_of}

-- all that these frames make of a session over an accepted tree, its last drain included
abbrev pub past_of : Lists → Mode → List Frame → History
past_of lists by sent = history_of (start_of lists) (ended (start_of lists) by sent)

-- what that session writes
abbrev pub written_by : Lists → Mode → List Frame → List ℕ
written_by lists by sent = output_of (start_of lists) (ended (start_of lists) by sent)

-- behind the last drain of that session the watcher lives, and its mask asks for names
pub record IsWatching (lists : Lists) (by : Mode) (sent : List Frame) (watcher : Bound) : Type 0 where
  pub accepted : AreAccepted lists
  pub of_bytes : HasFilesOfBytes lists
  pub each : All (IsFrame ToServers) sent
  pub lives : Contains (living (start_of lists) (past_of lists by sent)) watcher
  pub watches : is_watcher watcher.birth.protocol ≡ true
  pub asks : AsksForNames watcher

-- the names that were written are those of the watcher's directory in the last tree of its server, in the order of their bytes
pub record WroteItsNames (lists : Lists) (by : Mode) (sent : List Frame) (watcher : Bound) (before after : Streams) : Type 0 where
  pub names : List (List ℕ)
  pub gone : Bool
  pub wrote : GotAll (sink_of before) (sink_of after) (text_of names gone)
  pub ascending : IsStrictlySortedBy (slice_cmp nat_cmp) names
  pub named : (name : List ℕ) →
      Contains names name ↔ Contains (names_in (tree_at (trees_of (start_of lists) (past_of lists by sent)) watcher.server).edges watcher.birth.node) name

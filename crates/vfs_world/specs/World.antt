-- What a world stands for: one journal of a session over all servers of a start.
use Rattle.std.specs.Prelude.{◌≡◌, ℕ, Bool, false, List, ◌++◌}
use Rattle.link_admission.specs.Standings.{Known}
use Rattle.vfs_journal.specs.Entries.{Journal}
use Rattle.vfs_journal.specs.Lawful.{Lawful}
use Rattle.vfs_journal.specs.Output.{output_of}
use Rattle.vfs_journal.specs.Past.{history_of}
use Rattle.vfs_journal.specs.Starts.{Start}
use Rattle.vfs_journal.specs.View.{View}
use Rattle.journal_laws.specs.Knowing.{Knows}
use Rattle.journal_laws.specs.Soundness.{IsStart}
use Rattle.journal_laws.specs.Viewing.{view_behind}
use Rattle.message_queues.specs.Queues.{Queues}
use Rattle.vfs_server.specs.Servers.{Server}
use Rattle.vfs_world.specs.Holding.{HoldsEach, HoldsQueues}

-- the servers by their indexes, what waits, what is known of endpoints and tokens, and how many places of the journal are taken; whether
-- memory was wanting once, and how many frames were accepted
pub record World : Type 0 where
  pub servers : List Server
  pub queues : Queues
  pub known : Known
  pub places : ℕ
  pub spent : Bool
  pub frames : ℕ

-- it holds what is looked up in a view
pub record Holds (view : View) (world : World) : Type 0 where
  pub servers : HoldsEach view world.servers
  pub queues : HoldsQueues view world.queues
  pub places : world.places ≡ view.places

-- a world that isn't spent stands for a lawful journal: it knows what looking back says of endpoints and tokens, and holds the view behind it
pub record StandsFor (start : Start) (world : World) (journal : Journal) : Type 0 where
  pub able : world.spent ≡ false
  pub sound : IsStart start
  pub lawful : Lawful start journal
  pub knows : Knows start (history_of start journal) world.known
  pub holds : Holds (view_behind start journal) world

-- from standing for one journal a call leads to standing for another, and writes exactly what that has more of output
pub record LeadsTo (start : Start) (later : Journal) (new : World) (earlier : Journal) (before after : List ℕ) : Type 0 where
  pub stands : StandsFor start new later
  pub part : List ℕ
  pub more : output_of start later ≡ output_of start earlier ++ part
  pub written : after ≡ before ++ part

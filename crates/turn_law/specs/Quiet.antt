-- A session in which nobody changes anything: the trees stay the start's, no token is given, and nobody watches.
use Rattle.std.specs.Prelude.{◌≡◌, All, Contains, false, [], Some, None}
use Rattle.node_graph.specs.Tree.{stay}
use Rattle.conn_rules.specs.Answers.{nothing_told}
use Rattle.vfs_journal.specs.Entries.{Journal, Sending, Sent, message, hang_up}
use Rattle.vfs_journal.specs.History.{History, all_sent, births, is_watcher, trees_of}
use Rattle.vfs_journal.specs.Lawful.{Lawful}
use Rattle.vfs_journal.specs.Outcomes.{Outcome}
use Rattle.vfs_journal.specs.Past.{history_of}
use Rattle.vfs_journal.specs.Starts.{Bound, Start}
use Rattle.vfs_journal.specs.Tokens.{all_given}
use Rattle.journal_laws.specs.Soundness.{IsStart}
use Rattle.turn_law.specs.Premises.{Changes}

-- a sending that is no request which changes something
abbrev pub IsQuiet : Sending → Type 0
IsQuiet (message bytes handles) = ¬ (Changes bytes handles)
IsQuiet hang_up = Unit {0}

-- what clients sent is quiet; what went on behind mounts isn't asked about
abbrev pub ClientsAreQuiet : History → Type 0
ClientsAreQuiet history = (sent : Sent) → Contains (all_sent history) sent → sent.origin ≡ None → IsQuiet sent.sending

-- an endpoint that is bound watches nothing
abbrev pub IsNoWatcher : Bound → Type 0
IsNoWatcher bound = is_watcher bound.birth.protocol ≡ false

-- nothing changes, nobody is told of a change, no token is given, and whoever is bound watches nothing
pub record IsStill (outcome : Outcome) : Type 0 where
  pub stays : outcome.change ≡ stay
  pub untold : outcome.told ≡ nothing_told
  pub ungiven : outcome.token ≡ None
  pub bound : (bound : Bound) → outcome.bound ≡ Some bound → IsNoWatcher bound × (bound.mask ≡ 0)

-- and so looking back: the trees are the start's, no token was given, nobody watches, and what went on behind mounts is quiet too
pub record StaysStill (start : Start) (history : History) : Type 0 where
  pub trees : trees_of start history ≡ start.trees
  pub tokens : all_given history ≡ []
  pub born : All IsNoWatcher (births start history)
  pub sent : (sent : Sent) → Contains (all_sent history) sent → IsQuiet sent.sending

-- where clients send nothing that changes something, nothing changes
abbrev pub QuietSessionsStayStill : Type 0
QuietSessionsStayStill =
    (start : Start) (journal : Journal) → IsStart start → Lawful start journal → ClientsAreQuiet (history_of start journal) →
    StaysStill start (history_of start journal)

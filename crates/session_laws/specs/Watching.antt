-- What watchers are told, and what they know by it.
use Rattle.std.specs.Prelude.{◌≡◌, ◌↔◌, ℕ, true, Contains, IsTrue, List, [], map}
use Rattle.link_admission.specs.Numbering.{among}
use Rattle.node_graph.specs.Tree.{names_in}
use Rattle.watch_events.specs.Events.{Event}
use Rattle.watch_events.specs.Messages.{added, asks_for, existing, removed, watch_frame}
use Rattle.watch_events.specs.NamesNow.{is_named_now}
use Rattle.vfs_journal.specs.Deaths.{deaths_of}
use Rattle.vfs_journal.specs.Entries.{Sent}
use Rattle.vfs_journal.specs.History.{History, births, is_watcher, living, tree_at, trees_of}
use Rattle.vfs_journal.specs.Serving.{outcome_of}
use Rattle.vfs_journal.specs.Starts.{Bound, Start}
use Rattle.session_laws.specs.Sight.{AreWritten, messages_on, sight}

-- ---- sight

-- at one time: what was written on whatever is or was bound as a watcher is its sight
abbrev pub AreToldTheirSight : Start → History → Type 0
AreToldTheirSight start history =
    (watcher : Bound) → Contains (births start history) watcher → is_watcher watcher.birth.protocol ≡ true →
    messages_on start history watcher.endpoint ≡ map (watch_frame watcher.endpoint) (sight start watcher history)

-- of one serving: if a watcher dies of it, nobody is told anything, so that a sight goes up to its watcher's death and lacks nothing
abbrev pub DieOfNoChange : Start → History → Sent → Type 0
DieOfNoChange start past sent =
    (watcher : Bound) → Contains (living start past) watcher → is_watcher watcher.birth.protocol ≡ true →
    among watcher.endpoint (deaths_of past sent (outcome_of start past sent)) ≡ true → (outcome_of start past sent).told ≡ []

-- ---- names now

-- the messages on a watcher's endpoint are events, of one list alone; and the names that these stand for are those of its directory now
pub record KnowsItsNames (start : Start) (history : History) (watcher : Bound) : Type 0 where
  pub events : List Event
  pub written : AreWritten (messages_on start history watcher.endpoint) events
  pub alone : (others : List Event) → AreWritten (messages_on start history watcher.endpoint) others → others ≡ events
  pub named : (name : List ℕ) → IsTrue (is_named_now events name) ↔ Contains (names_in (tree_at (trees_of start history) watcher.server).edges watcher.birth.node) name

-- its mask asks for EXISTING, for ADDED and for REMOVED, the events that put a name in or take one out. DELETED and IDLE do neither, so that
-- it makes no difference whether the mask asks for these
pub record AsksForNames (watcher : Bound) : Type 0 where
  pub snapshot : asks_for watcher.mask existing ≡ true
  pub additions : asks_for watcher.mask added ≡ true
  pub removals : asks_for watcher.mask removed ≡ true

-- at one time: a watcher that lives and asks for names knows those of its directory, and also when that is gone: then it has none
abbrev pub KnowTheirNames : Start → History → Type 0
KnowTheirNames start history =
    (watcher : Bound) → Contains (living start history) watcher → is_watcher watcher.birth.protocol ≡ true → AsksForNames watcher →
    KnowsItsNames start history watcher

-- Servings by their steps: what the steps of one say together, and servings one after another, as a Turn, a Pick and a drain make them. Of
-- these a public clause needs served_in.
use Rattle.std.specs.Prelude.{◌≡◌, ◌≤◌, ◌<◌, ◌+◌, ◌++◌, ℕ, zero, suc, false, is_some, List, drop, filter, fold, length, Some}
use Rattle.link_frames.specs.Frames.{spellings}
use Rattle.link_admission.specs.Standings.{ended, gone, next_token_of}
use Rattle.vfs_journal.specs.Entries.{Journal, Sent}
use Rattle.vfs_journal.specs.History.{served_by}
use Rattle.vfs_journal.specs.View.{View}
use Rattle.message_queues.specs.Dying.{AreDeaths, Buries}
use Rattle.message_queues.specs.Oldest.{IsBound, IsBoundAt, IsOldest, NothingWaits}
use Rattle.message_queues.specs.Queues.{Queues, IsReady, Requeues, count, head_of, queue_of, server_of}
use Rattle.vfs_server.specs.declared.fate.Fate.{Fate}
use Rattle.vfs_server.specs.Servers.{Server}
use Rattle.vfs_world.specs.Holding.{HoldsEach}
use Rattle.vfs_world.specs.ServingSteps.{Answers, AreApart, BindsThere, ForgetsAll, SendsOn, bound_told, closed_for, end_told, first_told, is_sent_on, known_told, spent_told, without_in}
use Rattle.vfs_world.specs.World.{World}

-- ---- one serving

-- the first entry of an endpoint is answered at its server and taken, what is bound by it is bound for what waits, whoever dies is buried
-- and closed, the tokens that are spent are forgotten, what goes on is sent, and what is known and how many places are taken follows
pub record ServesHead (old : World) (endpoint server : ℕ) (sent : Sent) (new : World) (before after : List ℕ) : Type 0 where
  pub fate : Fate
  pub answered : List Server
  pub left : List Server
  pub q1 : Queues
  pub q2 : Queues
  pub q3 : Queues
  pub dead : List ℕ
  pub between : List ℕ
  pub answers : Answers old.servers server endpoint (next_token_of old.known) sent fate answered before between
  pub taken : Requeues old.queues endpoint (drop 1 (queue_of old.queues endpoint)) q1
  pub binds : BindsThere server (bound_told fate) q1 q2
  pub died : AreDeaths q2 (first_told sent fate) dead
  pub buried : Buries q2 dead q3
  pub goes : (view : View) → AreApart view.living → HoldsEach view answered → HoldsEach (without_in view dead) left
  pub forgets : ForgetsAll left (spent_told sent q2 dead) new.servers
  pub closed : after ≡ between ++ spellings (closed_for (end_told endpoint fate) dead)
  pub sends : SendsOn (old.places + 1) sent.place fate q3 new.queues
  pub known : new.known ≡ record (known_told fate (fold gone (fold ended old.known dead) (spent_told sent q2 dead))) { waiting = count new.queues }
  pub places : new.places ≡ old.places + 1 + is_sent_on fate
  pub able : new.spent ≡ false

-- the first entry of one of these endpoints, which is bound, is served
pub record ServesOne (These : ℕ → Type 0) (old new : World) (before after : List ℕ) : Type 0 where
  pub endpoint : ℕ
  pub server : ℕ
  pub sent : Sent
  pub one_of : These endpoint
  pub bound : server_of old.queues endpoint ≡ Some server
  pub waits : head_of old.queues endpoint ≡ Some sent
  pub served : ServesHead old endpoint server sent new before after

-- how many entries of a journal are servings
abbrev pub served_in : Journal → ℕ
served_in journal = length (filter (λ entry. is_some (served_by entry)) journal)

-- ---- servings one after another

abbrev pub IsSame : World → World → List ℕ → List ℕ → Type 0
IsSame old new before after = (new ≡ old) × (after ≡ before)

-- so many servings, each on an endpoint that the queues choose as they are then
abbrev pub ServesTimes : (Queues → ℕ → Type 0) → ℕ → World → World → List ℕ → List ℕ → Type 0
ServesTimes Chosen zero old new before after = IsSame old new before after
ServesTimes Chosen (suc more) old new before after =
    (next : World) × ((between : List ℕ) × (ServesOne (Chosen old.queues) old next before between × ServesTimes Chosen more next new between after))

-- the oldest of a server's endpoints, and of all that are bound
abbrev pub IsOldestAt : ℕ → Queues → ℕ → Type 0
IsOldestAt server queues endpoint = IsOldest queues (IsBoundAt queues server) endpoint

abbrev pub IsOldestOfAll : Queues → ℕ → Type 0
IsOldestOfAll queues endpoint = IsOldest queues (IsBound queues) endpoint

-- a Turn: so many servings of a server's oldest entries, at most as many as were asked for, and fewer only where nothing is left there
pub record IsTurn (server times done : ℕ) (old new : World) (before after : List ℕ) : Type 0 where
  pub most : done ≤ times
  pub serves : ServesTimes (IsOldestAt server) done old new before after
  pub last : done < times → NothingWaits new.queues (IsBoundAt new.queues server)

-- a Pick: an endpoint's first entry is served where it is bound and something waits there, and else nothing happens
pub record IsPick (endpoint : ℕ) (old new : World) (before after : List ℕ) : Type 0 where
  pub served : IsReady old.queues endpoint → ServesOne (λ one. one ≡ endpoint) old new before after
  pub idle : ¬ (IsReady old.queues endpoint) → IsSame old new before after

-- a drain: servings of the oldest entries of all, until nothing is left that can be served
pub record IsDrain (old new : World) (before after : List ℕ) : Type 0 where
  pub done : ℕ
  pub serves : ServesTimes IsOldestOfAll done old new before after
  pub last : NothingWaits new.queues (IsBound new.queues)

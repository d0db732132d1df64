-- The two parts of a serving: what comes before the deaths, and what comes with them. No public clause needs these.
use Rattle.std.specs.Prelude.{◌≡◌, ◌≤◌, ◌<◌, ◌+◌, ◌-◌, ◌^◌, ◌++◌, ◌∷◌, [], ℕ, All, List, drop, fold, None, Ok, slice_get, Some, true}
use Rattle.fidl_names.specs.declared.limits.TheConstants as limit
use Rattle.link_frames.specs.Frames.{spellings}
use Rattle.link_admission.specs.Numbering.{among}
use Rattle.link_admission.specs.Standings.{ended, gone, is_live, next_token_of, standing_of}
use Rattle.io_messages.specs.Asked.{Asked}
use Rattle.io_messages.specs.Requests.{request_of}
use Rattle.io_messages.specs.declared.protocols.Protocol.TheVariants as protocol
use Rattle.vfs_journal.specs.Entries.{Sent, endpoints_in, message}
use Rattle.vfs_journal.specs.View.{View}
use Rattle.message_queues.specs.Dying.{AreDeaths, Buries, tokens_on}
use Rattle.message_queues.specs.Queues.{IsAbove, Queues, Requeues, count, head_of, queue_of, server_of}
use Rattle.vfs_server.specs.declared.fate.Fate.{Fate}
use Rattle.vfs_server.specs.declared.fate.Fate.TheVariants as fates
use Rattle.vfs_server.specs.Servers.{Server, seen}
use Rattle.vfs_world.specs.Holding.{HoldsEach}
use Rattle.vfs_world.specs.Running.{IsRunning}
use Rattle.vfs_world.specs.Servings.{ServesOne}
use Rattle.vfs_world.specs.ServingSteps.{Answers, AreApart, BindsThere, CanGo, ForgetsAll, SendsOn, bound_told, closed_for, end_told, first_told, is_sent_on, known_told, spent_told, without_in}
use Rattle.vfs_world.specs.World.{World}

-- the first entry of an endpoint that is bound at a server is taken from what waits, and nothing else happens
pub record Takes (old : World) (endpoint server : ℕ) (sent : Sent) (new : World) : Type 0 where
  pub bound : server_of old.queues endpoint ≡ Some server
  pub first : head_of old.queues endpoint ≡ Some sent
  pub taken : Requeues old.queues endpoint (drop 1 (queue_of old.queues endpoint)) new.queues
  pub count : count new.queues + 1 ≡ count old.queues
  pub same : new ≡ record old { queues = new.queues }

-- it was taken so from a world that runs
abbrev pub WasTaken : ℕ → ℕ → Sent → World → Type 0
WasTaken endpoint server sent world = (from : World) × (IsRunning limit.MAX_PLACES from × Takes from endpoint server sent world)

-- a message without handles in which a file reads this request
pub record AsksFile (sent : Sent) (txid : ℕ) (a : Asked) : Type 0 where
  pub bytes : List ℕ
  pub sending : sent.sending ≡ message bytes []
  pub asks : request_of protocol.File bytes [] ≡ Ok (txid, a)

-- what was taken is served: behind whatever world that runs it was taken from, that one's first entry is served, and it runs on
pub record ServesTaken (endpoint server : ℕ) (sent : Sent) (old new : World) (before after : List ℕ) : Type 0 where
  pub served : (from : World) → IsRunning limit.MAX_PLACES from → Takes from endpoint server sent old → ServesOne (λ one. one ≡ endpoint) from new before after
  pub running : (most : ℕ) (from : World) → IsRunning limit.MAX_PLACES from → IsRunning most from → Takes from endpoint server sent old → IsRunning most new

-- the first entry of an endpoint is answered at its server and taken, and what is bound by it is bound for what waits
pub record TakesHead (old : World) (endpoint server : ℕ) (sent : Sent) (fate : Fate) (new : World) (before after : List ℕ) : Type 0 where
  pub left : Queues
  pub bound : server_of old.queues endpoint ≡ Some server
  pub first : head_of old.queues endpoint ≡ Some sent
  pub answers : Answers old.servers server endpoint (next_token_of old.known) sent fate new.servers before after
  pub taken : Requeues old.queues endpoint (drop 1 (queue_of old.queues endpoint)) left
  pub binds : BindsThere server (bound_told fate) left new.queues
  pub count : count new.queues + 1 ≡ count old.queues
  pub known : new.known ≡ record old.known { waiting = old.known.waiting - 1 }
  pub places : new.places ≡ old.places

-- an endpoint is bound nowhere, neither at a server nor for what waits
pub record IsUnbound (world : World) (endpoint : ℕ) : Type 0 where
  pub waiting : server_of world.queues endpoint ≡ None
  pub servers : (index : ℕ) (one : Server) → slice_get world.servers index ≡ Some one → seen one endpoint ≡ None

-- what was answered can be settled: whoever dies of it lives till then, one that is refused and was carried is bound nowhere, each token that
-- is spent is out, an Open goes on to a mount's end, what waits is counted and came earlier, and there is room for one more and a place for it
pub record CanSettle (world : World) (sent : Sent) (fate : Fate) : Type 0 where
  pub live : (dead : List ℕ) → AreDeaths world.queues (first_told sent fate) dead → All (λ endpoint. is_live (standing_of world.known endpoint) ≡ true) dead
  pub unbound : (object : ℕ) → fate ≡ fates.Refuses object → among object (endpoints_in sent) ≡ true → IsUnbound world object
  pub out : (dead : List ℕ) → AreDeaths world.queues (first_told sent fate) dead → CanGo world.known (spent_told sent world.queues dead)
  pub counted : count world.queues ≡ world.known.waiting
  pub low : (mount object flags : ℕ) (rest : List (List ℕ)) → fate ≡ fates.Forwards mount object flags rest → mount < 2 ^ 30
  pub newest : IsAbove world.queues world.places
  pub few : count world.queues < limit.MAX_WAITING
  pub places : world.places < 2 ^ 62

-- whoever dies is buried and closed, and these tokens were carried by what waited on them
pub record LetsDie (old : World) (sent : Sent) (fate : Fate) (dropped : List ℕ) (new : World) (before after : List ℕ) : Type 0 where
  pub dead : List ℕ
  pub died : AreDeaths old.queues (first_told sent fate) dead
  pub buried : Buries old.queues dead new.queues
  pub tokens : dropped ≡ tokens_on old.queues dead
  pub goes : (view : View) → AreApart view.living → HoldsEach view old.servers → HoldsEach (without_in view dead) new.servers
  pub closed : after ≡ before ++ spellings (closed_for (end_told sent.endpoint fate) dead)
  pub known : new.known ≡ record (fold ended old.known dead) { waiting = count new.queues }
  pub count : count new.queues ≤ count old.queues
  pub places : new.places ≡ old.places

-- an endpoint is buried with which nobody dies, and on which nothing waited
pub record DiesAlone (old : World) (end : ℕ) (new : World) : Type 0 where
  pub died : AreDeaths old.queues (end ∷ []) (end ∷ [])
  pub buried : Buries old.queues (end ∷ []) new.queues
  pub tokens : tokens_on old.queues (end ∷ []) ≡ []
  pub goes : (view : View) → AreApart view.living → HoldsEach view old.servers → HoldsEach (without_in view (end ∷ [])) new.servers
  pub known : new.known ≡ ended old.known end
  pub count : count new.queues ≡ count old.queues
  pub places : new.places ≡ old.places

-- whoever dies is buried and closed, the tokens that are spent are forgotten, what goes on is sent, and what is known and how many places
-- are taken follows
pub record SettlesHead (old : World) (sent : Sent) (fate : Fate) (new : World) (before after : List ℕ) : Type 0 where
  pub dead : List ℕ
  pub left : Queues
  pub those : List Server
  pub died : AreDeaths old.queues (first_told sent fate) dead
  pub buried : Buries old.queues dead left
  pub goes : (view : View) → AreApart view.living → HoldsEach view old.servers → HoldsEach (without_in view dead) those
  pub forgets : ForgetsAll those (spent_told sent old.queues dead) new.servers
  pub closed : after ≡ before ++ spellings (closed_for (end_told sent.endpoint fate) dead)
  pub sends : SendsOn (old.places + 1) sent.place fate left new.queues
  pub known : new.known ≡ record (known_told fate (fold gone (fold ended old.known dead) (spent_told sent old.queues dead))) { waiting = count new.queues }
  pub places : new.places ≡ old.places + 1 + is_sent_on fate

-- all that settling does, but that the place of the serving isn't taken yet, and nothing is written
abbrev pub SettlesButPlace : World → Sent → Fate → World → Type 0
SettlesButPlace old sent fate new =
    (new.places ≡ old.places) × ((bytes : List ℕ) → SettlesHead old sent fate (record new { places = new.places + 1 }) bytes bytes)

-- Words of the steps: which first entries are kept in order, and what every value keeps. No public clause cites them.
use Rattle.std.specs.Prelude.{◌≡◌, ◌↔◌, ◌≤◌, ◌<◌, ◌^◌, ◌++◌, ◌||◌, ◌==◌, ℕ, true, false, List, [], ◌∷◌, IsSome, drop, filter, flat_map, get_or, is_none, length, map, nat_eq, nat_lt, not, set, slice_get, Option, Some, None, if◌then◌else◌}
use Rattle.std.specs.FinMap as finite
use Rattle.std.specs.List.{IsDistinct, list_any}
use Rattle.std.specs.Map.{keys_of}
use Rattle.std.specs.Ordering.{nat_cmp}
use Rattle.std.specs.Prelude.{eqb}
use Rattle.std.specs.BTreeMap.{is_at}
use Rattle.fidl_names.specs.declared.limits.TheConstants as limit
use Rattle.link_admission.specs.Numbering.{among}
use Rattle.vfs_journal.specs.Entries.{Sent, endpoints_in, tokens_in}
use Rattle.message_queues.specs.Queues.{Mailbox, Queues, count, head_of, queue_of, server_of}

-- of one server, for a place the endpoint whose first entry stands there
abbrev pub Heads : Type 0
Heads = finite.FinMap nat_cmp ℕ

-- of the heads of all servers those of one: none where there is no such server
abbrev pub heads_of : List Heads → ℕ → Heads
heads_of heads server = get_or heads server finite.empty

-- the endpoint whose first entry stands at a server and a place there
abbrev pub head_at : List Heads → ℕ × ℕ → Option ℕ
head_at heads key = finite.get (heads_of heads key.0) key.1

-- the places of what waits on an endpoint
abbrev pub places_of : Queues → ℕ → List ℕ
places_of queues endpoint = map (λ sent. sent.place) (queue_of queues endpoint)

-- no number stands twice
abbrev pub AreOnce : List ℕ → Type 0
AreOnce [] = Unit {0}
AreOnce (number ∷ numbers) = (among number numbers ≡ false) × AreOnce numbers

-- the server of a first entry and its place there
abbrev pub turn_by : Option ℕ → Option Sent → Option (ℕ × ℕ)
turn_by (Some server) (Some sent) = Some (server, sent.place)
turn_by _ _ = None

abbrev pub turn_of : Queues → ℕ → Option (ℕ × ℕ)
turn_of queues endpoint = turn_by (server_of queues endpoint) (head_of queues endpoint)

-- at each key stands the endpoint whose turn is there
abbrev pub AreTurns : List Heads → (ℕ → Option (ℕ × ℕ)) → Type 0
AreTurns heads turn = (key : ℕ × ℕ) (endpoint : ℕ) → (head_at heads key ≡ Some endpoint) ↔ (turn endpoint ≡ Some key)

-- each server has its heads, which are those of the bound endpoints, no two entries have one place, and the count is that of what waits
pub record IsKept (queues : Queues) (heads : List Heads) (counted : ℕ) : Type 0 where
  pub each : length heads ≡ queues.servers
  pub turns : AreTurns heads (turn_of queues)
  pub once : (endpoint : ℕ) → AreOnce (places_of queues endpoint)
  pub apart : (one other place : ℕ) → among place (places_of queues one) ≡ true → among place (places_of queues other) ≡ true → one ≡ other
  pub within : (endpoint server : ℕ) → server_of queues endpoint ≡ Some server → server < queues.servers
  pub counts : counted ≡ count queues
  pub few : counted ≤ limit.MAX_WAITING

-- the queues of a table's entries, and what is kept of them
abbrev pub queues_with : List (ℕ × Mailbox) → ℕ → Queues
queues_with entries servers = record { boxes = finite.from_entries entries; servers = servers }

pub record IsSound (entries : List (ℕ × Mailbox)) (heads : List Heads) (counted servers : ℕ) : Type 0 where
  pub kept : IsKept (queues_with entries servers) heads counted
  pub distinct : IsDistinct nat_eq (keys_of entries)

-- a list of 32-bit numbers, each once, and the set of them
pub record IsListed (found keys : List ℕ) : Type 0 where
  pub same : (number : ℕ) → list_any (is_at (nat_cmp number)) keys ≡ among number found
  pub once : IsDistinct eqb found
  pub small : (number : ℕ) → among number found ≡ true → number < 2 ^ 32

-- these were added where they weren't there, behind all others
pub record Adds (numbers old new : List ℕ) : Type 0 where
  pub behind : (more : List ℕ) × (new ≡ old ++ more)
  pub members : (number : ℕ) → among number new ≡ (among number old || among number numbers)

-- who was found to die, and the tokens that what waits on them carries
pub record Doomed : Type 0 where
  pub found : List ℕ
  pub tokens : List ℕ

-- what these entries carry was added: the endpoints where they weren't there, and the tokens behind all others
pub record Gathers (entries : List Sent) (old new : Doomed) : Type 0 where
  pub found : Adds (flat_map endpoints_in entries) old.found new.found
  pub tokens : new.tokens ≡ old.tokens ++ flat_map tokens_in entries

-- numbers with one more behind them, if it isn't there
abbrev pub with_number : List ℕ → ℕ → List ℕ
with_number numbers number = if among number numbers then numbers else numbers ++ number ∷ []

-- of two first entries, each a place and an endpoint, the older one
abbrev pub older : Option (ℕ × ℕ) → Option (ℕ × ℕ) → Option (ℕ × ℕ)
older (Some one) (Some other) = if nat_lt other.0 one.0 then Some other else Some one
older (Some one) None = Some one
older None other = other

-- a mailbox of an endpoint that isn't bound and on which nothing waits
abbrev pub no_box : Mailbox
no_box = record { server = None; queue = [] }

-- a mailbox that is bound, has one entry more, or has lost its first
abbrev pub bound_box : Mailbox → ℕ → Mailbox
bound_box box server = record { server = Some server; queue = box.queue }

abbrev pub pushed_box : Mailbox → Sent → Mailbox
pushed_box box sent = record { server = box.server; queue = box.queue ++ sent ∷ [] }

abbrev pub popped_box : Mailbox → Mailbox
popped_box box = record { server = box.server; queue = drop 1 box.queue }

-- what is a first entry once it is pushed
abbrev pub first_pushed : Mailbox → Sent → Option Sent
first_pushed box sent = if is_none (slice_get box.queue 0) then Some sent else None

-- the heads of all servers with an endpoint at its turn, and without a turn
abbrev pub put_turn : List Heads → Option (ℕ × ℕ) → ℕ → List Heads
put_turn heads (Some key) endpoint = set heads key.0 (finite.insert (heads_of heads key.0) key.1 endpoint)
put_turn heads None endpoint = heads

abbrev pub drop_turn : List Heads → Option (ℕ × ℕ) → List Heads
drop_turn heads (Some key) = set heads key.0 (finite.remove (heads_of heads key.0) key.1)
drop_turn heads None = heads

-- the heads of a line beside others: at a place in the line counts what stands there
abbrev pub heads_with : List (ℕ × ℕ) → Heads → Heads
heads_with [] others = others
heads_with (head ∷ line) others = finite.insert (heads_with line others) head.0 head.1

-- all of a line stand behind a place, or before it
abbrev pub AreBehind : ℕ → List (ℕ × ℕ) → Type 0
AreBehind place [] = Unit {0}
AreBehind place (head ∷ line) = (place < head.0) × AreBehind place line

abbrev pub AreBefore : ℕ → List (ℕ × ℕ) → Type 0
AreBefore place [] = Unit {0}
AreBefore place (head ∷ line) = (head.0 < place) × AreBefore place line

-- the places in a line rise
abbrev pub IsRising : List (ℕ × ℕ) → Type 0
IsRising [] = Unit {0}
IsRising (head ∷ line) = AreBehind head.0 line × IsRising line

-- a line without what stands at a place
abbrev pub without_place : ℕ → List (ℕ × ℕ) → List (ℕ × ℕ)
without_place place line = filter (λ head. not (head.0 == place)) line

-- the least place of these heads with its endpoint, or that nothing stands there
abbrev pub IsLeast : Heads → Option (ℕ × ℕ) → Type 0
IsLeast heads None = (place : ℕ) → finite.get heads place ≡ None
IsLeast heads (Some head) = (finite.get heads head.0 ≡ Some head.1) × ((place : ℕ) → IsSome (finite.get heads place) → head.0 ≤ place)

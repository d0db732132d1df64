-- Which endpoint is served next.
use Rattle.std.specs.Prelude.{◌≡◌, ◌≤◌, ℕ, IsSome, [], Some}
use Rattle.vfs_journal.specs.Entries.{Sent}
use Rattle.message_queues.specs.Queues.{Queues, head_of, queue_of, server_of}

-- an endpoint is bound at a server, and anywhere
abbrev pub IsBoundAt : Queues → ℕ → ℕ → Type 0
IsBoundAt queues server endpoint = server_of queues endpoint ≡ Some server

abbrev pub IsBound : Queues → ℕ → Type 0
IsBound queues endpoint = IsSome (server_of queues endpoint)

-- one of these endpoints, whose first entry is older than the first entries of all others
pub record IsOldest (queues : Queues) (These : ℕ → Type 0) (endpoint : ℕ) : Type 0 where
  pub sent : Sent
  pub one_of : These endpoint
  pub waits : head_of queues endpoint ≡ Some sent
  pub least : (other : ℕ) (later : Sent) → These other → head_of queues other ≡ Some later → sent.place ≤ later.place

-- nothing waits on any of these endpoints
abbrev pub NothingWaits : Queues → (ℕ → Type 0) → Type 0
NothingWaits queues These = (endpoint : ℕ) → These endpoint → queue_of queues endpoint ≡ []

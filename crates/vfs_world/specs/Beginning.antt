-- Words of the steps by which a session begins. No public clause needs these.
use Rattle.std.specs.Prelude.{◌≡◌, ◌==◌, ℕ, List, [], find, length}
use Rattle.std.specs.Option.{option_map}
use Rattle.vfs_journal.specs.Starts.{Bound, Start}
use Rattle.message_queues.specs.Queues.{Queues, queue_of, server_of}

-- nothing waits at the servers of a start, and these are bound and no others
pub record BindsJust (start : Start) (bounds : List Bound) (queues : Queues) : Type 0 where
  pub waiting : (endpoint : ℕ) → queue_of queues endpoint ≡ []
  pub bound : (endpoint : ℕ) → server_of queues endpoint ≡ option_map (λ bound. bound.server) (find (λ bound. bound.endpoint == endpoint) bounds)
  pub those : queues.servers ≡ length start.trees

-- That servers and queues hold what is looked up in a view: server by server, and endpoint by endpoint.
use Rattle.std.specs.Prelude.{◌≡◌, ℕ, List, length, slice_get, Some}
use Rattle.std.specs.Option.{option_map}
use Rattle.vfs_journal.specs.View.{View, at_in, queue_in}
use Rattle.message_queues.specs.Queues.{Queues, queue_of, server_of}
use Rattle.vfs_server.specs.Holding.{HoldsAt}
use Rattle.vfs_server.specs.Servers.{Server}

-- there is a server for each tree, and each has its place for an index
pub record HoldsEach (view : View) (servers : List Server) : Type 0 where
  pub many : length servers ≡ length view.trees
  pub index : (index : ℕ) (server : Server) → slice_get servers index ≡ Some server → server.index ≡ index
  pub each : (index : ℕ) (server : Server) → slice_get servers index ≡ Some server → HoldsAt view server

-- on each endpoint waits what was sent there, and it is bound where the view says
pub record HoldsQueues (view : View) (queues : Queues) : Type 0 where
  pub queue : (endpoint : ℕ) → queue_of queues endpoint ≡ queue_in view endpoint
  pub bound : (endpoint : ℕ) → server_of queues endpoint ≡ option_map (λ pair. pair.0.server) (at_in view endpoint)
  pub those : queues.servers ≡ length view.trees

-- What holds of all queues.
use Rattle.std.specs.Prelude.{◌≡◌, ◌==◌, ℕ, List, filter, length}
use Rattle.vfs_journal.specs.Entries.{Sent}
use Rattle.message_queues.specs.Queues.{Queues, count, queue_of}

-- the queue of each endpoint is what a list has of it, in the order of the list
abbrev pub HasQueuesOf : Queues → List Sent → Type 0
HasQueuesOf queues waiting = (endpoint : ℕ) → queue_of queues endpoint ≡ filter (λ sent. sent.endpoint == endpoint) waiting

-- as many wait as such a list has
abbrev pub QueuesCountTheirList : Type 0
QueuesCountTheirList = (queues : Queues) (waiting : List Sent) → HasQueuesOf queues waiting → count queues ≡ length waiting

-- Which endpoints die with others, and what is left.
use Rattle.std.specs.Prelude.{◌≡◌, ◌≢◌, ℕ, Bool, true, All, AllPairs, List, [], None, if◌then◌else◌}
use Rattle.std.specs.List.{flat_map}
use Rattle.link_admission.specs.Numbering.{among}
use Rattle.vfs_journal.specs.Entries.{endpoints_in, tokens_in}
use Rattle.message_queues.specs.Queues.{Queues, queue_of, server_of}

-- a set has all of these
abbrev pub HasAll : (ℕ → Bool) → List ℕ → Type 0
HasAll set numbers = (number : ℕ) → among number numbers ≡ true → set number ≡ true

-- what waits on an endpoint of the set carries no other endpoint
abbrev pub IsClosed : Queues → (ℕ → Bool) → Type 0
IsClosed queues set = (endpoint : ℕ) → set endpoint ≡ true → All (λ sent. HasAll set (endpoints_in sent)) (queue_of queues endpoint)

-- who dies with the first ones: the least set that has these and is closed, each of it once
pub record AreDeaths (queues : Queues) (firsts dead : List ℕ) : Type 0 where
  pub first : HasAll (λ endpoint. among endpoint dead) firsts
  pub closed : IsClosed queues (λ endpoint. among endpoint dead)
  pub least : (set : ℕ → Bool) → HasAll set firsts → IsClosed queues set → HasAll set dead
  pub once : AllPairs (λ one other. one ≢ other) dead

-- nothing waits on the dead, none of them is bound, and all else is as it was
pub record Buries (old : Queues) (dead : List ℕ) (new : Queues) : Type 0 where
  pub waiting : (endpoint : ℕ) → queue_of new endpoint ≡ (if among endpoint dead then [] else queue_of old endpoint)
  pub bound : (endpoint : ℕ) → server_of new endpoint ≡ (if among endpoint dead then None else server_of old endpoint)
  pub those : new.servers ≡ old.servers

-- the tokens that what waits on these carries
abbrev pub tokens_on : Queues → List ℕ → List ℕ
tokens_on queues endpoints = flat_map (λ endpoint. flat_map tokens_in (queue_of queues endpoint)) endpoints

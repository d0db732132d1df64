-- What holds of every request and all handles.
use Rattle.std.specs.Prelude.{◌≡◌, ℕ, ◌^◌, ◌<◌, ◌≤◌, true, List, length, Contains, Ok}
use Rattle.fidl_names.specs.declared.methods.Handle.{Handle}
use Rattle.fidl_names.specs.declared.methods.Handle.TheVariants.{Endpoint}
use Rattle.io_messages.specs.declared.protocols.Protocol.{Protocol}
use Rattle.io_messages.specs.Asked.{Asked, method_of}
use Rattle.io_messages.specs.Asked as asks
use Rattle.io_messages.specs.Protocols.{has_method}
use Rattle.io_messages.specs.Requests.{IsAsked, Reads, has_txid, request_of}
use Rattle.io_messages.specs.Shapes.{is_one_way}
use Rattle.io_messages.specs.Writing.{request_bytes, request_handles, IsRequest}

-- two readings as a request are one, whatever their endpoints speak
abbrev pub RequestsAreAskedOnce : Type 0
RequestsAreAskedOnce =
    (bytes : List ℕ) (handles : List Handle) (t u : ℕ) (a b : Asked) →
    IsAsked bytes handles t a → IsAsked bytes handles u b → (t ≡ u) × (a ≡ b)

-- so are two readings as a request to one protocol
abbrev pub RequestsAreReadOnce : Type 0
RequestsAreReadOnce =
    (p : Protocol) (bytes : List ℕ) (handles : List Handle) (t u : ℕ) (a b : Asked) → Reads p bytes handles t a → Reads p bytes handles u b → (t ≡ u) × (a ≡ b)

-- what is written for a request is that request, to each protocol that has its method
abbrev pub WrittenRequestsAreRead : Type 0
WrittenRequestsAreRead =
    (p : Protocol) (t : ℕ) (a : Asked) → has_method p (method_of a) ≡ true → t < 2 ^ 32 → has_txid (is_one_way (method_of a)) t ≡ true → IsRequest a → Reads p (request_bytes t a) (request_handles a) t a

-- the endpoint that a request carries is among these handles
abbrev pub Carries : Asked → List Handle → Type 0
Carries (asks.clone endpoint) handles = Contains handles (Endpoint endpoint)
Carries (asks.open_path path flags attributes object) handles = Contains handles (Endpoint object)
Carries (asks.watch mask options watcher) handles = Contains handles (Endpoint watcher)
Carries _ handles = Unit {0}

-- the endpoint that a request carries came with its message
abbrev pub RequestsCarryTheirEndpoints : Type 0
RequestsCarryTheirEndpoints =
    (p : Protocol) (bytes : List ℕ) (handles : List Handle) (t : ℕ) (a : Asked) → Reads p bytes handles t a → Carries a handles

-- a request that bytes and handles are is the one that reading them finds
abbrev pub RequestsAreFound : Type 0
RequestsAreFound =
    (p : Protocol) (bytes : List ℕ) (handles : List Handle) (t : ℕ) (a : Asked) → Reads p bytes handles t a → request_of p bytes handles ≡ Ok (t, a)

-- and what reading finds is a request that they are
abbrev pub FoundRequestsAreRead : Type 0
FoundRequestsAreRead =
    (p : Protocol) (bytes : List ℕ) (handles : List Handle) (t : ℕ) (a : Asked) → request_of p bytes handles ≡ Ok (t, a) → Reads p bytes handles t a

-- no bytes that are a request are fewer than those that are written for it
abbrev pub RequestsAreShortest : Type 0
RequestsAreShortest =
    (bytes : List ℕ) (handles : List Handle) (t : ℕ) (a : Asked) → IsAsked bytes handles t a → length (request_bytes t a) ≤ length bytes

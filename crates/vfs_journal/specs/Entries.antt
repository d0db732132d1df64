-- The journal of a session: what was sent, served and refused, in order of happening.
use Rattle.std.specs.Prelude.{ℕ, Bool, true, false, not, List, [], filter, Option}
use Rattle.link_frames.specs.declared.kinds.Refusal.{Refusal}
use Rattle.fidl_names.specs.HandleNumber.{is_client}

-- what was sent on an endpoint: a message with the numbers of its handles, or that the client closed it
pub data Sending : Type 0 where
  message : (bytes handles : List ℕ) → Sending
  hang_up : Sending

-- an admitted sending, with its place in the journal; a forwarded Open has the place of the Open that it comes from
pub record Sent : Type 0 where
  pub place : ℕ
  pub endpoint : ℕ
  pub sending : Sending
  pub origin : Option ℕ

-- something was sent; something that was sent is served; a frame was refused
pub data Entry : Type 0 where
  sends : Sent → Entry
  serves : Sent → Entry
  refuses : (endpoint : ℕ) → Refusal → Entry

-- the newest entry stands first, so that what follows an entry is its past
abbrev pub Journal : Type 0
Journal = List Entry

-- the handles that a sending carries
abbrev pub handles_of : Sending → List ℕ
handles_of (message bytes handles) = handles
handles_of hang_up = []

-- the endpoints among them
abbrev pub endpoints_in : Sent → List ℕ
endpoints_in sent = filter is_client (handles_of sent.sending)

-- and the tokens
abbrev pub tokens_in : Sent → List ℕ
tokens_in sent = filter (λ number. not (is_client number)) (handles_of sent.sending)

abbrev pub is_hang_up : Sending → Bool
is_hang_up (message bytes handles) = false
is_hang_up hang_up = true

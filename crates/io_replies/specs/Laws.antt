-- What holds of every reply, every event and all handles.
use Rattle.std.specs.Prelude.{◌≡◌, ℕ, ◌^◌, ◌<◌, List, Option, IfSome}
use Rattle.fidl_names.specs.declared.methods.Handle.{Handle}
use Rattle.io_messages.specs.declared.protocols.Protocol.{Protocol}
use Rattle.io_messages.specs.Kinds.{announced_as}
use Rattle.io_messages.specs.Replies.{Answered}
use Rattle.io_messages.specs.Replies as answers
use Rattle.io_messages.specs.ReplyWriting.{HasReply, PayloadFits, reply_bytes, reply_handles, event_bytes}
use Rattle.io_replies.specs.Reading.{IsFrameworkError, IsReply, ReadsReply, ReadsEvent}

-- two readings as a reply are one
abbrev pub RepliesAreReadOnce : Type 0
RepliesAreReadOnce =
    (bytes : List ℕ) (handles : List Handle) (t u : ℕ) (a b : Answered) → ReadsReply bytes handles t a → ReadsReply bytes handles u b → (t ≡ u) × (a ≡ b)

-- the framework's error is no method's reply
abbrev pub FrameworkErrorIsNoReply : Type 0
FrameworkErrorIsNoReply =
    (bytes : List ℕ) (handles : List Handle) (t u ordinal : ℕ) (a : Answered) → IsFrameworkError bytes handles t ordinal → IsReply bytes handles u a → ⊥

-- two readings as an event are one
abbrev pub EventsAreReadOnce : Type 0
EventsAreReadOnce = (bytes : List ℕ) (k l : Protocol) → ReadsEvent bytes k → ReadsEvent bytes l → k ≡ l

-- a number that is there has eight bytes
abbrev pub IsLong : Option ℕ → Type 0
IsLong value = IfSome value (λ x. x < 2 ^ 64)

-- each number has the size of its field
abbrev pub NumbersFit : Answered → Type 0
NumbersFit (answers.counted m x) = x < 2 ^ 64
NumbersFit (answers.attributes a) =
    IsLong a.protocols × IsLong a.abilities × IsLong a.content_size × IsLong a.link_count × IsLong a.id
NumbersFit (answers.unknown ordinal) = ordinal < 2 ^ 64
NumbersFit _ = Unit {0}

-- what is written for a reply is that reply
abbrev pub WrittenRepliesAreRead : Type 0
WrittenRepliesAreRead =
    (t : ℕ) (a : Answered) → 0 < t → t < 2 ^ 32 → HasReply a → PayloadFits a → NumbersFit a → ReadsReply (reply_bytes t a) (reply_handles a) t a

-- what is written for a kind is an event that tells what it announces itself as
abbrev pub WrittenEventsAreRead : Type 0
WrittenEventsAreRead = (k : Protocol) → ReadsEvent (event_bytes k) (announced_as k)

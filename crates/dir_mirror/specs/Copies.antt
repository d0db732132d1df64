-- What a copy of a watched directory stands for: the frames that were taken.
use Rattle.std.specs.Prelude.{◌≡◌, ℕ, ◌≤◌, ◌==◌, ◌&&◌, ◌||◌, ◌↔◌, Bool, true, false, IsTrue, All, Contains, filter, List, [], ◌∷◌, ◌++◌, refl}
use Rattle.std.specs.Coded.{Coded, code_by, coded×, coded_ℕ, coded_bool, coded_list}
use Rattle.std.specs.Cmp.Lexicographic.{slice_cmp}
use Rattle.std.specs.List.{list_any}
use Rattle.std.specs.List.Sorted.{IsStrictlySortedBy}
use Rattle.std.specs.Ordering.{nat_cmp}
use Rattle.link_frames.specs.Frames.{Frame}
use Rattle.link_frames.specs.declared.kinds.FrameKind.{FrameKind}
use Rattle.link_frames.specs.declared.kinds.FrameKind.TheVariants as kind
use Rattle.watch_events.specs.Events.{AreEvents, Event}
use Rattle.watch_events.specs.Messages.{deleted, idle}
use Rattle.watch_events.specs.NamesNow.{is_named_now}

-- the endpoint that it is of, the names of the directory, and whether that was said to be gone
pub record Copy : Type 0 where
  pub endpoint : ℕ
  pub names : List (List ℕ)
  pub ended : Bool

abbrev pub copy_code : Coded Copy
copy_code =
    code_by (ℕ × (List (List ℕ) × Bool)) (coded× coded_ℕ (coded× (coded_list (coded_list coded_ℕ)) coded_bool))
    (λ c. (c.endpoint, (c.names, c.ended))) (λ p. record { endpoint = p.0; names = p.1.0; ended = p.1.1 }) (λ _. refl)

-- ---- frames

abbrev pub is_message : FrameKind → Bool
is_message kind.Message = true
is_message other = false

abbrev pub is_close : FrameKind → Bool
is_close kind.Close = true
is_close other = false

abbrev pub is_message_on : ℕ → Frame → Bool
is_message_on endpoint frame = is_message frame.kind && (frame.endpoint == endpoint)

abbrev pub is_close_on : ℕ → Frame → Bool
is_close_on endpoint frame = is_close frame.kind && (frame.endpoint == endpoint)

-- what a frame that is no message on the endpoint makes of the copy: a Close frame there ends it, and all else stays
abbrev pub behind_other : Copy → Frame → Copy
behind_other copy frame = record copy { ended = is_close_on copy.endpoint frame || copy.ended }

-- ---- events

-- the bytes of a message are these events and no more, and each is an event that there is
pub record AreGood (bytes : List ℕ) (events : List Event) : Type 0 where
  pub whole : AreEvents bytes events []
  pub known : All (λ one. one.event ≤ idle) events

-- a message on the endpoint has good events; other frames need none
abbrev pub HasGoodEvents : ℕ → Frame → Type 0
HasGoodEvents endpoint frame = is_message_on endpoint frame ≡ true → (events : List Event) × AreGood frame.bytes events

-- it is a message on the endpoint, and no good events are its bytes
abbrev pub HasBadEvents : ℕ → Frame → Type 0
HasBadEvents endpoint frame = (is_message_on endpoint frame ≡ true) × ((events : List Event) → AreGood frame.bytes events → ⊥)

-- the messages on an endpoint
abbrev pub messages_on : ℕ → List Frame → List Frame
messages_on endpoint frames = filter (is_message_on endpoint) frames

-- each of these messages has good events, and these are they, one message after the other
abbrev pub AreTold : List Frame → List Event → Type 0
AreTold [] events = events ≡ []
AreTold (message ∷ later) events =
    (here : List Event) × (others : List Event) × AreGood message.bytes here × AreTold later others × (events ≡ here ++ others)

-- an event says that the directory is gone
abbrev pub is_deletion : Event → Bool
is_deletion one = one.event == deleted

-- ---- copies

-- the copy has these names: in the order of their bytes, those that the events stand for; and it has ended where one of them says
-- that the directory is gone, or a Close frame came
pub record Mirrors (copy : Copy) (frames : List Frame) : Type 0 where
  pub events : List Event
  pub told : AreTold (messages_on copy.endpoint frames) events
  pub ascending : IsStrictlySortedBy (slice_cmp nat_cmp) copy.names
  pub named : (name : List ℕ) → Contains copy.names name ↔ IsTrue (is_named_now events name)
  pub ended : copy.ended ≡ (list_any is_deletion events || list_any (is_close_on copy.endpoint) frames)

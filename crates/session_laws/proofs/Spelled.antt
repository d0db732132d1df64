-- The messages of a sight are whole events.
use Rattle.std.proofs.Common.{◌≡◌, ℕ, ◌+◌, ◌<◌, Bool, true, false, cond, nat_le, List, [], ◌∷◌, ◌++◌, length, map, All, refl, sym, ap, ◌∙◌, subst, append_assoc, inl, lit<}
use Rattle.std.specs.List.{flat_map}
use Rattle.std.proofs.lemmas.List.{append-nil}
use Rattle.std.proofs.lemmas.List.Concat.{flat_map-append}
use Rattle.std.proofs.lemmas.List.Elements.{All-append, All-cons, All-head, All-nil, All-tail}
use Rattle.fidl_names.specs.declared.limits.TheConstants as limit
use Rattle.path_walk.specs.Names.{dot}
use Rattle.watch_events.specs.Events.{AreEvents, Event, bytes_of, event_bytes}
use Rattle.watch_events.specs.Messages.{asks_for, existing, first_messages, gathered, idle, snapshot, watch_frame}
use Rattle.watch_events.proofs.Once.{events_once}
use Rattle.link_frames.specs.Frames.{Frame}
use Rattle.session_laws.specs.Sight.{AreWritten}
use Rattle.session_laws.proofs.Named.{all_said, is_existing}

-- ---- messages that are whole events

-- an event whose name is short enough to be read
abbrev pub IsShort : Event → Type 0
IsShort one = length one.name < 256

abbrev pub AreSpelled : List (List ℕ) → List Event → Type 0
AreSpelled [] events = events ≡ []
AreSpelled (message ∷ later) events =
    (here : List Event) × (others : List Event) × AreEvents message here [] × AreSpelled later others × (events ≡ here ++ others)

-- these bytes are these events, and nothing else
whole : (bytes : List ℕ) (events : List Event) → bytes ≡ flat_map bytes_of events → All IsShort events → AreEvents bytes events []
whole bytes events e short = record { split = e ∙ sym (append-nil (flat_map bytes_of events)); named = short; cut = inl (lit< tt) }

one_whole : (one : Event) → bytes_of one ≡ flat_map bytes_of (one ∷ [])
one_whole one = sym (append-nil (bytes_of one))

pub joined : (xs ys : List (List ℕ)) (es fs : List Event) → AreSpelled xs es → AreSpelled ys fs → AreSpelled (xs ++ ys) (es ++ fs)
joined [] ys es fs none h = subst (λ gs. AreSpelled ys (gs ++ fs)) (sym none) h
joined (x ∷ xs) ys es fs first h =
    (first.0, first.1 ++ fs, first.2, joined xs ys first.1 fs first.3 h, ap (λ gs. gs ++ fs) first.4 ∙ append_assoc first.0 first.1 fs)

-- one message for each event
pub singles : (events : List Event) → All IsShort events → AreSpelled (map bytes_of events) events
singles [] short = refl
singles (one ∷ events) short = (
  one ∷ [],
  events,
  whole (bytes_of one) (one ∷ []) (one_whole one) (All-cons IsShort one [] (All-head IsShort one events short) (All-nil IsShort)),
  singles events (All-tail IsShort one events short),
  refl,
)

-- ---- a snapshot

gather_by : (begun bytes : List ℕ) (rest : List (List ℕ)) (events later : List Event) (one : Event) → begun ≡ flat_map bytes_of events → All IsShort events →
    AreSpelled (gathered (begun ++ bytes) rest) ((events ++ one ∷ []) ++ later) → AreSpelled (gathered bytes rest) (one ∷ later) → (b : Bool) →
    AreSpelled (cond b (gathered (begun ++ bytes) rest) (begun ∷ gathered bytes rest)) (events ++ one ∷ later)
gather_by begun bytes rest events later one e short fuller fresh true = subst (AreSpelled (gathered (begun ++ bytes) rest)) (append_assoc events (one ∷ []) later) fuller
gather_by begun bytes rest events later one e short fuller fresh false = (events, one ∷ later, whole begun events e short, fresh, refl)

gathers : (names : List (List ℕ)) (begun : List ℕ) (events : List Event) → begun ≡ flat_map bytes_of events → All IsShort events → All IsShort (map is_existing names) →
    AreSpelled (gathered begun (map (event_bytes existing) names)) (events ++ map is_existing names)
gathers [] begun events e short names_short = (events, [], whole begun events e short, refl, refl)
gathers (name ∷ names) begun events e short names_short =
    let one = is_existing name in
    let bytes = event_bytes existing name in
    let alone = All-cons IsShort one [] (All-head IsShort one (map is_existing names) names_short) (All-nil IsShort) in
    let others = All-tail IsShort one (map is_existing names) names_short in
    let joined' = ap (λ (front : List ℕ). front ++ bytes) e ∙ ap (λ (more : List ℕ). flat_map bytes_of events ++ more) (one_whole one) ∙ sym (flat_map-append bytes_of events (one ∷ [])) in
    gather_by begun bytes (map (event_bytes existing) names) events (map is_existing names) one e short
    (gathers names (begun ++ bytes) (events ++ one ∷ []) joined' (All-append IsShort events (one ∷ []) short alone) others)
    (gathers names bytes (one ∷ []) (one_whole one) alone others)
    (nat_le (length begun + length bytes) limit.MAX_CHUNK)

-- the events of a new watcher's first messages
abbrev pub first_events : ℕ → List (List ℕ) → List Event
first_events mask names =
    cond (asks_for mask existing) (is_existing dot ∷ map is_existing names) [] ++ cond (asks_for mask idle) (all_said ∷ []) []

pub first_spelled : (mask : ℕ) (names : List (List ℕ)) → All IsShort (map is_existing names) → AreSpelled (first_messages mask names) (first_events mask names)
first_spelled mask names short =
    joined (cond (asks_for mask existing) (snapshot names) []) (cond (asks_for mask idle) (event_bytes idle [] ∷ []) []) (cond (asks_for mask existing) (is_existing dot ∷ map is_existing names) []) (cond (asks_for mask idle) (all_said ∷ []) [])
    (by_existing (asks_for mask existing)) (by_idle (asks_for mask idle)) where
      by_existing : (b : Bool) → AreSpelled (cond b (snapshot names) []) (cond b (is_existing dot ∷ map is_existing names) [])
      by_existing true =
          gathers names (event_bytes existing dot) (is_existing dot ∷ []) (one_whole (is_existing dot)) (All-cons IsShort (is_existing dot) [] (lit< tt) (All-nil IsShort)) short
      by_existing false = refl

      by_idle : (b : Bool) → AreSpelled (cond b (event_bytes idle [] ∷ []) []) (cond b (all_said ∷ []) [])
      by_idle true = singles (all_said ∷ []) (All-cons IsShort all_said [] (lit< tt) (All-nil IsShort))
      by_idle false = refl

-- ---- what is written

pub written : (endpoint : ℕ) (messages : List (List ℕ)) (events : List Event) → AreSpelled messages events → AreWritten (map (watch_frame endpoint) messages) events
written endpoint [] events h = h
written endpoint (message ∷ later) events h = (h.0, h.1, h.2, written endpoint later h.1 h.3, h.4)

-- messages are events of one list alone
pub written_once : (frames : List Frame) (es fs : List Event) → AreWritten frames es → AreWritten frames fs → es ≡ fs
written_once [] es fs h k = h ∙ sym k
written_once (frame ∷ frames) es fs h k =
    let first = (events_once frame.bytes [] [] h.0 k.0 h.2 k.2).0 in
    let others = written_once frames h.1 k.1 h.3 k.3 in
    h.4 ∙ ap (λ gs. gs ++ h.1) first ∙ ap (λ gs. k.0 ++ gs) others ∙ sym k.4

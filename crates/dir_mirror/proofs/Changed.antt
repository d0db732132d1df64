-- What events make of names.
use Rattle.std.proofs.Common.{◌≡◌, ℕ, Bool, true, false, not, ◌&&◌, List, [], ◌∷◌, ◌++◌, Option, Some, None, refl, sym, ap, ◌∙◌, append_assoc, append-nil}
use Rattle.std.specs.Prelude.{find, reverse, if◌then◌else◌, is_some}
use Rattle.std.specs.Option.{option_map_or}
use Rattle.std.specs.Str.{bytes_eq}
use Rattle.std.proofs.lemmas.List.{reverse-append}
use Rattle.path_walk.specs.Names.{dot}
use Rattle.watch_events.specs.Events.{Event}
use Rattle.watch_events.specs.NamesNow.{is_named_now, puts_in, takes_out, tells_of}
use Rattle.dir_mirror.specs.Seats.{after_event, after_events, change_of}
use Rattle.dir_mirror.proofs.Kept.{same_bytes}

-- one more event, behind others
pub after_one_more : (before : Bool) (events : List Event) (one : Event) (name : List ℕ) → after_events before (events ++ one ∷ []) name ≡ after_event (after_events before events name) one name
after_one_more before [] one name = refl
after_one_more before (e ∷ events) one name = after_one_more (after_event before e name) events one name

abbrev pub last_word : List ℕ → List Event → Bool
last_word name events = not (bytes_eq name dot) && option_map_or puts_in (find (tells_of name) events) false

pub data Told (e : Event) (name : List ℕ) : Type 0 where
  In : puts_in e ≡ true → Told e name
  Out : puts_in e ≡ false → takes_out e ≡ true → Told e name
  Neither : puts_in e ≡ false → takes_out e ≡ false → Told e name

told_of : (e : Event) (name : List ℕ) → Told e name
told_of e name =
    elim (puts_in e) as (λ b. puts_in e ≡ b → Told e name) [
      | true ↦ λ p. In p
      | false ↦ λ p. elim (takes_out e) as (λ b. takes_out e ≡ b → Told e name) [ true ↦ λ t. Out p t | false ↦ λ t. Neither p t ] refl
    ] refl

-- the newest event first: it says whether its name is there, if it tells of that, and of other names nothing
word : (e : Event) (older : List Event) (name : List ℕ) → last_word name (e ∷ older) ≡ after_event (last_word name older) e name
word e older name =
    elim (bytes_eq e.name name) as (λ b. bytes_eq e.name name ≡ b → last_word name (e ∷ older) ≡ after_event (last_word name older) e name) [
      | false ↦ λ n. rw n refl
      | true ↦ λ y.
          let same = same_bytes e.name name y in
          elim (bytes_eq name dot) as (λ b. bytes_eq name dot ≡ b → last_word name (e ∷ older) ≡ after_event (last_word name older) e name) [
            | true ↦ λ d.
                let d' : bytes_eq e.name dot ≡ true = ap (λ n. bytes_eq n dot) same ∙ d in
                rw (d, y, d') refl
            | false ↦ λ d.
                let d' : bytes_eq e.name dot ≡ false = ap (λ n. bytes_eq n dot) same ∙ d in
                elim (told_of e name) as (λ _. last_word name (e ∷ older) ≡ after_event (last_word name older) e name) [
                  | In p ↦ rw (d, y, d', p) p
                  | Out p t ↦ rw (d, y, d', p, t) p
                  | Neither p t ↦ rw (d, y, d', p, t) refl
                ]
          ] refl
    ] refl

one_more_now : (events : List Event) (one : Event) (name : List ℕ) → is_named_now (events ++ one ∷ []) name ≡ after_event (is_named_now events name) one name
one_more_now events one name = ap (last_word name) (reverse-append events (one ∷ [])) ∙ word one (reverse events) name

-- the names that events stand for, behind others
pub named_after : (events later : List Event) (name : List ℕ) → after_events (is_named_now events name) later name ≡ is_named_now (events ++ later) name
named_after events [] name = ap (λ l. is_named_now l name) (sym (append-nil events))
named_after events (e ∷ later) name =
    ap (λ b. after_events b later name) (sym (one_more_now events e name)) ∙ named_after (events ++ e ∷ []) later name
    ∙ ap (λ l. is_named_now l name) (append_assoc events (e ∷ []) later)

-- what a seat says behind an event, where the name of each that puts in has one
pub seat_after : (there : Bool) (e : Event) (name : List ℕ) (old new : Option Bool) → change_of e ≡ Some there
    → new ≡ (if bytes_eq e.name name && is_some old then Some there else old) → (bytes_eq e.name name ≡ true → there ≡ true → is_some old ≡ true)
    → option_map_or (λ b. b) new false ≡ after_event (option_map_or (λ b. b) old false) e name
seat_after there e name old new change is seated =
    elim (bytes_eq e.name name) as (λ b. bytes_eq e.name name ≡ b → new ≡ (if b && is_some old then Some there else old) → (b ≡ true → there ≡ true → is_some old ≡ true)
    → option_map_or (λ b. b) new false ≡ (if b then option_map_or (λ b. b) (change_of e) (option_map_or (λ b. b) old false) else option_map_or (λ b. b) old false)) [
      | false ↦ λ n is _. ap (λ o. option_map_or (λ b. b) o false) is
      | true ↦ λ y is seated. by_seat there old new is (seated refl) ∙ sym (ap (λ o. option_map_or (λ b. b) o (option_map_or (λ b. b) old false)) change)
    ] refl is seated
  where
    by_seat : (there : Bool) (old new : Option Bool) → new ≡ (if true && is_some old then Some there else old) → (there ≡ true → is_some old ≡ true)
        → option_map_or (λ b. b) new false ≡ there
    by_seat true None new is seated = absurd (let e = seated refl in cc)
    by_seat false None new is seated = ap (λ o. option_map_or (λ b. b) o false) is
    by_seat there (Some b) new is seated = ap (λ o. option_map_or (λ b. b) o false) is

-- an event that tells of no name changes none
pub no_change : (before : Bool) (e : Event) (name : List ℕ) → change_of e ≡ None → after_event before e name ≡ before
no_change before e name none =
    elim (bytes_eq e.name name) as (λ b. (if b then option_map_or (λ b. b) (change_of e) before else before) ≡ before) [
      | true ↦ ap (λ o. option_map_or (λ b. b) o before) none
      | false ↦ refl
    ]

-- no seat comes or goes where one is written
pub still_seated : (b there : Bool) (old new : Option Bool) → new ≡ (if b && is_some old then Some there else old) → is_some new ≡ is_some old
still_seated true there None new is = ap is_some is
still_seated true there (Some x) new is = ap is_some is
still_seated false there old new is = ap is_some is

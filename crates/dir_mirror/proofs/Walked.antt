-- Going over the events of a message.
use Rattle.std.proofs.Common.{◌≡◌, ℕ, Bool, true, false, List, [], ◌∷◌, ◌++◌, length, take, drop, get_or, refl, sym, ap, subst, ◌∙◌, arith, append_assoc, append-nil, length-append, inl, inr}
use Rattle.std.specs.Prelude.{◌<◌, ◌≤◌, ◌&&◌, ◌||◌, All, nat_le}
use Rattle.std.specs.List.{flat_map, list_all, list_any}
use Rattle.std.proofs.Math.Seq.{take-append_seam}
use Rattle.std.proofs.lemmas.List.{append_cancel_left}
use Rattle.std.proofs.lemmas.List.Concat.{flat_map-append}
use Rattle.std.proofs.lemmas.List.Elements.{All-nil, All-cons, All-append, All-head, All-tail}
use Rattle.std.proofs.lemmas.Bool.{le-leb}
use Rattle.watch_events.specs.Messages.{idle}
use Rattle.watch_events.specs.Events.{AreEvents, Event, IsCut, bytes_of}
use Rattle.dir_mirror.specs.Seats.{HasRead}

abbrev front_of : List ℕ → Event
front_of bytes = record { event = get_or bytes 0 0; name = take (get_or bytes 1 0) (drop 2 bytes) }

front_of-bytes : (e : Event) (more : List ℕ) → front_of (bytes_of e ++ more) ≡ e
front_of-bytes e more = rw (take-append_seam e.name more) refl

-- a rest in front of which no event stands is none of these
cut_off : (e : Event) (more rest : List ℕ) → IsCut rest → rest ≡ bytes_of e ++ more → ⊥
cut_off e more rest (inl short) is = let n = ap length is in omega (arith, n, length-append e.name more, short)
cut_off e more rest (inr short) is =
    let n = ap length is in
    let s = ap (λ (bytes : List ℕ). get_or bytes 1 0) is in
    omega (arith, n, s, length-append e.name more, short)

-- some of the events were given, and the others are those of the bytes that are left; of the first something holds
pub record Walked (left : List ℕ) (events : List Event) (rest : List ℕ) (P : List Event → Type 0) : Type 0 where
  pub given : List Event
  pub more : List Event
  pub split : events ≡ given ++ more
  pub ahead : AreEvents left more rest
  pub holds : P given

pub walk_none : (bytes : List ℕ) (events : List Event) (rest : List ℕ) (P : List Event → Type 0) → AreEvents bytes events rest → P [] → Walked bytes events rest P
walk_none bytes events rest P are p = record { given = []; more = events; split = refl; ahead = are; holds = p }

-- the first of the events that are left
first_of : (left left' : List ℕ) (e : Event) (more : List Event) (rest : List ℕ) → AreEvents left more rest → left ≡ bytes_of e ++ left'
    → (others : List Event) × (more ≡ e ∷ others) × AreEvents left' others rest
first_of left left' e [] rest are is = absurd (cut_off e left' rest are.cut (sym are.split ∙ is))
first_of left left' e (f ∷ more) rest are is =
    let joined : bytes_of f ++ (flat_map bytes_of more ++ rest) ≡ bytes_of e ++ left' = sym (append_assoc (bytes_of f) (flat_map bytes_of more) rest) ∙ (sym are.split ∙ is) in
    let same : f ≡ e = sym (front_of-bytes f (flat_map bytes_of more ++ rest)) ∙ (ap front_of joined ∙ front_of-bytes e left') in
    let others : flat_map bytes_of more ++ rest ≡ left' =
    append_cancel_left (bytes_of e) (flat_map bytes_of more ++ rest) left' (ap (λ (x : Event). bytes_of x ++ (flat_map bytes_of more ++ rest)) (sym same) ∙ joined) in
    (more, ap (λ x. x ∷ more) same, record { split = sym others; named = All-tail (λ (x : Event). length x.name < 256) f more are.named; cut = are.cut })

-- one more is given
pub walk_on : (left left' : List ℕ) (e : Event) (events : List Event) (rest : List ℕ) (P P' : List Event → Type 0) → Walked left events rest P → left ≡ bytes_of e ++ left'
    → ((given others : List Event) → events ≡ given ++ e ∷ others → P given → P' (given ++ e ∷ [])) → Walked left' events rest P'
walk_on left left' e events rest P P' w is step =
    let first = first_of left left' e w.more rest w.ahead is in
    let split : events ≡ w.given ++ e ∷ first.0 = w.split ∙ ap (λ l. w.given ++ l) first.1 in
    record {
      given = w.given ++ e ∷ [];
      more = first.0;
      split = split ∙ sym (append_assoc w.given (e ∷ []) first.0);
      ahead = first.2;
      holds = step w.given first.0 split w.holds;
    }

none_left : (left : List ℕ) (more : List Event) (rest : List ℕ) → AreEvents left more rest → IsCut left → more ≡ []
none_left left [] rest are cut = refl
none_left left (f ∷ more) rest are cut = absurd (cut_off f (flat_map bytes_of more ++ rest) left cut (are.split ∙ append_assoc (bytes_of f) (flat_map bytes_of more) rest))

-- all are given
pub walked : (left : List ℕ) (events : List Event) (rest : List ℕ) (P : List Event → Type 0) → Walked left events rest P → IsCut left → P events
walked left events rest P w cut =
    subst P (sym (w.split ∙ ap (λ l. w.given ++ l) (none_left left w.more rest w.ahead cut) ∙ append-nil w.given)) w.holds

-- ---- what was read so far

pub read_none : (bytes : List ℕ) → HasRead bytes bytes []
read_none bytes = record { split = refl; named = All-nil (λ (x : Event). length x.name < 256) }

pub read_more : (bytes left left' : List ℕ) (e : Event) (events : List Event) → HasRead bytes left events → left ≡ bytes_of e ++ left' → length e.name < 256
    → HasRead bytes left' (events ++ e ∷ [])
read_more bytes left left' e events h is short = record {
  split = h.split ∙ ap (λ l. flat_map bytes_of events ++ l) is ∙ sym (append_assoc (flat_map bytes_of events) (bytes_of e) left')
      ∙ ap (λ l. l ++ left') (ap (λ l. flat_map bytes_of events ++ l) (sym (append-nil (bytes_of e))) ∙ sym (flat_map-append bytes_of events (e ∷ [])));
  named = All-append (λ (x : Event). length x.name < 256) events (e ∷ []) h.named (All-cons (λ (x : Event). length x.name < 256) e [] short (All-nil (λ (x : Event). length x.name < 256)));
}

pub read_all : (bytes left : List ℕ) (events : List Event) → HasRead bytes left events → IsCut left → AreEvents bytes events left
read_all bytes left events h cut = record { split = h.split; named = h.named; cut = cut }

-- what holds of all holds of the one that is given
pub all_at : (P : Event → Type 0) (given : List Event) (e : Event) (others : List Event) → All P (given ++ e ∷ others) → P e
all_at P [] e others a = All-head P e others a
all_at P (f ∷ given) e others a = all_at P given e others (All-tail P f (given ++ e ∷ others) a)

pub any_more : (p : Event → Bool) (events : List Event) (e : Event) → (list_any p events || p e) ≡ list_any p (events ++ e ∷ [])
any_more p [] e = by_one (p e)
  where
    by_one : (b : Bool) → (false || b) ≡ (b || false)
    by_one true = refl
    by_one false = refl
any_more p (f ∷ events) e = by_head (p f) ∙ ap (λ b. p f || b) (any_more p events e)
  where
    by_head : (b : Bool) → ((b || list_any p events) || p e) ≡ (b || (list_any p events || p e))
    by_head true = refl
    by_head false = refl

pub all_more : (p : Event → Bool) (events : List Event) (e : Event) → (list_all p events && p e) ≡ list_all p (events ++ e ∷ [])
all_more p [] e = by_one (p e)
  where
    by_one : (b : Bool) → (true && b) ≡ (b && true)
    by_one true = refl
    by_one false = refl
all_more p (f ∷ events) e = by_head (p f) ∙ ap (λ b. p f && b) (all_more p events e)
  where
    by_head : (b : Bool) → ((b && list_all p events) && p e) ≡ (b && (list_all p events && p e))
    by_head true = refl
    by_head false = refl

pub apart_test : {b : Bool} → b ≡ true → b ≡ false → ⊥
apart_test y n = cc

-- each is an event that there is
pub all_known : (events : List Event) → All (λ one. one.event ≤ idle) events → list_all (λ (one : Event). nat_le one.event idle) events ≡ true
all_known [] a = refl
all_known (e ∷ events) a =
    let here : nat_le e.event idle ≡ true = le-leb e.event idle (All-head (λ (one : Event). one.event ≤ idle) e events a) in
    ap (λ b. b && list_all (λ (one : Event). nat_le one.event idle) events) here ∙ all_known events (All-tail (λ (one : Event). one.event ≤ idle) e events a)

-- The first entries of bound endpoints, as they change.
use Rattle.std.proofs.Common.{◌≡◌, ℕ, Bool, true, List, [], ◌∷◌, ◌<◌, length, map, refl, sym, ap, ◌∙◌}
use Rattle.std.specs.Prelude.{◌||◌, ◌==◌, Option, Some, None, slice_get}
use Rattle.std.specs.Ordering.{nat_cmp}
use Rattle.std.proofs.lemmas.Cmp.{nat_cmp_total}
use Rattle.std.proofs.lemmas.Map.Lookups.{exact_unsigned}
use Rattle.link_admission.specs.Numbering.{among}
use Rattle.vfs_journal.specs.Entries.{Sent}
use Rattle.message_queues.specs.Queues.{Queues, head_of, queue_of, server_of}
use Rattle.message_queues.specs.Steps.{AreTurns, Heads, drop_turn, head_at, places_of, put_turn, turn_by, turn_of}
use Rattle.message_queues.proofs.Finite.{Same, one_key, two_keys, same_or_other}
use Rattle.message_queues.proofs.Numbers.{itself}
use Rattle.message_queues.proofs.Placed.{one_turn, two_turns, one_or_two, got_put_here, got_put_other, got_cut_here, got_cut_other}

same_some : {A : Type 0} (x y : A) → Some x ≡ Some y → x ≡ y
same_some x y e = cc

-- what a turn is made of
pub record Turn (server : Option ℕ) (head : Option Sent) (key : ℕ × ℕ) : Type 0 where
  pub sent : Sent
  pub bound : server ≡ Some key.0
  pub waits : head ≡ Some sent
  pub place : sent.place ≡ key.1

pub turn_parts : (server : Option ℕ) (head : Option Sent) (key : ℕ × ℕ) → turn_by server head ≡ Some key → Turn server head key
turn_parts (Some server) (Some sent) key h =
    let is : ◌≡◌ {A = ℕ × ℕ} (server, sent.place) key = same_some _ key h in
    record { sent = sent; bound = ap (λ (k : ℕ × ℕ). Some k.0) is; waits = refl; place = ap (λ (k : ℕ × ℕ). k.1) is }
turn_parts (Some server) None key h = absurd (cc)
turn_parts None head key h = absurd (cc)

pub head_place : (queue : List Sent) (sent : Sent) → slice_get queue 0 ≡ Some sent → among sent.place (map (λ (s : Sent). s.place) queue) ≡ true
head_place [] sent h = absurd (cc)
head_place (first ∷ later) sent h =
    let is : first ≡ sent = same_some first sent h in
    ap (λ (s : Sent). (s.place == sent.place) || among sent.place (map (λ (t : Sent). t.place) later)) is ∙ ap (λ (b : Bool). b || among sent.place (map (λ (t : Sent). t.place) later)) (itself sent.place)

-- the place of an endpoint's turn is one of its places
pub turn_place : (q : Queues) (endpoint : ℕ) (key : ℕ × ℕ) → turn_of q endpoint ≡ Some key → among key.1 (places_of q endpoint) ≡ true
turn_place q endpoint key h =
    let turn = turn_parts (server_of q endpoint) (head_of q endpoint) key h in
    ap (λ (place : ℕ). among place (places_of q endpoint)) (sym turn.place) ∙ head_place (queue_of q endpoint) turn.sent turn.waits

-- ---- the heads behind a change of one endpoint

no_key : {A : Type 0} (x : A) (o : Option A) → o ≡ None → o ≡ Some x → ⊥
no_key x o a b = cc

-- all others have their turns as before
abbrev pub KeepsTurns : (ℕ → Option (ℕ × ℕ)) → ℕ → (ℕ → Option (ℕ × ℕ)) → Type 0
KeepsTurns old endpoint new = (other : ℕ) → ¬ (other ≡ endpoint) → new other ≡ old other

-- none of the others has its turn there
abbrev pub IsFree : (ℕ → Option (ℕ × ℕ)) → ℕ → ℕ × ℕ → Type 0
IsFree turn endpoint key = (other : ℕ) → ¬ (other ≡ endpoint) → turn other ≡ Some key → ⊥

one_or_other : (endpoint other : ℕ) → Same nat_cmp other endpoint
one_or_other endpoint other = same_or_other nat_cmp_total exact_unsigned other endpoint

pub turns_same : (heads : List Heads) (old new : ℕ → Option (ℕ × ℕ)) → AreTurns heads old → ((endpoint : ℕ) → new endpoint ≡ old endpoint) → AreTurns heads new
turns_same heads old new turns is key endpoint = ((λ there. is endpoint ∙ (turns key endpoint).0 there), (λ turn. (turns key endpoint).1 (sym (is endpoint) ∙ turn)))

pub turns_put : (heads : List Heads) (old new : ℕ → Option (ℕ × ℕ)) (endpoint : ℕ) (key : ℕ × ℕ) → key.0 < length heads → AreTurns heads old → old endpoint ≡ None → new endpoint ≡ Some key
    → KeepsTurns old endpoint new → IsFree old endpoint key → AreTurns (put_turn heads (Some key) endpoint) new
turns_put heads old new endpoint key low turns none now keeps free at who = (forth, back)
  where
    forth : head_at (put_turn heads (Some key) endpoint) at ≡ Some who → new who ≡ Some at
    forth there = elim (one_or_two at key) [
      | one_turn e ↦ let is : endpoint ≡ who = same_some endpoint who (sym (ap (head_at (put_turn heads (Some key) endpoint)) e ∙ got_put_here heads key endpoint low) ∙ there) in ap new (sym is) ∙ now ∙ ap Some (sym e)
      | two_turns e ↦ let was : head_at heads at ≡ Some who = sym (got_put_other heads key at endpoint e) ∙ there in
          elim (one_or_other endpoint who) [
            | one_key i c ↦ absurd (no_key at (old endpoint) none (ap old (sym i) ∙ (turns at who).0 was))
            | two_keys i c ↦ keeps who i ∙ (turns at who).0 was
          ]
    ]

    back : new who ≡ Some at → head_at (put_turn heads (Some key) endpoint) at ≡ Some who
    back turn = elim (one_or_other endpoint who) [
      | one_key i c ↦ let is : key ≡ at = same_some key at (sym now ∙ ap new (sym i) ∙ turn) in ap (head_at (put_turn heads (Some key) endpoint)) (sym is) ∙ got_put_here heads key endpoint low ∙ ap Some (sym i)
      | two_keys i c ↦ let was : old who ≡ Some at = sym (keeps who i) ∙ turn in
          got_put_other heads key at endpoint (λ e. absurd (free who i (was ∙ ap Some e))) ∙ (turns at who).1 was
    ]

pub turns_cut : (heads : List Heads) (old new : ℕ → Option (ℕ × ℕ)) (endpoint : ℕ) (key : ℕ × ℕ) → AreTurns heads old → old endpoint ≡ Some key → new endpoint ≡ None
    → KeepsTurns old endpoint new → AreTurns (drop_turn heads (Some key)) new
turns_cut heads old new endpoint key turns was none keeps at who = (forth, back)
  where
    forth : head_at (drop_turn heads (Some key)) at ≡ Some who → new who ≡ Some at
    forth there = elim (one_or_two at key) [
      | one_turn e ↦ absurd (no_key who (head_at (drop_turn heads (Some key)) at) (ap (head_at (drop_turn heads (Some key))) e ∙ got_cut_here heads key) there)
      | two_turns e ↦ let stood : head_at heads at ≡ Some who = sym (got_cut_other heads key at e) ∙ there in
          elim (one_or_other endpoint who) [
            | one_key i c ↦ absurd (e (same_some at key (sym ((turns at who).0 stood) ∙ ap old i ∙ was)))
            | two_keys i c ↦ keeps who i ∙ (turns at who).0 stood
          ]
    ]

    back : new who ≡ Some at → head_at (drop_turn heads (Some key)) at ≡ Some who
    back turn = elim (one_or_other endpoint who) [
      | one_key i c ↦ absurd (no_key at (new endpoint) none (ap new (sym i) ∙ turn))
      | two_keys i c ↦ let stood : head_at heads at ≡ Some who = (turns at who).1 (sym (keeps who i) ∙ turn) in
          got_cut_other heads key at (λ e. absurd (i (same_some who endpoint (sym stood ∙ ap (head_at heads) e ∙ (turns key endpoint).1 was)))) ∙ stood
    ]

pub turns_move : (heads : List Heads) (old new : ℕ → Option (ℕ × ℕ)) (endpoint : ℕ) (key next : ℕ × ℕ) → next.0 < length heads → AreTurns heads old → old endpoint ≡ Some key → new endpoint ≡ Some next
    → ¬ (next ≡ key) → KeepsTurns old endpoint new → IsFree old endpoint next → AreTurns (drop_turn (put_turn heads (Some next) endpoint) (Some key)) new
turns_move heads old new endpoint key next low turns was now apart keeps free at who = (forth, back)
  where
    put : List Heads
    put = put_turn heads (Some next) endpoint

    forth : head_at (drop_turn put (Some key)) at ≡ Some who → new who ≡ Some at
    forth there = elim (one_or_two at key) [
      | one_turn e ↦ absurd (no_key who (head_at (drop_turn put (Some key)) at) (ap (head_at (drop_turn put (Some key))) e ∙ got_cut_here put key) there)
      | two_turns e ↦ let stands : head_at put at ≡ Some who = sym (got_cut_other put key at e) ∙ there in
          elim (one_or_two at next) [
            | one_turn f ↦ let is : endpoint ≡ who = same_some endpoint who (sym (ap (head_at put) f ∙ got_put_here heads next endpoint low) ∙ stands) in ap new (sym is) ∙ now ∙ ap Some (sym f)
            | two_turns f ↦ let stood : head_at heads at ≡ Some who = sym (got_put_other heads next at endpoint f) ∙ stands in
                elim (one_or_other endpoint who) [
                  | one_key i c ↦ absurd (e (same_some at key (sym ((turns at who).0 stood) ∙ ap old i ∙ was)))
                  | two_keys i c ↦ keeps who i ∙ (turns at who).0 stood
                ]
          ]
    ]

    back : new who ≡ Some at → head_at (drop_turn put (Some key)) at ≡ Some who
    back turn = elim (one_or_other endpoint who) [
      | one_key i c ↦ let is : next ≡ at = same_some next at (sym now ∙ ap new (sym i) ∙ turn) in
          got_cut_other put key at (λ e. absurd (apart (is ∙ e))) ∙ (ap (head_at put) (sym is) ∙ got_put_here heads next endpoint low ∙ ap Some (sym i))
      | two_keys i c ↦ let had : old who ≡ Some at = sym (keeps who i) ∙ turn in
          let stood : head_at heads at ≡ Some who = (turns at who).1 had in
          got_cut_other put key at (λ e. absurd (i (same_some who endpoint (sym stood ∙ ap (head_at heads) e ∙ (turns key endpoint).1 was))))
          ∙ (got_put_other heads next at endpoint (λ e. absurd (free who i (had ∙ ap Some e))) ∙ stood)
    ]

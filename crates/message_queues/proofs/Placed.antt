-- The heads of all servers, looked up behind a change of those of one.
use Rattle.std.proofs.Common.{◌≡◌, ℕ, zero, suc, ◌<◌, List, [], ◌∷◌, get_or, length, length-set, replicate, set, refl, sym, ap, ◌∙◌, arith}
use Rattle.std.specs.Prelude.{Option, Some, None}
use Rattle.std.specs.FinMap as finite
use Rattle.std.specs.Ordering.{nat_cmp}
use Rattle.std.proofs.lemmas.Cmp.{nat_cmp_total}
use Rattle.std.proofs.lemmas.List.{get_or-set_same, get_or-set_other, set-set}
use Rattle.std.proofs.lemmas.Map.Lookups.{exact_unsigned}
use Rattle.vfs_journal.specs.Entries.{Sent}
use Rattle.message_queues.specs.Steps.{Heads, drop_turn, head_at, heads_of, put_turn, turn_by}
use Rattle.message_queues.proofs.Finite.{Same, one_key, two_keys, same_or_other, get-put_here, get-put_other, get-cut_here, get-cut_other}

-- one turn is another, or not
pub data SameTurn (one other : ℕ × ℕ) : Type 0 where
  one_turn : one ≡ other → SameTurn one other
  two_turns : ¬ (one ≡ other) → SameTurn one other

same_number : (one other : ℕ) → Same nat_cmp one other
same_number one other = same_or_other nat_cmp_total exact_unsigned one other

pub one_or_two : (one other : ℕ × ℕ) → SameTurn one other
one_or_two one other = elim (same_number one.0 other.0) [
  | one_key e b ↦ elim (same_number one.1 other.1) [
    | one_key f c ↦ one_turn (λ i. (e i, f i))
    | two_keys f c ↦ two_turns (λ is. f (ap (λ (key : ℕ × ℕ). key.1) is))
  ]
  | two_keys e b ↦ two_turns (λ is. e (ap (λ (key : ℕ × ℕ). key.0) is))
]

-- ---- one place of the server that changed

stays : (heads : List Heads) (server place : ℕ) (now : Heads) → finite.get now place ≡ finite.get (heads_of heads server) place
    → head_at (set heads server now) (server, place) ≡ head_at heads (server, place)
stays [] server place now is = refl
stays (first ∷ heads) zero place now is = is
stays (first ∷ heads) (suc server) place now is = stays heads server place now is

goes : (heads : List Heads) (server place : ℕ) (now : Heads) → finite.get now place ≡ None → head_at (set heads server now) (server, place) ≡ None
goes [] server place now none = finite.get-empty nat_cmp place
goes (first ∷ heads) zero place now none = none
goes (first ∷ heads) (suc server) place now none = goes heads server place now none

other_server : (heads : List Heads) (server : ℕ) (now : Heads) (at : ℕ × ℕ) → ¬ (at.0 ≡ server) → head_at (set heads server now) at ≡ head_at heads at
other_server heads server now at apart = ap (λ (m : Heads). finite.get m at.1) (get_or-set_other heads server at.0 now finite.empty apart)

-- where the heads of a server change at one place, all other turns stay
one_place : (heads : List Heads) (key at : ℕ × ℕ) (now : Heads) → ((place : ℕ) → ¬ (place ≡ key.1) → finite.get now place ≡ finite.get (heads_of heads key.0) place) → ¬ (at ≡ key)
    → head_at (set heads key.0 now) at ≡ head_at heads at
one_place heads key at now others apart = elim (same_number at.0 key.0) [
  | one_key e b ↦
      ap (λ (server : ℕ). head_at (set heads key.0 now) (server, at.1)) e
      ∙ stays heads key.0 at.1 now (others at.1 (λ f. absurd (apart (λ i. (e i, f i)))))
      ∙ ap (λ (server : ℕ). head_at heads (server, at.1)) (sym e)
  | two_keys e b ↦ other_server heads key.0 now at e
]

-- ---- a turn that is put in or dropped

pub got_put_here : (heads : List Heads) (key : ℕ × ℕ) (endpoint : ℕ) → key.0 < length heads → head_at (put_turn heads (Some key) endpoint) key ≡ Some endpoint
got_put_here heads key endpoint low =
    ap (λ (m : Heads). finite.get m key.1) (get_or-set_same heads key.0 (finite.insert (heads_of heads key.0) key.1 endpoint) finite.empty low)
    ∙ get-put_here nat_cmp_total exact_unsigned (heads_of heads key.0) key.1 endpoint

pub got_put_other : (heads : List Heads) (key at : ℕ × ℕ) (endpoint : ℕ) → ¬ (at ≡ key) → head_at (put_turn heads (Some key) endpoint) at ≡ head_at heads at
got_put_other heads key at endpoint apart =
    one_place heads key at (finite.insert (heads_of heads key.0) key.1 endpoint) (λ place other. get-put_other nat_cmp_total exact_unsigned (heads_of heads key.0) key.1 place endpoint other) apart

pub got_cut_here : (heads : List Heads) (key : ℕ × ℕ) → head_at (drop_turn heads (Some key)) key ≡ None
got_cut_here heads key = goes heads key.0 key.1 (finite.remove (heads_of heads key.0) key.1) (get-cut_here nat_cmp_total exact_unsigned (heads_of heads key.0) key.1)

pub got_cut_other : (heads : List Heads) (key at : ℕ × ℕ) → ¬ (at ≡ key) → head_at (drop_turn heads (Some key)) at ≡ head_at heads at
got_cut_other heads key at apart =
    one_place heads key at (finite.remove (heads_of heads key.0) key.1) (λ place other. get-cut_other nat_cmp_total exact_unsigned (heads_of heads key.0) key.1 place other) apart

-- as many servers have heads as before
pub many_put : (heads : List Heads) (turn : Option (ℕ × ℕ)) (endpoint : ℕ) → length (put_turn heads turn endpoint) ≡ length heads
many_put heads None endpoint = refl
many_put heads (Some key) endpoint = length-set heads key.0 _

pub many_dropped : (heads : List Heads) (turn : Option (ℕ × ℕ)) → length (drop_turn heads turn) ≡ length heads
many_dropped heads None = refl
many_dropped heads (Some key) = length-set heads key.0 _

-- nothing is in order at any of so many servers
pub got_none : (servers : ℕ) (key : ℕ × ℕ) → head_at (replicate servers finite.empty) key ≡ None
got_none servers key = ap (λ (m : Heads). finite.get m key.1) (each_none servers key.0) ∙ finite.get-empty nat_cmp key.1
  where
    each_none : (n i : ℕ) → heads_of (replicate n finite.empty) i ≡ finite.empty
    each_none zero i = refl
    each_none (suc n) zero = refl
    each_none (suc n) (suc i) = each_none n i

-- ---- the heads of one server, as they are found

pub heads_there : (heads : List Heads) (server : ℕ) (one : Heads) → one ≡ get_or heads server one → server < length heads → one ≡ heads_of heads server
heads_there heads server one is low = is ∙ within heads server one finite.empty low
  where
    within : (hs : List Heads) (i : ℕ) (d e : Heads) → i < length hs → get_or hs i d ≡ get_or hs i e
    within [] i d e h = absurd (omega arith)
    within (first ∷ hs) zero d e h = refl
    within (first ∷ hs) (suc i) d e h = within hs i d e (omega arith)

-- the heads of a server at which an endpoint has another turn
pub set_moved : (heads : List Heads) (server place next endpoint : ℕ) (was now : Heads) (first second : Sent) (one other : Option Sent) → was ≡ get_or heads server was → server < length heads
    → one ≡ Some first → other ≡ Some second → first.place ≡ place → second.place ≡ next → now ≡ finite.remove (finite.insert was next endpoint) place
    → set heads server now ≡ drop_turn (put_turn heads (turn_by (Some server) other) endpoint) (turn_by (Some server) one)
set_moved heads server place next endpoint was now first second one other is low front behind at later moved =
    let put : ℕ → Heads = λ n. finite.insert (heads_of heads server) n endpoint in
    ap (set heads server) (moved ∙ ap (λ m. finite.remove (finite.insert m next endpoint) place) (heads_there heads server was is low))
    ∙ ap (λ m. set heads server (finite.remove m place)) (sym (get_or-set_same heads server (put next) finite.empty low))
    ∙ sym (set-set heads server (put next) (finite.remove (heads_of (set heads server (put next)) server) place))
    ∙ ap (λ (n : ℕ). drop_turn (set heads server (put n)) (Some (server, place))) (sym later)
    ∙ ap (λ (n : ℕ). drop_turn (put_turn heads (Some (server, second.place)) endpoint) (Some (server, n))) (sym at)
    ∙ ap (λ (o : Option Sent). drop_turn (put_turn heads (turn_by (Some server) o) endpoint) (Some (server, first.place))) (sym behind)
    ∙ ap (λ (o : Option Sent). drop_turn (put_turn heads (turn_by (Some server) other) endpoint) (turn_by (Some server) o)) (sym front)

-- the heads of a server in which one was put, or from which one was taken, or which are as they were
pub set_put : (heads : List Heads) (server place endpoint : ℕ) (was now : Heads) → was ≡ get_or heads server was → server < length heads → now ≡ finite.insert was place endpoint
    → set heads server now ≡ put_turn heads (Some (server, place)) endpoint
set_put heads server place endpoint was now is low put =
    ap (set heads server) (put ∙ ap (λ m. finite.insert m place endpoint) (heads_there heads server was is low))

pub set_cut : (heads : List Heads) (server place : ℕ) (was now : Heads) → was ≡ get_or heads server was → server < length heads → now ≡ finite.remove was place
    → set heads server now ≡ drop_turn heads (Some (server, place))
set_cut heads server place was now is low cut =
    ap (set heads server) (cut ∙ ap (λ m. finite.remove m place) (heads_there heads server was is low))

pub set_same : (heads : List Heads) (server : ℕ) (was now : Heads) → was ≡ get_or heads server was → now ≡ was → set heads server now ≡ heads
set_same [] server was now is same = refl
set_same (first ∷ heads) zero was now is same = ap (λ (m : Heads). m ∷ heads) (same ∙ is)
set_same (first ∷ heads) (suc server) was now is same = ap (λ (hs : List Heads). first ∷ hs) (set_same heads server was now is same)

-- the last entry of an endpoint was taken out of the order
pub cut_last : (heads new : List Heads) (server place endpoint : ℕ) (first : Sent) (one other : Option Sent) → one ≡ Some first → other ≡ None → first.place ≡ place → new ≡ drop_turn heads (Some (server, place))
    → new ≡ drop_turn (put_turn heads (turn_by (Some server) other) endpoint) (turn_by (Some server) one)
cut_last heads new server place endpoint first one other front behind at cut =
    cut
    ∙ ap (λ (n : ℕ). drop_turn heads (Some (server, n))) (sym at)
    ∙ ap (λ (o : Option Sent). drop_turn (put_turn heads (turn_by (Some server) o) endpoint) (Some (server, first.place))) (sym behind)
    ∙ ap (λ (o : Option Sent). drop_turn (put_turn heads (turn_by (Some server) other) endpoint) (turn_by (Some server) o)) (sym front)

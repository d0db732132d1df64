-- Which endpoint is served next, by the heads.
use Rattle.std.proofs.Common.{◌≡◌, ℕ, ◌+◌, ◌<◌, ◌≤◌, Bool, true, false, List, [], ◌∷◌, length, refl, sym, ap, ◌∙◌, subst, arith}
use Rattle.std.specs.Prelude.{Option, Some, None, Result, Ok, Err, IsOk, IsSome, MatchOption, OnErr, if◌then◌else◌, nat_lt, slice_get}
use Rattle.std.specs.Option.{option_map}
use Rattle.std.proofs.lemmas.Bool.Decides.{nat_tests}
use Rattle.vfs_journal.specs.Entries.{Sent}
use Rattle.message_queues.specs.Queues.{Queues, head_of, queue_of, server_of}
use Rattle.message_queues.specs.Oldest.{IsBound, IsBoundAt, IsOldest, NothingWaits}
use Rattle.message_queues.specs.Steps.{Heads, IsKept, IsLeast, head_at, heads_of, older, turn_by, turn_of}
use Rattle.message_queues.proofs.Turns.{turn_parts}

some_is : {A : Type 0} (o : Option A) (x : A) → o ≡ Some x → IsSome o
some_is o x h = rw h refl

the_some : {A : Type 0} (o : Option A) → IsSome o → (x : A) × (o ≡ Some x)
the_some None h = absurd (cc)
the_some (Some x) h = (x, refl)

-- what waits on a bound endpoint has its turn
has_turn : (q : Queues) (endpoint server : ℕ) (sent : Sent) → server_of q endpoint ≡ Some server → head_of q endpoint ≡ Some sent → turn_of q endpoint ≡ Some (server, sent.place)
has_turn q endpoint server sent bound waits = alike _ _ _ _ bound waits
  where
    alike : (s t : Option ℕ) (h k : Option Sent) → s ≡ t → h ≡ k → turn_by s h ≡ turn_by t k
    alike s t h k a b = cc

nothing : (q : Queues) (endpoint : ℕ) → ((sent : Sent) → head_of q endpoint ≡ Some sent → ⊥) → queue_of q endpoint ≡ []
nothing q endpoint none = by_cases (queue_of q endpoint) refl
  where
    by_cases : (queue : List Sent) → queue_of q endpoint ≡ queue → queue ≡ []
    by_cases [] e = refl
    by_cases (sent ∷ later) e = absurd (none sent (ap (λ (queue : List Sent). slice_get queue 0) e))

-- ---- at one server

pub oldest_at : (q : Queues) (heads : List Heads) (counted server : ℕ) (head : Option (ℕ × ℕ)) → IsKept q heads counted → IsLeast (heads_of heads server) head
    → MatchOption (option_map (λ (h : ℕ × ℕ). h.1) head) (NothingWaits q (IsBoundAt q server)) (λ endpoint. IsOldest q (IsBoundAt q server) endpoint)
oldest_at q heads counted server None kept none = λ endpoint bound. nothing q endpoint (λ sent waits.
    let there = (kept.turns (server, sent.place) endpoint).1 (has_turn q endpoint server sent bound waits) in
    let wrong : None ≡ Some endpoint = sym (none sent.place) ∙ there in cc)
oldest_at q heads counted server (Some head) kept least =
    let turn = turn_parts _ _ _ ((kept.turns (server, head.0) head.1).0 least.0) in
    record {
      sent = turn.sent;
      one_of = turn.bound;
      waits = turn.waits;
      least = λ other later bound waits.
          let there = (kept.turns (server, later.place) other).1 (has_turn q other server later bound waits) in
          let low : head.0 ≤ later.place = least.1 later.place (some_is _ other there) in
          let is : turn.sent.place ≡ head.0 = turn.place in omega arith;
    }

-- ---- over all servers

-- the least place among the heads of the first so many servers, or that nothing stands there
abbrev pub IsLeastBelow : List Heads → ℕ → Option (ℕ × ℕ) → Type 0
IsLeastBelow heads servers None = (server place : ℕ) → server < servers → head_at heads (server, place) ≡ None
IsLeastBelow heads servers (Some head) =
    ((server : ℕ) × (server < servers) × (head_at heads (server, head.0) ≡ Some head.1))
    × ((server place : ℕ) → server < servers → IsSome (head_at heads (server, place)) → head.0 ≤ place)

pub least_none : (heads : List Heads) → IsLeastBelow heads 0 None
least_none heads = λ server place low. absurd (omega arith)

data Where (server servers : ℕ) : Type 0 where
  here : server ≡ servers → Where server servers
  before : server < servers → Where server servers

where_is : (server servers : ℕ) → server < servers + 1 → Where server servers
where_is server servers low =
    elim (nat_lt server servers) as (λ b. nat_lt server servers ≡ b → Where server servers) [
      | true ↦ λ e. before (grind (arith, nat_tests))
      | false ↦ λ e. here (grind (arith, nat_tests))
    ] refl

no_head : {A : Type 0} (o : Option A) → o ≡ None → IsSome o → ⊥
no_head None h some = cc
no_head (Some x) h some = cc

module _ (heads : List Heads) (servers : ℕ) where
  one_kept : (one : ℕ × ℕ) → IsLeastBelow heads servers (Some one) → ((place : ℕ) → IsSome (head_at heads (servers, place)) → one.0 ≤ place) → IsLeastBelow heads (servers + 1) (Some one)
  one_kept one least least_here = (
    (least.0.0, (let low = least.0.1 in omega arith), least.0.2),
    λ server place low there. elim (where_is server servers low) [
      | here e ↦ least_here place (subst (λ (s : ℕ). IsSome (head_at heads (s, place))) e there)
      | before less ↦ least.1 server place less there
    ],
  )

  other_taken : (other : ℕ × ℕ) → IsLeast (heads_of heads servers) (Some other) → ((server place : ℕ) → server < servers → IsSome (head_at heads (server, place)) → other.0 ≤ place) → IsLeastBelow heads (servers + 1) (Some other)
  other_taken other least least_before = (
    (servers, (omega arith), least.0),
    λ server place low there. elim (where_is server servers low) [
      | here e ↦ least.1 place (subst (λ (s : ℕ). IsSome (head_at heads (s, place))) e there)
      | before less ↦ least_before server place less there
    ],
  )

  pub least_more : (one other : Option (ℕ × ℕ)) → IsLeastBelow heads servers one → IsLeast (heads_of heads servers) other → IsLeastBelow heads (servers + 1) (older one other)
  least_more None None least none = λ server place low. elim (where_is server servers low) [
    | here e ↦ ap (λ (s : ℕ). head_at heads (s, place)) e ∙ none place
    | before less ↦ least server place less
  ]
  least_more None (Some other) none least = other_taken other least (λ server place low there. absurd (no_head _ (none server place low) there))
  least_more (Some one) None least none = one_kept one least (λ place there. absurd (no_head _ (none place) there))
  least_more (Some one) (Some other) least least_here = by_test (nat_lt other.0 one.0) refl
    where
      by_test : (b : Bool) → nat_lt other.0 one.0 ≡ b → IsLeastBelow heads (servers + 1) (if b then Some other else Some one)
      by_test true e = other_taken other least_here (λ server place low there. let le : one.0 ≤ place = least.1 server place low there in let less : other.0 < one.0 = grind (arith, nat_tests) in omega arith)
      by_test false e = one_kept one least (λ place there. let le : other.0 ≤ place = least_here.1 place there in let less : one.0 ≤ other.0 = grind (arith, nat_tests) in omega arith)

pub oldest_of_all : (q : Queues) (heads : List Heads) (counted : ℕ) (head : Option (ℕ × ℕ)) → IsKept q heads counted → IsLeastBelow heads q.servers head
    → MatchOption (option_map (λ (h : ℕ × ℕ). h.1) head) (NothingWaits q (IsBound q)) (λ endpoint. IsOldest q (IsBound q) endpoint)
oldest_of_all q heads counted None kept none = λ endpoint bound. nothing q endpoint (λ sent waits.
    let at = the_some (server_of q endpoint) bound in
    let there = (kept.turns (at.0, sent.place) endpoint).1 (has_turn q endpoint at.0 sent at.1 waits) in
    let wrong : None ≡ Some endpoint = sym (none at.0 sent.place (kept.within endpoint at.0 at.1)) ∙ there in cc)
oldest_of_all q heads counted (Some head) kept least =
    let turn = turn_parts _ _ _ ((kept.turns (least.0.0, head.0) head.1).0 least.0.2) in
    record {
      sent = turn.sent;
      one_of = some_is _ _ turn.bound;
      waits = turn.waits;
      least = λ other later bound waits.
          let at = the_some (server_of q other) bound in
          let there = (kept.turns (at.0, later.place) other).1 (has_turn q other at.0 later at.1 waits) in
          let low : head.0 ≤ later.place = least.1 at.0 later.place (kept.within other at.0 at.1) (some_is _ other there) in
          let is : turn.sent.place ≡ head.0 = turn.place in omega arith;
    }

-- the same once the heads of each were looked at
pub oldest_behind : (q : Queues) (heads items : List Heads) (counted index : ℕ) (head : Option (ℕ × ℕ)) → IsKept q heads counted → items ≡ heads → length items ≤ index → index ≤ length items → IsLeastBelow items index head
    → MatchOption (option_map (λ (h : ℕ × ℕ). h.1) head) (NothingWaits q (IsBound q)) (λ endpoint. IsOldest q (IsBound q) endpoint)
oldest_behind q heads items counted index head kept same end low least =
    let many : index ≡ q.servers = omega (arith, ap length same, kept.each, end, low) in
    oldest_of_all q heads counted head kept (subst (λ (hs : List Heads). IsLeastBelow hs q.servers head) same (subst (λ (servers : ℕ). IsLeastBelow items servers head) many least))

-- ---- results

pub on_err_more : {A E P Q : Type 0} (r : Result A E) → (P → Q) → OnErr r P → OnErr r Q
on_err_more (Ok v) more p = tt
on_err_more (Err e) more p = more p

pub ok_no_err : {A E : Type 0} (P : Type 0) (r : Result A E) → IsOk r → OnErr r P
ok_no_err P (Ok v) h = tt
ok_no_err P (Err e) h = absurd (cc)

pub empty_queue : (queue : List Sent) → slice_get queue 0 ≡ None → queue ≡ []
empty_queue [] h = refl
empty_queue (sent ∷ queue) h = absurd (cc)

-- What every value keeps, behind each change.
use Rattle.std.proofs.Common.{◌≡◌, ℕ, ◌+◌, ◌-◌, ◌<◌, Bool, true, false, List, [], ◌∷◌, ◌++◌, map, refl, sym, ap, ◌∙◌, subst, arith, length, replicate}
use Rattle.std.specs.Prelude.{◌||◌, ◌==◌, Option, Some, None, if◌then◌else◌, is_none, slice_get}
use Rattle.std.specs.FinMap as finite
use Rattle.std.specs.List.{IsDistinct}
use Rattle.std.specs.Ordering.{nat_cmp}
use Rattle.std.proofs.lemmas.Cmp.{nat_cmp_total}
use Rattle.std.proofs.lemmas.List.{length-replicate}
use Rattle.std.proofs.lemmas.Map.Lookups.{exact_unsigned}
use Rattle.fidl_names.specs.declared.limits.TheConstants as limit
use Rattle.link_admission.specs.Numbering.{among}
use Rattle.vfs_journal.specs.Entries.{Sent}
use Rattle.message_queues.specs.Queues.{Binds, IsAbove, IsNew, Mailbox, Queues, Requeues, count, head_of, queue_of, server_of}
use Rattle.message_queues.specs.Dying.{Buries}
use Rattle.message_queues.specs.Steps.{AreOnce, AreTurns, Heads, IsKept, IsSound, drop_turn, places_of, put_turn, queues_with, turn_by, turn_of}
use Rattle.message_queues.proofs.Changed.{count-entries, queue_in, server_in}
use Rattle.message_queues.proofs.Finite.{Same, one_key, two_keys, same_or_other}
use Rattle.message_queues.proofs.Numbers.{above_none, among-append, among-one, either, either_one, either_other, itself, once_push, other_number, same_number}
use Rattle.message_queues.proofs.Placed.{got_none, many_dropped, many_put}
use Rattle.message_queues.proofs.Turns.{KeepsTurns, head_place, turn_place, turns_cut, turns_move, turns_put, turns_same}

abbrev places : List Sent → List ℕ
places queue = map (λ sent. sent.place) queue

turn_none : (server : Option ℕ) → turn_by server None ≡ None
turn_none None = refl
turn_none (Some server) = refl

turn_alike : (s t : Option ℕ) (h k : Option Sent) → s ≡ t → h ≡ k → turn_by s h ≡ turn_by t k
turn_alike s t h k a b = cc

same_turn : (q now : Queues) (endpoint : ℕ) → queue_of now endpoint ≡ queue_of q endpoint → server_of now endpoint ≡ server_of q endpoint → turn_of now endpoint ≡ turn_of q endpoint
same_turn q now endpoint a b = turn_alike _ _ _ _ b (ap (λ (queue : List Sent). slice_get queue 0) a)

one_or_other : (endpoint other : ℕ) → Same nat_cmp other endpoint
one_or_other endpoint other = same_or_other nat_cmp_total exact_unsigned other endpoint

or_true : (a b : Bool) → b ≡ true → (a || b) ≡ true
or_true true b h = refl
or_true false b h = h

or_here : (a b : Bool) → a ≡ true → (a || b) ≡ true
or_here true b h = refl
or_here false b h = absurd (cc)

-- where an endpoint is bound, that server has its heads
pub known_server : (q : Queues) (heads : List Heads) (counted : ℕ) → IsKept q heads counted → (endpoint server : ℕ) → server_of q endpoint ≡ Some server → server < length heads
known_server q heads counted kept endpoint server bound = let low = kept.within endpoint server bound in omega (arith, low, kept.each)

-- ---- binding

module _ (q now : Queues) (heads : List Heads) (counted endpoint server : ℕ) (kept : IsKept q heads counted) (unbound : server_of q endpoint ≡ None) (binds : Binds q endpoint server now) where
  bound_keeps : KeepsTurns (turn_of q) endpoint (turn_of now)
  bound_keeps other apart = same_turn q now other (binds.waiting other) (binds.bound other ∙ either_other (other == endpoint) _ _ (other_number endpoint other apart))

  bound_here : (head : Option Sent) → head_of q endpoint ≡ head → turn_of now endpoint ≡ turn_by (Some server) head
  bound_here head is = turn_alike _ _ _ _ (binds.bound endpoint ∙ either_one (endpoint == endpoint) _ _ (itself endpoint)) (ap (λ (queue : List Sent). slice_get queue 0) (binds.waiting endpoint) ∙ is)

  bound_turns : (head : Option Sent) → server < q.servers → head_of q endpoint ≡ head → AreTurns (put_turn heads (turn_by (Some server) head) endpoint) (turn_of now)
  bound_turns None known is = turns_same heads (turn_of q) (turn_of now) kept.turns (λ other. elim (one_or_other endpoint other) [
    | one_key e b ↦ ap (turn_of now) e ∙ bound_here None is ∙ sym (ap (turn_of q) e ∙ turn_alike _ _ _ _ unbound is)
    | two_keys e b ↦ bound_keeps other e
  ])
  bound_turns (Some sent) known is = turns_put heads (turn_of q) (turn_of now) endpoint (server, sent.place) (omega (arith, known, kept.each)) kept.turns (turn_alike _ _ _ _ unbound is) (bound_here (Some sent) is) bound_keeps
      (λ other apart turn. apart (kept.apart other endpoint sent.place (turn_place q other (server, sent.place) turn) (head_place (queue_of q endpoint) sent is)))

  bound_within : server < q.servers → (other at : ℕ) → server_of now other ≡ Some at → at < now.servers
  bound_within known other at is = elim (one_or_other endpoint other) [
    | one_key e b ↦ let here : Some server ≡ Some at = sym (binds.bound other ∙ either_one (other == endpoint) _ _ (ap (λ (x : ℕ). x == endpoint) e ∙ itself endpoint)) ∙ is in
        let at_is : server ≡ at = cc in omega (arith, binds.those)
    | two_keys e b ↦ let low = kept.within other at (sym (binds.bound other ∙ either_other (other == endpoint) _ _ (other_number endpoint other e)) ∙ is) in omega (arith, binds.those)
  ]

  pub kept_bound : server < q.servers → count now ≡ count q → IsKept now (put_turn heads (turn_by (Some server) (head_of q endpoint)) endpoint) counted
  kept_bound known counts = record {
    each = many_put heads (turn_by (Some server) (head_of q endpoint)) endpoint ∙ kept.each ∙ sym binds.those;
    turns = bound_turns (head_of q endpoint) known refl;
    once = λ other. subst AreOnce (sym (ap places (binds.waiting other))) (kept.once other);
    apart = λ one two at a b. kept.apart one two at (sym (ap (λ (queue : List Sent). among at (places queue)) (binds.waiting one)) ∙ a) (sym (ap (λ (queue : List Sent). among at (places queue)) (binds.waiting two)) ∙ b);
    within = λ other at is. bound_within known other at is;
    counts = kept.counts ∙ sym counts;
    few = kept.few;
  }

-- ---- other queues

module _ (q now : Queues) (heads : List Heads) (counted endpoint : ℕ) (queue : List Sent) (kept : IsKept q heads counted) (requeues : Requeues q endpoint queue now) where
  queue_here : queue_of now endpoint ≡ queue
  queue_here = requeues.waiting endpoint ∙ either_one (endpoint == endpoint) _ _ (itself endpoint)

  queue_there : (other : ℕ) → ¬ (other ≡ endpoint) → queue_of now other ≡ queue_of q other
  queue_there other apart = requeues.waiting other ∙ either_other (other == endpoint) _ _ (other_number endpoint other apart)

  queued_keeps : KeepsTurns (turn_of q) endpoint (turn_of now)
  queued_keeps other apart = same_turn q now other (queue_there other apart) (requeues.bound other)

  queued_here : (server : Option ℕ) → server_of q endpoint ≡ server → turn_of now endpoint ≡ turn_by server (slice_get queue 0)
  queued_here server is = turn_alike _ _ _ _ (requeues.bound endpoint ∙ is) (ap (λ (waiting : List Sent). slice_get waiting 0) queue_here)

  queued_once : AreOnce (places queue) → (other : ℕ) → AreOnce (places_of now other)
  queued_once once other = elim (one_or_other endpoint other) [
    | one_key e b ↦ subst AreOnce (sym (ap (places_of now) e ∙ ap places queue_here)) once
    | two_keys e b ↦ subst AreOnce (sym (ap places (queue_there other e))) (kept.once other)
  ]

  -- a place that stands now stood before, or is that of the one endpoint
  queued_among : (other at : ℕ) → among at (places_of now other) ≡ true → ¬ (other ≡ endpoint) → among at (places_of q other) ≡ true
  queued_among other at is apart = sym (ap (λ (waiting : List Sent). among at (places waiting)) (queue_there other apart)) ∙ is

  queued_within : (other at : ℕ) → server_of now other ≡ Some at → at < now.servers
  queued_within other at is = let low = kept.within other at (sym (requeues.bound other) ∙ is) in omega (arith, requeues.those)

  queued_apart : ((other at : ℕ) → ¬ (other ≡ endpoint) → among at (places_of q other) ≡ true → among at (places queue) ≡ true → ⊥)
      → (one two at : ℕ) → among at (places_of now one) ≡ true → among at (places_of now two) ≡ true → one ≡ two
  queued_apart free one two at a b =
      elim (one_or_other endpoint one) [
        | one_key e c ↦ elim (one_or_other endpoint two) [
          | one_key f d ↦ e ∙ sym f
          | two_keys f d ↦ absurd (free two at f (queued_among two at b f) (sym (ap (λ (other : ℕ). among at (places_of now other)) e ∙ ap (λ (waiting : List Sent). among at (places waiting)) queue_here) ∙ a))
        ]
        | two_keys e c ↦ elim (one_or_other endpoint two) [
          | one_key f d ↦ absurd (free one at e (queued_among one at a e) (sym (ap (λ (other : ℕ). among at (places_of now other)) f ∙ ap (λ (waiting : List Sent). among at (places waiting)) queue_here) ∙ b))
          | two_keys f d ↦ kept.apart one two at (queued_among one at a e) (queued_among two at b f)
        ]
      ]

-- ---- pushing

module _ (q now : Queues) (heads : List Heads) (counted endpoint : ℕ) (sent : Sent) (kept : IsKept q heads counted) (above : IsAbove q sent.place) (requeues : Requeues q endpoint (queue_of q endpoint ++ sent ∷ []) now) where
  new_place : (other : ℕ) → among sent.place (places_of q other) ≡ false
  new_place other = above_none (queue_of q other) sent.place (above other)

  places-push : (queue : List Sent) → places (queue ++ sent ∷ []) ≡ places queue ++ sent.place ∷ []
  places-push [] = refl
  places-push (first ∷ later) = ap (λ (ns : List ℕ). first.place ∷ ns) (places-push later)

  pushed_free : (other at : ℕ) → ¬ (other ≡ endpoint) → among at (places_of q other) ≡ true → among at (places (queue_of q endpoint ++ sent ∷ [])) ≡ true → ⊥
  pushed_free other at apart there here =
      let both : (among at (places_of q endpoint) || among at (sent.place ∷ [])) ≡ true = sym (ap (among at) (places-push (queue_of q endpoint)) ∙ among-append at (places_of q endpoint) (sent.place ∷ [])) ∙ here in
      elim (among at (places_of q endpoint)) as (λ b. among at (places_of q endpoint) ≡ b → ⊥) [
        | true ↦ λ is. apart (kept.apart other endpoint at there is)
        | false ↦ λ is. let it : sent.place ≡ at = same_number at sent.place (sym (among-one at sent.place) ∙ either _ _ both is) in
            let wrong : false ≡ true = sym (new_place other) ∙ ap (λ (n : ℕ). among n (places_of q other)) it ∙ there in cc
      ] refl

  pushed_turns : (queue : List Sent) (server : Option ℕ) → queue_of q endpoint ≡ queue → server_of q endpoint ≡ server
      → AreTurns (put_turn heads (turn_by server (if is_none (slice_get queue 0) then Some sent else None)) endpoint) (turn_of now)
  pushed_turns [] (Some server) none is =
      turns_put heads (turn_of q) (turn_of now) endpoint (server, sent.place) (known_server q heads counted kept endpoint server is) kept.turns (ap (λ (queue : List Sent). turn_by (server_of q endpoint) (slice_get queue 0)) none ∙ turn_none (server_of q endpoint))
      (queued_here q now heads counted endpoint (queue_of q endpoint ++ sent ∷ []) kept requeues (Some server) is ∙ ap (λ (queue : List Sent). turn_by (Some server) (slice_get (queue ++ sent ∷ []) 0)) none)
      (queued_keeps q now heads counted endpoint (queue_of q endpoint ++ sent ∷ []) kept requeues)
      (λ other apart turn. let wrong : false ≡ true = sym (new_place other) ∙ turn_place q other (server, sent.place) turn in cc)
  pushed_turns [] None none is = turns_same heads (turn_of q) (turn_of now) kept.turns (λ other. elim (one_or_other endpoint other) [
    | one_key e b ↦ ap (turn_of now) e ∙ (queued_here q now heads counted endpoint (queue_of q endpoint ++ sent ∷ []) kept requeues None is ∙ sym (ap (turn_of q) e ∙ ap (λ (server : Option ℕ). turn_by server (head_of q endpoint)) is))
    | two_keys e b ↦ queued_keeps q now heads counted endpoint (queue_of q endpoint ++ sent ∷ []) kept requeues other e
  ])
  pushed_turns (first ∷ later) server some is =
      subst (λ (turn : Option (ℕ × ℕ)). AreTurns (put_turn heads turn endpoint) (turn_of now)) (sym (turn_none server))
      (turns_same heads (turn_of q) (turn_of now) kept.turns (λ other. elim (one_or_other endpoint other) [
        | one_key e b ↦ ap (turn_of now) e
            ∙ (queued_here q now heads counted endpoint (queue_of q endpoint ++ sent ∷ []) kept requeues (server_of q endpoint) refl
            ∙ (ap (λ (queue : List Sent). turn_by (server_of q endpoint) (slice_get (queue ++ sent ∷ []) 0)) some
            ∙ sym (ap (turn_of q) e ∙ ap (λ (queue : List Sent). turn_by (server_of q endpoint) (slice_get queue 0)) some)))
        | two_keys e b ↦ queued_keeps q now heads counted endpoint (queue_of q endpoint ++ sent ∷ []) kept requeues other e
      ]))

  pub kept_pushed : counted < limit.MAX_WAITING → count now ≡ count q + 1
      → IsKept now (put_turn heads (turn_by (server_of q endpoint) (if is_none (head_of q endpoint) then Some sent else None)) endpoint) (counted + 1)
  kept_pushed room counts = record {
    each = many_put heads (turn_by (server_of q endpoint) (if is_none (head_of q endpoint) then Some sent else None)) endpoint ∙ kept.each ∙ sym requeues.those;
    turns = pushed_turns (queue_of q endpoint) (server_of q endpoint) refl refl;
    once = queued_once q now heads counted endpoint (queue_of q endpoint ++ sent ∷ []) kept requeues
        (subst AreOnce (sym (places-push (queue_of q endpoint))) (once_push (places_of q endpoint) sent.place (kept.once endpoint) (new_place endpoint)));
    apart = queued_apart q now heads counted endpoint (queue_of q endpoint ++ sent ∷ []) kept requeues pushed_free;
    within = queued_within q now heads counted endpoint (queue_of q endpoint ++ sent ∷ []) kept requeues;
    counts = let before = kept.counts in omega arith;
    few = omega arith;
  }

-- ---- taking

module _ (q now : Queues) (heads : List Heads) (counted endpoint server : ℕ) (first : Sent) (later : List Sent) (kept : IsKept q heads counted) (bound : server_of q endpoint ≡ Some server) (waits : queue_of q endpoint ≡ first ∷ later) (requeues : Requeues q endpoint later now) where
  taken_was : turn_of q endpoint ≡ Some (server, first.place)
  taken_was = turn_alike _ _ _ _ bound (ap (λ (queue : List Sent). slice_get queue 0) waits)

  taken_once : AreOnce (first.place ∷ places later)
  taken_once = subst AreOnce (ap places waits) (kept.once endpoint)

  later_among : (at : ℕ) → among at (places later) ≡ true → among at (places_of q endpoint) ≡ true
  later_among at is = ap (λ (queue : List Sent). among at (places queue)) waits ∙ or_true (first.place == at) (among at (places later)) is

  taken_turns : (rest : List Sent) → later ≡ rest
      → AreTurns (drop_turn (put_turn heads (turn_by (Some server) (slice_get rest 0)) endpoint) (Some (server, first.place))) (turn_of now)
  taken_turns [] none = turns_cut heads (turn_of q) (turn_of now) endpoint (server, first.place) kept.turns taken_was
      (queued_here q now heads counted endpoint later kept requeues (Some server) bound ∙ ap (λ (queue : List Sent). turn_by (Some server) (slice_get queue 0)) none)
      (queued_keeps q now heads counted endpoint later kept requeues)
  taken_turns (second ∷ rest) some =
      let stands : among second.place (places later) ≡ true = ap (λ (queue : List Sent). among second.place (places queue)) some ∙ or_here (second.place == second.place) (among second.place (places rest)) (itself second.place) in
      turns_move heads (turn_of q) (turn_of now) endpoint (server, first.place) (server, second.place) (known_server q heads counted kept endpoint server bound) kept.turns taken_was
      (queued_here q now heads counted endpoint later kept requeues (Some server) bound ∙ ap (λ (queue : List Sent). turn_by (Some server) (slice_get queue 0)) some)
      (λ is. absurd (let alike : second.place ≡ first.place = ap (λ (key : ℕ × ℕ). key.1) is in let wrong : false ≡ true = sym taken_once.0 ∙ ap (λ (n : ℕ). among n (places later)) (sym alike) ∙ stands in cc))
      (queued_keeps q now heads counted endpoint later kept requeues)
      (λ other apart turn. apart (kept.apart other endpoint second.place (turn_place q other (server, second.place) turn) (later_among second.place stands)))

  pub kept_taken : count now + 1 ≡ count q
      → IsKept now (drop_turn (put_turn heads (turn_by (Some server) (slice_get later 0)) endpoint) (Some (server, first.place))) (counted - 1)
  kept_taken counts = record {
    each = many_dropped (put_turn heads (turn_by (Some server) (slice_get later 0)) endpoint) (Some (server, first.place)) ∙ many_put heads (turn_by (Some server) (slice_get later 0)) endpoint ∙ kept.each
        ∙ sym requeues.those;
    turns = taken_turns later refl;
    once = queued_once q now heads counted endpoint later kept requeues taken_once.1;
    apart = queued_apart q now heads counted endpoint later kept requeues (λ other at apart there here. apart (kept.apart other endpoint at there (later_among at here)));
    within = queued_within q now heads counted endpoint later kept requeues;
    counts = let before = kept.counts in omega arith;
    few = let before = kept.few in omega arith;
  }

-- ---- closing

module _ (q now : Queues) (heads : List Heads) (counted endpoint : ℕ) (kept : IsKept q heads counted) (buries : Buries q (endpoint ∷ []) now) where
  closed_test : (other : ℕ) → among other (endpoint ∷ []) ≡ (endpoint == other)
  closed_test other = among-one other endpoint

  closed_queue : (other : ℕ) → ¬ (other ≡ endpoint) → queue_of now other ≡ queue_of q other
  closed_queue other apart = buries.waiting other ∙ either_other (among other (endpoint ∷ [])) _ _ (closed_test other ∙ other_number other endpoint (λ e. apart (sym e)))

  closed_here : queue_of now endpoint ≡ []
  closed_here = buries.waiting endpoint ∙ either_one (among endpoint (endpoint ∷ [])) _ _ (closed_test endpoint ∙ itself endpoint)

  closed_server : (other : ℕ) → ¬ (other ≡ endpoint) → server_of now other ≡ server_of q other
  closed_server other apart = buries.bound other ∙ either_other (among other (endpoint ∷ [])) _ _ (closed_test other ∙ other_number other endpoint (λ e. apart (sym e)))

  closed_unbound : server_of now endpoint ≡ None
  closed_unbound = buries.bound endpoint ∙ either_one (among endpoint (endpoint ∷ [])) _ _ (closed_test endpoint ∙ itself endpoint)

  closed_keeps : KeepsTurns (turn_of q) endpoint (turn_of now)
  closed_keeps other apart = same_turn q now other (closed_queue other apart) (closed_server other apart)

  closed_turn : turn_of now endpoint ≡ None
  closed_turn = turn_alike _ _ _ _ closed_unbound (ap (λ (queue : List Sent). slice_get queue 0) closed_here)

  closed_turns : (turn : Option (ℕ × ℕ)) → turn_of q endpoint ≡ turn → AreTurns (drop_turn heads turn) (turn_of now)
  closed_turns None none = turns_same heads (turn_of q) (turn_of now) kept.turns (λ other. elim (one_or_other endpoint other) [
    | one_key e b ↦ ap (turn_of now) e ∙ closed_turn ∙ sym (ap (turn_of q) e ∙ none)
    | two_keys e b ↦ closed_keeps other e
  ])
  closed_turns (Some key) is = turns_cut heads (turn_of q) (turn_of now) endpoint key kept.turns is closed_turn closed_keeps

  closed_places : (other at : ℕ) → among at (places_of now other) ≡ true → among at (places_of q other) ≡ true
  closed_places other at is = elim (one_or_other endpoint other) [
    | one_key e b ↦ absurd (let wrong : false ≡ true = sym (ap (λ (x : ℕ). among at (places_of now x)) e ∙ ap (λ (queue : List Sent). among at (places queue)) closed_here) ∙ is in cc)
    | two_keys e b ↦ sym (ap (λ (queue : List Sent). among at (places queue)) (closed_queue other e)) ∙ is
  ]

  closed_once : (other : ℕ) → AreOnce (places_of now other)
  closed_once other = elim (one_or_other endpoint other) [
    | one_key e b ↦ subst AreOnce (sym (ap (places_of now) e ∙ ap places closed_here)) tt
    | two_keys e b ↦ subst AreOnce (sym (ap places (closed_queue other e))) (kept.once other)
  ]

  closed_within : (other at : ℕ) → server_of now other ≡ Some at → at < now.servers
  closed_within other at is = elim (one_or_other endpoint other) [
    | one_key e b ↦ absurd (let wrong : None ≡ Some at = sym (ap (server_of now) e ∙ closed_unbound) ∙ is in cc)
    | two_keys e b ↦ let low = kept.within other at (sym (closed_server other e) ∙ is) in omega (arith, buries.those)
  ]

  pub kept_closed : count now + length (queue_of q endpoint) ≡ count q → IsKept now (drop_turn heads (turn_of q endpoint)) (counted - length (queue_of q endpoint))
  kept_closed counts = record {
    each = many_dropped heads (turn_of q endpoint) ∙ kept.each ∙ sym buries.those;
    turns = closed_turns (turn_of q endpoint) refl;
    once = closed_once;
    apart = λ one two at a b. kept.apart one two at (closed_places one at a) (closed_places two at b);
    within = closed_within;
    counts = let before = kept.counts in omega arith;
    few = let before = kept.few in omega arith;
  }

-- ---- nothing

none_some : {X : Type 0} (o : Option X) (x : X) → o ≡ None → o ≡ Some x → ⊥
none_some o x a b = cc

empty_box : (endpoint : ℕ) → finite.get (finite.from_entries {X = Mailbox} {R = nat_cmp} []) endpoint ≡ None
empty_box endpoint = finite.get-empty nat_cmp endpoint

pub new_is : (servers : ℕ) → IsNew (queues_with [] servers) servers
new_is servers = record {
  waiting = λ endpoint. ap queue_in (empty_box endpoint);
  bound = λ endpoint. ap server_in (empty_box endpoint);
  those = refl;
}

pub sound_none : (servers : ℕ) → IsSound [] (replicate servers finite.empty) 0 servers
unfolding IsDistinct
sound_none servers = record {
  kept = record {
    each = length-replicate servers finite.empty;
    turns = λ key endpoint. (
      (λ there. absurd (none_some _ endpoint (got_none servers key) there)),
      (λ turn. absurd (none_some _ key (turn_alike _ _ _ _ ((new_is servers).bound endpoint) (ap (λ (queue : List Sent). slice_get queue 0) ((new_is servers).waiting endpoint))) turn)),
    );
    once = λ endpoint. subst AreOnce (sym (ap places ((new_is servers).waiting endpoint))) tt;
    apart = λ one two at a b. absurd (let wrong : false ≡ true = sym (ap (λ (queue : List Sent). among at (places queue)) ((new_is servers).waiting one)) ∙ a in cc);
    within = λ endpoint server is. absurd (none_some _ server ((new_is servers).bound endpoint) is);
    counts = sym (count-entries [] servers tt);
    few = omega arith;
  };
  distinct = tt;
}

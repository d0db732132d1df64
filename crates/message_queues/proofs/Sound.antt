-- What is kept of the mailboxes, behind each change of one.
use Rattle.std.proofs.Common.{◌≡◌, ℕ, ◌+◌, ◌-◌, ◌<◌, ◌≤◌, Bool, true, false, eqb, List, [], ◌∷◌, ◌++◌, refl, sym, ap, ◌∙◌, subst, arith, length, length-append}
use Rattle.std.specs.Prelude.{Option, Some, None, Result, Ok, Err, OnOk, OnErr, MatchOption, IfSome, IsOk, IsSome, if◌then◌else◌, drop, is_none, slice_get, unwrap_or}
use Rattle.std.specs.HashMap.{IsUnique, PutsEntry, UpdatesBy, WritesThrough}
use Rattle.std.specs.List.Sorted.{IsPermutation}
use Rattle.std.specs.Map.{lookup, remove_entry, set_value}
use Rattle.std.specs.Option.{option_map}
use Rattle.std.proofs.lemmas.Map.Entries.{sum_by-remove_entry}
use Rattle.std.proofs.lemmas.Map.Steps.{set_value_same}
use Rattle.fidl_names.specs.declared.limits.TheConstants as limit
use Rattle.link_admission.specs.Numbering.{among}
use Rattle.vfs_journal.specs.Entries.{Sent}
use Rattle.message_queues.specs.Queues.{Binds, IsAbove, IsReady, Mailbox, Requeues, count, head_of, queue_of, server_of}
use Rattle.message_queues.specs.Dying.{Buries}
use Rattle.message_queues.specs.Steps.{Heads, IsKept, IsSound, bound_box, drop_turn, first_pushed, no_box, popped_box, pushed_box, put_turn, queues_with, turn_by, turn_of}
use Rattle.message_queues.proofs.Changed.{Boxes, binds_from, buries_from, count-entries, count_cut, count_put, count_set, found, queue_in, requeues_from, server_in, weigh}
use Rattle.message_queues.proofs.Numbers.{among-one, same_number}
use Rattle.message_queues.proofs.Kept.{kept_bound, kept_closed, kept_pushed, kept_taken, known_server}

-- the mailbox of an endpoint
abbrev pub box_at : Boxes → ℕ → Option Mailbox
box_at m endpoint = lookup (eqb endpoint) m.entries

queue_is : (m : Boxes) (endpoint servers : ℕ) (box : Option Mailbox) → box_at m endpoint ≡ box → queue_of (queues_with m.entries servers) endpoint ≡ queue_in box
queue_is m endpoint servers box is = ap queue_in (found m.entries endpoint ∙ is)

server_is : (m : Boxes) (endpoint servers : ℕ) (box : Option Mailbox) → box_at m endpoint ≡ box → server_of (queues_with m.entries servers) endpoint ≡ server_in box
server_is m endpoint servers box is = ap server_in (found m.entries endpoint ∙ is)

turn_alike : (s t : Option ℕ) (h k : Option Sent) → s ≡ t → h ≡ k → turn_by s h ≡ turn_by t k
turn_alike s t h k a b = cc

one_more : (later : List Sent) (first : Sent) → length (first ∷ later) ≡ length later + 1
one_more later first = omega arith

some_box : (o : Option Mailbox) (box : Mailbox) → o ≡ Some box → IsSome o
some_box o box is = rw is refl

-- a mailbox written back as it was
pub written_back : (m n : Boxes) (endpoint : ℕ) (was now : Mailbox) → box_at m endpoint ≡ Some was → now ≡ was → WritesThrough eqb (eqb endpoint) m now n → n.entries ≡ m.entries
written_back m n endpoint was now there same writes =
    writes.0 ∙ ap (λ (box : Mailbox). set_value (eqb endpoint) m.entries box) same ∙ set_value_same (eqb endpoint) m.entries was there

-- nothing changed
pub sound_same : (m n : Boxes) (heads now : List Heads) (counted servers : ℕ) → IsSound m.entries heads counted servers → n.entries ≡ m.entries → now ≡ heads → IsSound n.entries now counted servers
sound_same m n heads now counted servers sound entries same =
    subst (λ (es : List (ℕ × Mailbox)). IsSound es now counted servers) (sym entries) (subst (λ (h : List Heads). IsSound m.entries h counted servers) (sym same) sound)

pub view_same : {A E P : Type 0} (r : Result A E) → P → OnErr r P
view_same (Ok v) same = tt
view_same (Err e) same = same

-- ---- binding

bound_there : (m n : Boxes) (heads now : List Heads) (counted servers endpoint server : ℕ) (was : Mailbox) → IsSound m.entries heads counted servers → box_at m endpoint ≡ Some was
    → server_of (queues_with m.entries servers) endpoint ≡ None → server < servers → UpdatesBy eqb (eqb endpoint) m n (Some (bound_box was server))
    → n.entries ≡ set_value (eqb endpoint) m.entries (bound_box was server) → IsUnique eqb n → now ≡ put_turn heads (turn_by (Some server) (slice_get was.queue 0)) endpoint
    → IsSound n.entries now counted servers × Binds (queues_with m.entries servers) endpoint server (queues_with n.entries servers) × (count (queues_with n.entries servers) ≡ count (queues_with m.entries servers))
bound_there m n heads now counted servers endpoint server was sound there unbound known changes written unique put =
    let q = queues_with m.entries servers in
    let queue : queue_of q endpoint ≡ was.queue = queue_is m endpoint servers (Some was) there in
    let binds = binds_from m n endpoint server servers was.queue changes queue in
    let set = count_set m n endpoint was (bound_box was server) servers sound.distinct unique there written in
    let counts : count (queues_with n.entries servers) ≡ count q = omega (arith, set) in
    let kept = kept_bound q (queues_with n.entries servers) heads counted endpoint server sound.kept unbound binds known counts in
    let is_now : put_turn heads (turn_by (Some server) (head_of q endpoint)) endpoint ≡ now = ap (λ (entries : List Sent). put_turn heads (turn_by (Some server) (slice_get entries 0)) endpoint) queue ∙ sym put in
    (record { kept = subst (λ (h : List Heads). IsKept (queues_with n.entries servers) h counted) is_now kept; distinct = unique }, binds, counts)

bound_new : (m n : Boxes) (heads : List Heads) (counted servers endpoint server : ℕ) (box : Mailbox) → IsSound m.entries heads counted servers → box_at m endpoint ≡ None
    → server < servers → box ≡ record { server = Some server; queue = [] } → UpdatesBy eqb (eqb endpoint) m n (Some box) → IsPermutation ((endpoint, box) ∷ m.entries) n.entries → IsUnique eqb n
    → IsSound n.entries heads counted servers × Binds (queues_with m.entries servers) endpoint server (queues_with n.entries servers) × (count (queues_with n.entries servers) ≡ count (queues_with m.entries servers))
bound_new m n heads counted servers endpoint server box sound none known is updates entries unique =
    let q = queues_with m.entries servers in
    let queue : queue_of q endpoint ≡ [] = queue_is m endpoint servers None none in
    let changes : UpdatesBy eqb (eqb endpoint) m n (Some (record { server = Some server; queue = [] })) = subst (λ (b : Mailbox). UpdatesBy eqb (eqb endpoint) m n (Some b)) is updates in
    let binds = binds_from m n endpoint server servers [] changes queue in
    let put = count_put m n endpoint box servers sound.distinct unique entries in
    let long : length box.queue ≡ 0 = ap (λ (b : Mailbox). length b.queue) is in
    let counts : count (queues_with n.entries servers) ≡ count q = omega (arith, put, long) in
    let kept = kept_bound q (queues_with n.entries servers) heads counted endpoint server sound.kept (server_is m endpoint servers None none) binds known counts in
    let is_now : put_turn heads (turn_by (Some server) (head_of q endpoint)) endpoint ≡ heads = ap (λ (waits : List Sent). put_turn heads (turn_by (Some server) (slice_get waits 0)) endpoint) queue in
    (record { kept = subst (λ (h : List Heads). IsKept (queues_with n.entries servers) h counted) is_now kept; distinct = unique }, binds, counts)

-- an endpoint is bound at its mailbox, or at a new one
module _ (m n : Boxes) (heads now : List Heads) (counted servers endpoint server : ℕ) (sound : IsSound m.entries heads counted servers) (unbound : server_of (queues_with m.entries servers) endpoint ≡ None) (known : server < servers) (unique : IsUnique eqb n) where
  bound_by : (box : Option Mailbox) → box_at m endpoint ≡ box → UpdatesBy eqb (eqb endpoint) m n (Some (bound_box (unwrap_or box no_box) server)) → PutsEntry eqb m n endpoint (bound_box (unwrap_or box no_box) server) box
      → now ≡ put_turn heads (turn_by (Some server) (slice_get (unwrap_or box no_box).queue 0)) endpoint
      → IsSound n.entries now counted servers × Binds (queues_with m.entries servers) endpoint server (queues_with n.entries servers) × (count (queues_with n.entries servers) ≡ count (queues_with m.entries servers))
  bound_by None none updates puts put =
      let three = bound_new m n heads counted servers endpoint server (bound_box no_box server) sound none known refl updates puts unique in
      (subst (λ (h : List Heads). IsSound n.entries h counted servers) (sym put) three.0, three.1, three.2)
  bound_by (Some was) there updates puts put = bound_there m n heads now counted servers endpoint server was sound there unbound known updates puts unique put

  -- whether it is bound or nothing changed
  pub bound_or_not : {A E : Type 0} (r : Result A E) → OnOk r (UpdatesBy eqb (eqb endpoint) m n (Some (bound_box (unwrap_or (box_at m endpoint) no_box) server)))
      → OnOk r (PutsEntry eqb m n endpoint (bound_box (unwrap_or (box_at m endpoint) no_box) server) (box_at m endpoint))
      → OnOk r (now ≡ put_turn heads (turn_by (Some server) (slice_get (unwrap_or (box_at m endpoint) no_box).queue 0)) endpoint)
      → OnErr r ((n.entries ≡ m.entries) × (now ≡ heads))
      → IsSound n.entries now counted servers × OnOk r (Binds (queues_with m.entries servers) endpoint server (queues_with n.entries servers))
      × OnOk r (count (queues_with n.entries servers) ≡ count (queues_with m.entries servers))
  bound_or_not (Ok v) updates puts put same = bound_by (box_at m endpoint) refl updates puts put
  bound_or_not (Err e) updates puts put same = (sound_same m n heads now counted servers sound same.0 same.1, tt, tt)

-- where binding fails the mailbox was there, and is written back as it was
pub none_bound : {A E : Type 0} (r : Result A E) (m : Boxes) (entries : List (ℕ × Mailbox)) (endpoint : ℕ) (was now : Mailbox) (heads later : List Heads)
    → was ≡ unwrap_or (box_at m endpoint) no_box → MatchOption (box_at m endpoint) (IsPermutation ((endpoint, now) ∷ m.entries) entries) (λ _. entries ≡ set_value (eqb endpoint) m.entries now)
    → OnErr r ((now ≡ was) × (later ≡ heads)) → (slice_get was.queue 0 ≡ None → IsOk r)
    → OnErr r ((entries ≡ m.entries) × (later ≡ heads))
none_bound (Ok v) m entries endpoint was now heads later is puts err able = tt
none_bound (Err e) m entries endpoint was now heads later is puts err able = (by_box (box_at m endpoint) refl, err.1)
  where
    by_box : (box : Option Mailbox) → box_at m endpoint ≡ box → entries ≡ m.entries
    by_box None none = let fails = able (ap (λ (b : Mailbox). slice_get b.queue 0) (is ∙ ap (λ (o : Option Mailbox). unwrap_or o no_box) none)) in absurd (cc)
    by_box (Some box) there =
        let written : entries ≡ set_value (eqb endpoint) m.entries now =
        subst (λ (o : Option Mailbox). MatchOption o (IsPermutation ((endpoint, now) ∷ m.entries) entries) (λ _. entries ≡ set_value (eqb endpoint) m.entries now)) there puts in
        let same : now ≡ box = err.0 ∙ is ∙ ap (λ (o : Option Mailbox). unwrap_or o no_box) there in
        written ∙ ap (λ (b : Mailbox). set_value (eqb endpoint) m.entries b) same ∙ set_value_same (eqb endpoint) m.entries box there

-- ---- pushing

pub pushed_there : (m n : Boxes) (heads now : List Heads) (counted servers endpoint : ℕ) (was box : Mailbox) (sent : Sent) → IsSound m.entries heads counted servers → box_at m endpoint ≡ Some was
    → IsAbove (queues_with m.entries servers) sent.place → counted < limit.MAX_WAITING → box ≡ pushed_box was sent → WritesThrough eqb (eqb endpoint) m box n
    → now ≡ put_turn heads (turn_by was.server (first_pushed was sent)) endpoint
    → IsSound n.entries now (counted + 1) servers × Requeues (queues_with m.entries servers) endpoint (queue_of (queues_with m.entries servers) endpoint ++ sent ∷ []) (queues_with n.entries servers)
    × (count (queues_with n.entries servers) ≡ count (queues_with m.entries servers) + 1)
pushed_there m n heads now counted servers endpoint was box sent sound there above room is writes put =
    let q = queues_with m.entries servers in
    let queue : queue_of q endpoint ≡ was.queue = queue_is m endpoint servers (Some was) there in
    let server : server_of q endpoint ≡ was.server = server_is m endpoint servers (Some was) there in
    let changes : UpdatesBy eqb (eqb endpoint) m n (Some (pushed_box was sent)) = subst (λ (b : Mailbox). UpdatesBy eqb (eqb endpoint) m n (Some b)) is (writes.3 (some_box _ was there)) in
    let requeues : Requeues q endpoint (queue_of q endpoint ++ sent ∷ []) (queues_with n.entries servers) =
    subst (λ (waits : List Sent). Requeues q endpoint (waits ++ sent ∷ []) (queues_with n.entries servers)) (sym queue) (requeues_from m n endpoint servers (pushed_box was sent) changes server) in
    let set = count_set m n endpoint was box servers sound.distinct writes.4 there writes.0 in
    let long : length box.queue ≡ length was.queue + 1 = ap (λ (b : Mailbox). length b.queue) is ∙ length-append was.queue (sent ∷ []) in
    let counts : count (queues_with n.entries servers) ≡ count q + 1 = omega (arith, set, long) in
    let kept = kept_pushed q (queues_with n.entries servers) heads counted endpoint sent sound.kept above requeues room counts in
    let is_now : put_turn heads (turn_by (server_of q endpoint) (if is_none (head_of q endpoint) then Some sent else None)) endpoint ≡ now =
    ap (λ (s : Option ℕ). put_turn heads (turn_by s (if is_none (head_of q endpoint) then Some sent else None)) endpoint) server
    ∙ ap (λ (waits : List Sent). put_turn heads (turn_by was.server (if is_none (slice_get waits 0) then Some sent else None)) endpoint) queue ∙ sym put in
    (record { kept = subst (λ (h : List Heads). IsKept (queues_with n.entries servers) h (counted + 1)) is_now kept; distinct = writes.4 }, requeues, counts)

pub pushed_new : (m n : Boxes) (heads : List Heads) (counted servers endpoint : ℕ) (box : Mailbox) (sent : Sent) → IsSound m.entries heads counted servers → box_at m endpoint ≡ None
    → IsAbove (queues_with m.entries servers) sent.place → counted < limit.MAX_WAITING → box ≡ record { server = None; queue = sent ∷ [] }
    → UpdatesBy eqb (eqb endpoint) m n (Some box) → IsPermutation ((endpoint, box) ∷ m.entries) n.entries → IsUnique eqb n
    → IsSound n.entries heads (counted + 1) servers × Requeues (queues_with m.entries servers) endpoint (queue_of (queues_with m.entries servers) endpoint ++ sent ∷ []) (queues_with n.entries servers)
    × (count (queues_with n.entries servers) ≡ count (queues_with m.entries servers) + 1)
pushed_new m n heads counted servers endpoint box sent sound none above room is updates entries unique =
    let q = queues_with m.entries servers in
    let queue : queue_of q endpoint ≡ [] = queue_is m endpoint servers None none in
    let server : server_of q endpoint ≡ None = server_is m endpoint servers None none in
    let alone : Mailbox = record { server = None; queue = sent ∷ [] } in
    let changes : UpdatesBy eqb (eqb endpoint) m n (Some alone) = subst (λ (b : Mailbox). UpdatesBy eqb (eqb endpoint) m n (Some b)) is updates in
    let requeues : Requeues q endpoint (queue_of q endpoint ++ sent ∷ []) (queues_with n.entries servers) =
    subst (λ (waits : List Sent). Requeues q endpoint (waits ++ sent ∷ []) (queues_with n.entries servers)) (sym queue) (requeues_from m n endpoint servers alone changes server) in
    let put = count_put m n endpoint box servers sound.distinct unique entries in
    let long : length box.queue ≡ 1 = ap (λ (b : Mailbox). length b.queue) is in
    let counts : count (queues_with n.entries servers) ≡ count q + 1 = omega (arith, put, long) in
    let kept = kept_pushed q (queues_with n.entries servers) heads counted endpoint sent sound.kept above requeues room counts in
    let is_now : put_turn heads (turn_by (server_of q endpoint) (if is_none (head_of q endpoint) then Some sent else None)) endpoint ≡ heads =
    ap (λ (s : Option ℕ). put_turn heads (turn_by s (if is_none (head_of q endpoint) then Some sent else None)) endpoint) server in
    (record { kept = subst (λ (h : List Heads). IsKept (queues_with n.entries servers) h (counted + 1)) is_now kept; distinct = unique }, requeues, counts)

-- ---- taking

the_one : {A : Type 0} (o : Option A) → IsSome o → (x : A) × (o ≡ Some x)
the_one None h = absurd (cc)
the_one (Some x) h = (x, refl)

first_and_later : (queue : List Sent) → IsSome (slice_get queue 0) → (first : Sent) × (queue ≡ first ∷ drop 1 queue)
first_and_later [] h = absurd (cc)
first_and_later (first ∷ later) h = (first, refl)

second_is : (queue : List Sent) → slice_get (drop 1 queue) 0 ≡ slice_get queue 1
second_is [] = refl
second_is (first ∷ later) = refl

pub taken_there : (m n : Boxes) (heads now : List Heads) (counted servers endpoint : ℕ) (was box : Mailbox) → IsSound m.entries heads counted servers → box_at m endpoint ≡ Some was
    → IsSome was.server → IsSome (slice_get was.queue 0) → box ≡ popped_box was → WritesThrough eqb (eqb endpoint) m box n
    → now ≡ drop_turn (put_turn heads (turn_by was.server (slice_get was.queue 1)) endpoint) (turn_by was.server (slice_get was.queue 0))
    → IsSound n.entries now (counted - 1) servers × Requeues (queues_with m.entries servers) endpoint (drop 1 (queue_of (queues_with m.entries servers) endpoint)) (queues_with n.entries servers)
    × (count (queues_with n.entries servers) + 1 ≡ count (queues_with m.entries servers))
taken_there m n heads now counted servers endpoint was box sound there bound waits is writes put =
    let q = queues_with m.entries servers in
    let queue : queue_of q endpoint ≡ was.queue = queue_is m endpoint servers (Some was) there in
    let server = the_one was.server bound in
    let at : server_of q endpoint ≡ Some server.0 = server_is m endpoint servers (Some was) there ∙ server.1 in
    let first = first_and_later was.queue waits in
    let changes : UpdatesBy eqb (eqb endpoint) m n (Some (popped_box was)) = subst (λ (b : Mailbox). UpdatesBy eqb (eqb endpoint) m n (Some b)) is (writes.3 (some_box _ was there)) in
    let requeues : Requeues q endpoint (drop 1 was.queue) (queues_with n.entries servers) = requeues_from m n endpoint servers (popped_box was) changes (server_is m endpoint servers (Some was) there) in
    let set = count_set m n endpoint was box servers sound.distinct writes.4 there writes.0 in
    let long : length box.queue ≡ length (drop 1 was.queue) = ap (λ (b : Mailbox). length b.queue) is in
    let longer : length was.queue ≡ length (drop 1 was.queue) + 1 = ap length first.1 ∙ one_more (drop 1 was.queue) first.0 in
    let counts : count (queues_with n.entries servers) + 1 ≡ count q = omega (arith, set, long, longer) in
    let kept = kept_taken q (queues_with n.entries servers) heads counted endpoint server.0 first.0 (drop 1 was.queue) sound.kept at (queue ∙ first.1) requeues counts in
    let turn : turn_by was.server (slice_get was.queue 0) ≡ Some (server.0, first.0.place) = turn_alike _ _ _ _ server.1 (ap (λ (entries : List Sent). slice_get entries 0) first.1) in
    let next : turn_by was.server (slice_get was.queue 1) ≡ turn_by (Some server.0) (slice_get (drop 1 was.queue) 0) = turn_alike _ _ _ _ server.1 (sym (second_is was.queue)) in
    let is_now : drop_turn (put_turn heads (turn_by (Some server.0) (slice_get (drop 1 was.queue) 0)) endpoint) (Some (server.0, first.0.place)) ≡ now =
    ap (λ (t : Option (ℕ × ℕ)). drop_turn (put_turn heads t endpoint) (Some (server.0, first.0.place))) (sym next)
    ∙ ap (λ (t : Option (ℕ × ℕ)). drop_turn (put_turn heads (turn_by was.server (slice_get was.queue 1)) endpoint) t) (sym turn) ∙ sym put in (
      record { kept = subst (λ (h : List Heads). IsKept (queues_with n.entries servers) h (counted - 1)) is_now kept; distinct = writes.4 },
      subst (λ (entries : List Sent). Requeues q endpoint (drop 1 entries) (queues_with n.entries servers)) (sym queue) requeues,
      counts,
    )

-- ---- closing

pub closed_there : (m n : Boxes) (heads now : List Heads) (counted servers endpoint : ℕ) (was : Mailbox) → IsSound m.entries heads counted servers → box_at m endpoint ≡ Some was
    → UpdatesBy eqb (eqb endpoint) m n None → IsPermutation (remove_entry (eqb endpoint) m.entries) n.entries → IsUnique eqb n
    → now ≡ drop_turn heads (turn_by was.server (slice_get was.queue 0))
    → IsSound n.entries now (counted - length was.queue) servers × Buries (queues_with m.entries servers) (endpoint ∷ []) (queues_with n.entries servers)
    × (count (queues_with n.entries servers) + length (queue_of (queues_with m.entries servers) endpoint) ≡ count (queues_with m.entries servers))
closed_there m n heads now counted servers endpoint was sound there updates entries unique put =
    let q = queues_with m.entries servers in
    let queue : queue_of q endpoint ≡ was.queue = queue_is m endpoint servers (Some was) there in
    let buries = buries_from m n endpoint servers updates in
    let counts = count_cut m n endpoint servers sound.distinct unique entries in
    let kept = kept_closed q (queues_with n.entries servers) heads counted endpoint sound.kept buries counts in
    let turn : turn_of q endpoint ≡ turn_by was.server (slice_get was.queue 0) = turn_alike _ _ _ _ (server_is m endpoint servers (Some was) there) (ap (λ (waits : List Sent). slice_get waits 0) queue) in
    let is_now : drop_turn heads (turn_of q endpoint) ≡ now = ap (drop_turn heads) turn ∙ sym put in
    let left : counted - length (queue_of q endpoint) ≡ counted - length was.queue = ap (λ (waits : List Sent). counted - length waits) queue in
    (record { kept = subst (λ (c : ℕ). IsKept (queues_with n.entries servers) now c) left (subst (λ (h : List Heads). IsKept (queues_with n.entries servers) h (counted - length (queue_of q endpoint))) is_now kept); distinct = unique }, buries, counts)

-- what waits on one endpoint are no more than all that wait
pub few_there : (m : Boxes) (heads : List Heads) (counted servers endpoint : ℕ) (was : Mailbox) → IsSound m.entries heads counted servers → box_at m endpoint ≡ Some was
    → length was.queue ≤ counted
few_there m heads counted servers endpoint was sound there =
    let cut = sum_by-remove_entry weigh (eqb endpoint) m.entries in
    let weighs : unwrap_or (option_map weigh (box_at m endpoint)) 0 ≡ length was.queue = ap (λ (o : Option Mailbox). unwrap_or (option_map weigh o) 0) there in
    omega (arith, cut, weighs, count-entries m.entries servers sound.distinct, sound.kept.counts)

-- where nothing is kept of an endpoint, it isn't bound, and nothing waits on it
pub closed_none : (m : Boxes) (servers endpoint : ℕ) → box_at m endpoint ≡ None
    → Buries (queues_with m.entries servers) (endpoint ∷ []) (queues_with m.entries servers) × (length (queue_of (queues_with m.entries servers) endpoint) ≡ 0)
closed_none m servers endpoint none = (
  record {
    waiting = λ other. sym (gone other (queue_of (queues_with m.entries servers)) [] (queue_is m endpoint servers None none));
    bound = λ other. sym (gone other (server_of (queues_with m.entries servers)) None (server_is m endpoint servers None none));
    those = refl;
  },
  ap length (queue_is m endpoint servers None none),
)
  where
    gone : (other : ℕ) → {A : Type 0} (P : ℕ → A) (x : A) → P endpoint ≡ x → (if among other (endpoint ∷ []) then x else P other) ≡ P other
    gone other P x is = by_test (among other (endpoint ∷ [])) refl
      where
        by_test : (b : Bool) → among other (endpoint ∷ []) ≡ b → (if b then x else P other) ≡ P other
        by_test true e = sym is ∙ ap P (same_number other endpoint (sym (among-one other endpoint) ∙ e))
        by_test false e = refl

pub box_is : (box : Mailbox) (server : Option ℕ) (queue : List Sent) → box.server ≡ server → box.queue ≡ queue → box ≡ record { server = server; queue = queue }
box_is box server queue a b = λ i. record { server = a i; queue = b i }

long_enough : (queue : List Sent) → IsSome (slice_get queue 0) → 1 ≤ length queue
long_enough [] h = absurd (cc)
long_enough (first ∷ later) h = omega arith

-- what is ready has a mailbox, bound and not empty
pub ready_there : (m : Boxes) (endpoint servers : ℕ) (was : Mailbox) → box_at m endpoint ≡ Some was → IsReady (queues_with m.entries servers) endpoint
    → IsSome was.server × IsSome (slice_get was.queue 0)
ready_there m endpoint servers was there ready = (
  subst (λ (server : Option ℕ). IsSome server) (server_is m endpoint servers (Some was) there) ready.0,
  subst (λ (queue : List Sent). IsSome (slice_get queue 0)) (queue_is m endpoint servers (Some was) there) ready.1,
)

not_some : {A : Type 0} (o : Option A) → o ≡ None → IsSome o → ⊥
not_some None e h = cc
not_some (Some x) e h = cc

pub ready_by : (m : Boxes) (endpoint servers : ℕ) (was : Mailbox) → box_at m endpoint ≡ Some was → IsSome was.server × IsSome (slice_get was.queue 0)
    → IsReady (queues_with m.entries servers) endpoint
ready_by m endpoint servers was there ready = (
  subst (λ (server : Option ℕ). IsSome server) (sym (server_is m endpoint servers (Some was) there)) ready.0,
  subst (λ (queue : List Sent). IsSome (slice_get queue 0)) (sym (queue_is m endpoint servers (Some was) there)) ready.1,
)

pub ready_none : (m : Boxes) (endpoint servers : ℕ) → box_at m endpoint ≡ None → IsReady (queues_with m.entries servers) endpoint → ⊥
ready_none m endpoint servers none ready = not_some (server_of (queues_with m.entries servers) endpoint) (server_is m endpoint servers None none) ready.0

pub some_counted : (m : Boxes) (heads : List Heads) (counted servers endpoint : ℕ) (was : Mailbox) → IsSound m.entries heads counted servers → box_at m endpoint ≡ Some was → IsSome (slice_get was.queue 0) → 1 ≤ counted
some_counted m heads counted servers endpoint was sound there waits =
    let few = few_there m heads counted servers endpoint was sound there in
    let some = long_enough was.queue waits in
    omega arith

pub box_server : (m : Boxes) (endpoint servers : ℕ) (was : Mailbox) → box_at m endpoint ≡ Some was → server_of (queues_with m.entries servers) endpoint ≡ was.server
box_server m endpoint servers was there = server_is m endpoint servers (Some was) there

pub box_head : (m : Boxes) (endpoint servers : ℕ) (was : Mailbox) → box_at m endpoint ≡ Some was → head_of (queues_with m.entries servers) endpoint ≡ slice_get was.queue 0
box_head m endpoint servers was there = ap (λ (queue : List Sent). slice_get queue 0) (queue_is m endpoint servers (Some was) there)

-- where a mailbox is bound, that server has its heads
pub known_there : (m : Boxes) (heads : List Heads) (counted servers endpoint : ℕ) (was : Mailbox) → IsSound m.entries heads counted servers → box_at m endpoint ≡ Some was
    → IfSome was.server (λ server. server < length heads)
known_there m heads counted servers endpoint was sound there = by_server was.server (server_is m endpoint servers (Some was) there)
  where
    by_server : (server : Option ℕ) → server_of (queues_with m.entries servers) endpoint ≡ server → IfSome server (λ s. s < length heads)
    by_server None is = tt
    by_server (Some server) is = known_server (queues_with m.entries servers) heads counted sound.kept endpoint server is

-- where none are counted nothing waits
pub nothing_counted : (m : Boxes) (heads : List Heads) (counted servers : ℕ) → IsSound m.entries heads counted servers → counted ≡ 0 → (endpoint : ℕ)
    → queue_of (queues_with m.entries servers) endpoint ≡ []
nothing_counted m heads counted servers sound none endpoint = by_box (box_at m endpoint) refl
  where
    no_entry : (queue : List Sent) → length queue ≡ 0 → queue ≡ []
    no_entry [] e = refl
    no_entry (first ∷ later) e = absurd (omega (arith, e))

    by_box : (box : Option Mailbox) → box_at m endpoint ≡ box → queue_of (queues_with m.entries servers) endpoint ≡ []
    by_box None is = queue_is m endpoint servers None is
    by_box (Some was) is = let few = few_there m heads counted servers endpoint was sound is in queue_is m endpoint servers (Some was) is ∙ no_entry was.queue (omega (arith, few, none))

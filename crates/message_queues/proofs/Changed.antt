-- What a change of one mailbox does to all queues.
use Rattle.std.proofs.Common.{◌≡◌, ℕ, ◌+◌, Bool, true, false, eqb, BuildHasherDefault, FoldHasher, List, [], ◌∷◌, refl, sym, ap, ◌∙◌, arith, length}
use Rattle.std.specs.Prelude.{◌==◌, Option, Some, None, if◌then◌else◌, sum_by, unwrap_or}
use Rattle.std.specs.HashMap.{HashMap, UpdatesBy, IsUnique}
use Rattle.std.specs.FinMap as finite
use Rattle.std.specs.List.{IsDistinct}
use Rattle.std.specs.List.Sorted.{IsPermutation}
use Rattle.std.specs.Map.{keys_of, lookup, remove_entry, set_value, values_of}
use Rattle.std.specs.Option.{option_and_then, option_map, option_map_or}
use Rattle.std.specs.Ordering.{nat_cmp}
use Rattle.std.proofs.lemmas.Bool.Decides.{nat_tests}
use Rattle.std.proofs.lemmas.List.Sums.{sum_by-cons}
use Rattle.std.proofs.lemmas.Map.Entries.{sum_by-remove_entry, sum_by-set_value, sum_by_values_permutation}
use Rattle.link_admission.proofs.Tabled.{get-table, changes-table}
use Rattle.link_admission.specs.Numbering.{among}
use Rattle.vfs_journal.specs.Entries.{Sent}
use Rattle.message_queues.specs.Queues.{Binds, Mailbox, Requeues, count, queue_of, server_of}
use Rattle.message_queues.specs.Dying.{Buries}
use Rattle.message_queues.specs.Steps.{queues_with}
use Rattle.message_queues.proofs.Finite.{sum-map}
use Rattle.message_queues.proofs.Numbers.{among-one, same_number}

-- what a mailbox that may be there has
abbrev pub queue_in : Option Mailbox → List Sent
queue_in box = option_map_or (λ (b : Mailbox). b.queue) box []

abbrev pub server_in : Option Mailbox → Option ℕ
server_in box = option_and_then (λ (b : Mailbox). b.server) box

-- the mailboxes by their endpoints
abbrev pub Boxes : Type 0
Boxes = HashMap ℕ Mailbox (BuildHasherDefault FoldHasher)

-- what is found at an endpoint
pub found : (entries : List (ℕ × Mailbox)) (endpoint : ℕ) → finite.get (finite.from_entries {R = nat_cmp} entries) endpoint ≡ lookup (eqb endpoint) entries
found entries endpoint = get-table entries endpoint

-- a table in which the mailbox of one endpoint changed, came or went
abbrev pub Changes : Boxes → ℕ → Option Mailbox → Boxes → Type 0
Changes old endpoint box new = UpdatesBy eqb (eqb endpoint) old new box

box_behind : (old new : Boxes) (endpoint : ℕ) (box : Option Mailbox) → Changes old endpoint box new → (other : ℕ)
    → finite.get (finite.from_entries {R = nat_cmp} new.entries) other ≡ (if other == endpoint then box else finite.get (finite.from_entries {R = nat_cmp} old.entries) other)
box_behind old new endpoint box changes = changes-table old.entries new.entries endpoint box changes.0

either_queue : (b : Bool) (one two : Option Mailbox) → queue_in (if b then one else two) ≡ (if b then queue_in one else queue_in two)
either_queue true one two = refl
either_queue false one two = refl

either_server : (b : Bool) (one two : Option Mailbox) → server_in (if b then one else two) ≡ (if b then server_in one else server_in two)
either_server true one two = refl
either_server false one two = refl

pub queue_behind : (old new : Boxes) (endpoint : ℕ) (box : Option Mailbox) (servers : ℕ) → Changes old endpoint box new → (other : ℕ)
    → queue_of (queues_with new.entries servers) other ≡ (if other == endpoint then queue_in box else queue_of (queues_with old.entries servers) other)
queue_behind old new endpoint box servers changes other = ap queue_in (box_behind old new endpoint box changes other) ∙ either_queue (other == endpoint) box _

pub server_behind : (old new : Boxes) (endpoint : ℕ) (box : Option Mailbox) (servers : ℕ) → Changes old endpoint box new → (other : ℕ)
    → server_of (queues_with new.entries servers) other ≡ (if other == endpoint then server_in box else server_of (queues_with old.entries servers) other)
server_behind old new endpoint box servers changes other = ap server_in (box_behind old new endpoint box changes other) ∙ either_server (other == endpoint) box _

-- ---- how many wait

abbrev pub weigh : Mailbox → ℕ
weigh box = length box.queue

pub count-entries : (entries : List (ℕ × Mailbox)) (servers : ℕ) → IsDistinct eqb (keys_of entries) → count (queues_with entries servers) ≡ sum_by weigh (values_of entries)
count-entries entries servers distinct = sum-map weigh entries distinct

weighs : (box : Option Mailbox) → unwrap_or (option_map weigh box) 0 ≡ length (queue_in box)
weighs None = refl
weighs (Some box) = refl

pub count_put : (old new : Boxes) (endpoint : ℕ) (box : Mailbox) (servers : ℕ) → IsUnique eqb old → IsUnique eqb new
    → IsPermutation ((endpoint, box) ∷ old.entries) new.entries
    → count (queues_with new.entries servers) ≡ count (queues_with old.entries servers) + length box.queue
count_put old new endpoint box servers before after moves =
    let put = sum_by_values_permutation weigh ((endpoint, box) ∷ old.entries) new.entries moves in
    omega (arith, put, sum_by-cons weigh box (values_of old.entries), count-entries old.entries servers before, count-entries new.entries servers after)

pub count_set : (old new : Boxes) (endpoint : ℕ) (was box : Mailbox) (servers : ℕ) → IsUnique eqb old → IsUnique eqb new
    → lookup (eqb endpoint) old.entries ≡ Some was → new.entries ≡ set_value (eqb endpoint) old.entries box
    → count (queues_with new.entries servers) + length was.queue ≡ count (queues_with old.entries servers) + length box.queue
count_set old new endpoint was box servers before after there e =
    let set = sum_by-set_value weigh (eqb endpoint) old.entries was box there in
    let is = ap (λ (es : List (ℕ × Mailbox)). sum_by weigh (values_of es)) e in
    omega (arith, set, is, count-entries old.entries servers before, count-entries new.entries servers after)

pub count_cut : (old new : Boxes) (endpoint : ℕ) (servers : ℕ) → IsUnique eqb old → IsUnique eqb new
    → IsPermutation (remove_entry (eqb endpoint) old.entries) new.entries
    → count (queues_with new.entries servers) + length (queue_of (queues_with old.entries servers) endpoint) ≡ count (queues_with old.entries servers)
count_cut old new endpoint servers before after moves =
    let cut = sum_by-remove_entry weigh (eqb endpoint) old.entries in
    let is = sum_by_values_permutation weigh (remove_entry (eqb endpoint) old.entries) new.entries moves in
    let had = weighs (lookup (eqb endpoint) old.entries) ∙ ap (λ (o : Option Mailbox). length (queue_in o)) (sym (found old.entries endpoint)) in
    omega (arith, cut, is, had, count-entries old.entries servers before, count-entries new.entries servers after)

-- ---- the changes, as all queues see them

choice : (other endpoint : ℕ) → {A : Type 0} (P : ℕ → A) (x : A) → P endpoint ≡ x → (if other == endpoint then x else P other) ≡ P other
choice other endpoint P x is = by_test (other == endpoint) refl
  where
    by_test : (b : Bool) → (other == endpoint) ≡ b → (if b then x else P other) ≡ P other
    by_test true e = sym is ∙ ap P (sym (same_number endpoint other e))
    by_test false e = refl

pub binds_from : (old new : Boxes) (endpoint server servers : ℕ) (queue : List Sent) → Changes old endpoint (Some (record { server = Some server; queue = queue })) new
    → queue_of (queues_with old.entries servers) endpoint ≡ queue → Binds (queues_with old.entries servers) endpoint server (queues_with new.entries servers)
binds_from old new endpoint server servers queue changes was = record {
  waiting = λ other. queue_behind old new endpoint _ servers changes other ∙ choice other endpoint (queue_of (queues_with old.entries servers)) queue was;
  bound = λ other. server_behind old new endpoint _ servers changes other;
  those = refl;
}

pub requeues_from : (old new : Boxes) (endpoint servers : ℕ) (box : Mailbox) → Changes old endpoint (Some box) new
    → server_of (queues_with old.entries servers) endpoint ≡ box.server → Requeues (queues_with old.entries servers) endpoint box.queue (queues_with new.entries servers)
requeues_from old new endpoint servers box changes was = record {
  waiting = λ other. queue_behind old new endpoint _ servers changes other;
  bound = λ other. server_behind old new endpoint _ servers changes other ∙ choice other endpoint (server_of (queues_with old.entries servers)) box.server was;
  those = refl;
}

flip : (a b : ℕ) → (a == b) ≡ (b == a)
flip a b = grind (arith, nat_tests)

pub buries_from : (old new : Boxes) (endpoint servers : ℕ) → Changes old endpoint None new → Buries (queues_with old.entries servers) (endpoint ∷ []) (queues_with new.entries servers)
buries_from old new endpoint servers changes = record {
  waiting = λ other. queue_behind old new endpoint _ servers changes other ∙ ap (λ (b : Bool). if b then [] else queue_of (queues_with old.entries servers) other) (test other);
  bound = λ other. server_behind old new endpoint _ servers changes other ∙ ap (λ (b : Bool). if b then None else server_of (queues_with old.entries servers) other) (test other);
  those = refl;
}
  where
    test : (other : ℕ) → (other == endpoint) ≡ among other (endpoint ∷ [])
    test other = flip other endpoint ∙ sym (among-one other endpoint)

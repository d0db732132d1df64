use Rattle.std.proofs.Common.{◌≡◌, ◌+◌, ◌-◌, ◌∷◌, [], List, sym, ap, subst, ℕ, length, arith}
use Rattle.message_queues.specs.Queues.{Mailbox, Queues, count, queue_of}
use Rattle.message_queues.specs.Dying.{Buries}
use Rattle.message_queues.specs.Steps.{IsSound, queues_with}
use Rattle.message_queues.proofs.Sound.{closed_there, closed_none, few_there, known_there}
use Rattle.message_queues.proofs.queues.Queues.close.Goals as goal

pub discard-requires-clause-known : goal.discard-requires-clause-known
discard-requires-clause-known c =
    known_there c.self.inside.boxes c.self.inside.heads.items c.self.inside.count c.self.inside.servers c.args.endpoint c.in-Some.mailbox c.self.invariant (sym c.in-Some.ensures.value)

pub discard-requires-clause-few : goal.discard-requires-clause-few
discard-requires-clause-few c =
    let few = few_there c.self.inside.boxes c.self.inside.heads.items c.self.inside.count c.self.inside.servers c.args.endpoint c.in-Some.mailbox c.self.invariant (sym c.in-Some.ensures.value) in
    omega (arith, few, c.self.invariant.kept.few)

pub overflow_sub-self : goal.overflow_sub-self
overflow_sub-self c =
    let few = few_there c.self.inside.boxes c.self.inside.heads.items c.self.inside.count c.self.inside.servers c.args.endpoint c.in-Some.mailbox c.self.invariant (sym c.in-Some.ensures.value) in
    omega (arith, few, c.discard.ensures.len)

closed : (c : goal.After-self-1)
    → IsSound c.remove.new.self.entries c.discard.new.heads.items (c.self.inside.count - c.discard.result) c.self.inside.servers
    × Buries (queues_with c.self.inside.boxes.entries c.self.inside.servers) (c.args.endpoint ∷ []) (queues_with c.remove.new.self.entries c.self.inside.servers)
    × (count (queues_with c.remove.new.self.entries c.self.inside.servers) + length (queue_of (queues_with c.self.inside.boxes.entries c.self.inside.servers) c.args.endpoint)
    ≡ count (queues_with c.self.inside.boxes.entries c.self.inside.servers))
closed c =
    let three = closed_there c.self.inside.boxes c.remove.new.self c.self.inside.heads.items c.discard.new.heads.items c.self.inside.count c.self.inside.servers c.args.endpoint c.in-Some.mailbox c.self.invariant
    (sym c.in-Some.ensures.value) c.in-Some.ensures.updates c.in-Some.ensures.entries c.in-Some.ensures.unique c.discard.ensures.dropped in
    (subst (λ (n : ℕ). IsSound c.remove.new.self.entries c.discard.new.heads.items (c.self.inside.count - n) c.self.inside.servers) (sym c.discard.ensures.len) three.0, three.1, three.2)

pub invariant_of-self-2 : goal.invariant_of-self-2
invariant_of-self-2 c = (closed c).0

pub returns-clause-closed : goal.returns-clause-closed
returns-clause-closed c = subst (λ (queues : Queues). Buries queues (c.args.endpoint ∷ []) (queues_with c.remove.new.self.entries c.self.inside.servers)) c.self.view_is (closed c).1

pub returns-clause-len : goal.returns-clause-len
returns-clause-len c =
    subst (λ (queues : Queues). count (queues_with c.remove.new.self.entries c.self.inside.servers) + length (queue_of queues c.args.endpoint) ≡ count queues) c.self.view_is (closed c).2

pub returns-in_default-clause-closed : goal.returns-in_default-clause-closed
returns-in_default-clause-closed c =
    subst (λ (queues : Queues). Buries queues (c.args.endpoint ∷ []) (queues_with c.remove.new.self.entries c.self.inside.servers)) c.self.view_is
    (subst (λ (entries : List (ℕ × Mailbox)). Buries (queues_with c.self.inside.boxes.entries c.self.inside.servers) (c.args.endpoint ∷ []) (queues_with entries c.self.inside.servers)) (sym c.in_default.ensures.unchanged)
    (closed_none c.self.inside.boxes c.self.inside.servers c.args.endpoint (sym c.in_default.ensures.value)).0)

pub returns-in_default-clause-len : goal.returns-in_default-clause-len
returns-in_default-clause-len c =
    let none = (closed_none c.self.inside.boxes c.self.inside.servers c.args.endpoint (sym c.in_default.ensures.value)).1 in
    let same : count (queues_with c.remove.new.self.entries c.self.inside.servers) ≡ count (queues_with c.self.inside.boxes.entries c.self.inside.servers) =
    ap (λ (entries : List (ℕ × Mailbox)). count (queues_with entries c.self.inside.servers)) c.in_default.ensures.unchanged in
    subst (λ (queues : Queues). count (queues_with c.remove.new.self.entries c.self.inside.servers) + length (queue_of queues c.args.endpoint) ≡ count queues) c.self.view_is (omega (arith, none, same))

use Rattle.std.proofs.Common.{◌≡◌, ◌∙◌, ◌+◌, ◌-◌, List, sym, ap, subst, ℕ, drop}
use Rattle.message_queues.specs.Queues.{IsReady, Mailbox, Queues, Requeues, count, head_of, queue_of, server_of}
use Rattle.message_queues.specs.Steps.{IsSound, queues_with}
use Rattle.message_queues.proofs.Sound.{box_head, box_server, known_there, ready_none, ready_there, some_counted, sound_same, taken_there, view_same, written_back}
use Rattle.message_queues.proofs.queues.Queues.take.Goals as goal

pub unreachable-requires : goal.unreachable-requires
unreachable-requires c =
    ready_none c.self.inside.boxes c.args.endpoint c.self.inside.servers (sym c.in_default.ensures.value) (subst (λ (queues : Queues). IsReady queues c.args.endpoint) (sym c.self.view_is) c.requires)

pub take_from-requires-clause-bound : goal.take_from-requires-clause-bound
take_from-requires-clause-bound c =
    (ready_there c.self.inside.boxes c.args.endpoint c.self.inside.servers c.in-Some.mailbox.now (sym c.in-Some.ensures.value) (subst (λ (queues : Queues). IsReady queues c.args.endpoint) (sym c.self.view_is) c.requires)).0

pub take_from-requires-clause-some : goal.take_from-requires-clause-some
take_from-requires-clause-some c =
    (ready_there c.self.inside.boxes c.args.endpoint c.self.inside.servers c.in-Some.mailbox.now (sym c.in-Some.ensures.value) (subst (λ (queues : Queues). IsReady queues c.args.endpoint) (sym c.self.view_is) c.requires)).1

pub take_from-requires-clause-known : goal.take_from-requires-clause-known
take_from-requires-clause-known c =
    known_there c.self.inside.boxes c.self.inside.heads.items c.self.inside.count c.self.inside.servers c.args.endpoint c.in-Some.mailbox.now c.self.invariant (sym c.in-Some.ensures.value)

pub overflow_sub-self : goal.overflow_sub-self
overflow_sub-self c =
    let ready = ready_there c.self.inside.boxes c.args.endpoint c.self.inside.servers c.in-Some.mailbox.now (sym c.in-Some.ensures.value) (subst (λ (queues : Queues). IsReady queues c.args.endpoint) (sym c.self.view_is) c.requires) in
    some_counted c.self.inside.boxes c.self.inside.heads.items c.self.inside.count c.self.inside.servers c.args.endpoint c.in-Some.mailbox.now c.self.invariant (sym c.in-Some.ensures.value) ready.1

taken : (c : goal.After-self-3-1)
    → IsSound (c.get_mut.follows.lender c.take_from.new.mailbox).entries c.take_from.new.heads.items (c.self.inside.count - 1) c.self.inside.servers
    × Requeues (queues_with c.self.inside.boxes.entries c.self.inside.servers) c.args.endpoint (drop 1 (queue_of (queues_with c.self.inside.boxes.entries c.self.inside.servers) c.args.endpoint))
    (queues_with (c.get_mut.follows.lender c.take_from.new.mailbox).entries c.self.inside.servers)
    × (count (queues_with (c.get_mut.follows.lender c.take_from.new.mailbox).entries c.self.inside.servers) + 1 ≡ count (queues_with c.self.inside.boxes.entries c.self.inside.servers))
taken c =
    let ready = ready_there c.self.inside.boxes c.args.endpoint c.self.inside.servers c.in-Some.mailbox.now (sym c.in-Some.ensures.value) (subst (λ (queues : Queues). IsReady queues c.args.endpoint) (sym c.self.view_is) c.requires) in
    taken_there c.self.inside.boxes (c.get_mut.follows.lender c.take_from.new.mailbox) c.self.inside.heads.items c.take_from.new.heads.items c.self.inside.count c.self.inside.servers c.args.endpoint
    c.in-Some.mailbox.now c.take_from.new.mailbox c.self.invariant (sym c.in-Some.ensures.value) ready.0 ready.1 c.in_ok-taken.ensures.later (c.get_mut.follows.holds c.take_from.new.mailbox) c.in_ok-taken.ensures.put

pub invariant_of-self-2 : goal.invariant_of-self-2
invariant_of-self-2 c = (taken c).0

pub returns-clause-bound : goal.returns-clause-bound
returns-clause-bound c =
    ap (λ (queues : Queues). server_of queues c.args.endpoint) (sym c.self.view_is)
    ∙ (box_server c.self.inside.boxes c.args.endpoint c.self.inside.servers c.in-Some.mailbox.now (sym c.in-Some.ensures.value) ∙ c.in_ok-taken.ensures.bound)

pub returns-clause-first : goal.returns-clause-first
returns-clause-first c =
    ap (λ (queues : Queues). head_of queues c.args.endpoint) (sym c.self.view_is)
    ∙ (box_head c.self.inside.boxes c.args.endpoint c.self.inside.servers c.in-Some.mailbox.now (sym c.in-Some.ensures.value) ∙ c.in_ok-taken.ensures.first)

pub returns-clause-later : goal.returns-clause-later
returns-clause-later c =
    subst (λ (queues : Queues). Requeues queues c.args.endpoint (drop 1 (queue_of queues c.args.endpoint)) (queues_with (c.get_mut.follows.lender c.take_from.new.mailbox).entries c.self.inside.servers)) c.self.view_is (taken c).1

pub returns-clause-len : goal.returns-clause-len
returns-clause-len c = (taken c).2 ∙ ap (λ (queues : Queues). count queues) c.self.view_is

-- for want of memory the mailbox is written back as it was
unchanged : (c : goal.After-from_residual) → (c.get_mut.follows.lender c.take_from.new.mailbox).entries ≡ c.self.inside.boxes.entries
unchanged c =
    written_back c.self.inside.boxes (c.get_mut.follows.lender c.take_from.new.mailbox) c.args.endpoint c.in-Some.mailbox.now c.take_from.new.mailbox (sym c.in-Some.ensures.value)
    c.in_err-taken.ensures.err.0 (c.get_mut.follows.holds c.take_from.new.mailbox)

pub invariant_of-self : goal.invariant_of-self
invariant_of-self c =
    sound_same c.self.inside.boxes (c.get_mut.follows.lender c.take_from.new.mailbox) c.self.inside.heads.items c.take_from.new.heads.items c.self.inside.count c.self.inside.servers c.self.invariant (unchanged c)
    c.in_err-taken.ensures.err.1

pub returns-in_err-taken-clause-err : goal.returns-in_err-taken-clause-err
returns-in_err-taken-clause-err c =
    view_same c.from_residual.result (ap (λ (entries : List (ℕ × Mailbox)). queues_with entries c.self.inside.servers) (unchanged c) ∙ c.self.view_is)

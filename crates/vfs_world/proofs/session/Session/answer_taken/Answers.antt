use Rattle.std.proofs.Common.{◌∙◌, ◌-◌, ℕ, ap, arith, sym, subst}
use Rattle.std.proofs.lemmas.Option.{same_Some, slice_get_within}
use Rattle.link_admission.specs.Standings.{Known, next_token_of}
use Rattle.vfs_journal.specs.Entries.{Sent, handles_of}
use Rattle.message_queues.specs.Queues.{Queues, count, server_of}
use Rattle.vfs_server.specs.Servers.{Server}
use Rattle.vfs_server.specs.Serving.{CanTake}
use Rattle.vfs_world.specs.Heads.{WasTaken}
use Rattle.vfs_world.specs.Running.{whole}
use Rattle.vfs_world.specs.ServingSteps.{BindsThere, bound_told}
use Rattle.vfs_world.specs.World.{World}
use Rattle.vfs_world.proofs.Taken.{CanAnswer, can_answer, takes_head}
use Rattle.vfs_world.proofs.session.Session.answer_taken.Goals as goal

-- what it counts on
can_in : (now : World) (endpoint server : ℕ) (sent : Sent) → WasTaken endpoint server sent now → CanAnswer now endpoint server sent
can_in now endpoint server sent taken = can_answer taken.0 now endpoint server sent taken.1.0 taken.1.1

pub answer-requires-clause-within : goal.answer-requires-clause-within
answer-requires-clause-within c =
    let can = can_in (whole c.args.self.now) c.args.endpoint c.args.server c.args.sent.now c.requires.taken in
    slice_get_within c.args.self.now.servers.items c.args.server can.one can.there

pub answer-requires-clause-can : goal.answer-requires-clause-can
answer-requires-clause-can c =
    let can = can_in (whole c.args.self.now) c.args.endpoint c.args.server c.args.sent.now c.requires.taken in
    λ one there. subst (λ (s : Server). CanTake s c.args.endpoint (next_token_of c.args.self.now.endpoints) (handles_of c.args.sent.now.sending)) (same_Some can.one one (sym can.there ∙ there)) can.can

pub served-requires : goal.served-requires
served-requires c =
    let counted = (can_in (whole c.args.self.now) c.args.endpoint c.args.server c.args.sent.now c.requires.taken).counted in
    let same = ap (λ (w : World). w.known.waiting) c.in_ok-fate.ensures.others in
    omega (arith, counted, same)

pub bind-requires-clause-unbound : goal.bind-requires-clause-unbound
bind-requires-clause-unbound c =
    λ object e.
    ap (λ (w : World). server_of w.queues object) c.in_ok-fate.ensures.others
    ∙ (can_in (whole c.args.self.now) c.args.endpoint c.args.server c.args.sent.now c.requires.taken).free c.in_ok-fate.fate _ _ _ c.in_ok-fate.ensures.answers object e

pub bind-requires-clause-one_of : goal.bind-requires-clause-one_of
bind-requires-clause-one_of c =
    let low = (can_in (whole c.args.self.now) c.args.endpoint c.args.server c.args.sent.now c.requires.taken).one_of in
    let same = ap (λ (w : World). w.queues.servers) c.in_ok-fate.ensures.others in
    omega (arith, low, same)

pub returns-clause-taken : goal.returns-clause-taken
returns-clause-taken c =
    λ before takes.
    let others = c.in_ok-fate.ensures.others in
    takes_head before (whole c.args.self.now) _ c.args.endpoint c.args.server c.args.sent.now c.in_ok-fate.fate c.args.outbox.now c.answer.new.outbox takes c.in_ok-fate.ensures.answers
    (subst (λ (queues : Queues). BindsThere c.args.server (bound_told c.in_ok-fate.fate) queues c.bind.new.queues) (ap (λ (w : World). w.queues) others) c.in_ok-bind.ensures.bound)
    (c.in_ok-bind.ensures.count ∙ ap (λ (w : World). count w.queues) others)
    (c.served.ensures ∙ ap (λ (w : World). let known : Known = record w.known { waiting = w.known.waiting - 1 } in known) others)
    (ap (λ (w : World). w.places) others)

use Rattle.std.proofs.Common.{◌≡◌, ◌<◌, sym, subst}
use Rattle.std.specs.Prelude.{None, OnOk}
use Rattle.message_queues.specs.Queues.{Binds, Queues, count, server_of}
use Rattle.message_queues.specs.Steps.{queues_with}
use Rattle.message_queues.proofs.Sound.{bound_or_not}
use Rattle.message_queues.proofs.queues.Queues.bind.Goals as goal

pub invariant_of-self : goal.invariant_of-self
invariant_of-self c =
    (bound_or_not c.self.inside.boxes c.bind_at.new.boxes c.self.inside.heads.items c.bind_at.new.heads.items c.self.inside.count c.self.inside.servers c.args.endpoint c.args.server c.self.invariant
    (subst (λ (queues : Queues). server_of queues c.args.endpoint ≡ None) (sym c.self.view_is) c.requires.unbound)
    (subst (λ (queues : Queues). c.args.server < queues.servers) (sym c.self.view_is) c.requires.one_of)
    c.bind_at.ensures.unique c.bind_at.result c.bind_at.ensures.updates c.bind_at.ensures.puts c.bind_at.ensures.put c.bind_at.ensures.err).0

pub returns-clause-bound : goal.returns-clause-bound
returns-clause-bound c =
    subst (λ (queues : Queues). OnOk c.bind_at.result (Binds queues c.args.endpoint c.args.server (queues_with c.bind_at.new.boxes.entries c.self.inside.servers))) c.self.view_is
    (bound_or_not c.self.inside.boxes c.bind_at.new.boxes c.self.inside.heads.items c.bind_at.new.heads.items c.self.inside.count c.self.inside.servers c.args.endpoint c.args.server c.self.invariant
    (subst (λ (queues : Queues). server_of queues c.args.endpoint ≡ None) (sym c.self.view_is) c.requires.unbound)
    (subst (λ (queues : Queues). c.args.server < queues.servers) (sym c.self.view_is) c.requires.one_of)
    c.bind_at.ensures.unique c.bind_at.result c.bind_at.ensures.updates c.bind_at.ensures.puts c.bind_at.ensures.put c.bind_at.ensures.err).1

pub returns-clause-len : goal.returns-clause-len
returns-clause-len c =
    subst (λ (queues : Queues). OnOk c.bind_at.result (count (queues_with c.bind_at.new.boxes.entries c.self.inside.servers) ≡ count queues)) c.self.view_is
    (bound_or_not c.self.inside.boxes c.bind_at.new.boxes c.self.inside.heads.items c.bind_at.new.heads.items c.self.inside.count c.self.inside.servers c.args.endpoint c.args.server c.self.invariant
    (subst (λ (queues : Queues). server_of queues c.args.endpoint ≡ None) (sym c.self.view_is) c.requires.unbound)
    (subst (λ (queues : Queues). c.args.server < queues.servers) (sym c.self.view_is) c.requires.one_of)
    c.bind_at.ensures.unique c.bind_at.result c.bind_at.ensures.updates c.bind_at.ensures.puts c.bind_at.ensures.put c.bind_at.ensures.err).2

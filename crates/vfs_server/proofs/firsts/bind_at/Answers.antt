use Rattle.std.proofs.Common.{OnOk, Result, Ok, Err}
use Rattle.vfs_server.proofs.Begun.{has_place, holds_one, some_place, unbound}
use Rattle.vfs_server.proofs.firsts.bind_at.Goals as goal

on_ok : {X E : Type 0} (r : Result X E) (P Q : Type 0) → (P → Q) → OnOk r P → OnOk r Q
on_ok (Ok x) P Q f p = f p
on_ok (Err e) P Q f p = tt

pub node_at-requires : goal.node_at-requires
node_at-requires c = some_place c.requires.next.0 c.requires.next.1 c.args.endpoint c.args.path c.args.rights c.requires.next.2 c.args.server.now c.args.places.now c.requires.next.3

pub bind-requires-clause-free : goal.bind-requires-clause-free
bind-requires-clause-free c = unbound c.requires.next.0 c.requires.next.1 c.args.endpoint c.args.path c.args.rights c.requires.next.2 c.args.server.now c.args.places.now c.requires.next.3

pub bind-requires-clause-place : goal.bind-requires-clause-place
bind-requires-clause-place c =
    has_place c.requires.next.0 c.requires.next.1 c.args.endpoint c.args.path c.args.rights c.requires.next.2 c.args.server.now c.args.places.now c.requires.next.3 c.node_at.result c.node_at.ensures _

pub returns : goal.returns
returns c lists index bounds next =
    on_ok c.bind.result _ _
    (λ binds. holds_one lists index c.args.endpoint c.args.path c.args.rights bounds c.args.server.now c.args.places.now next c.node_at.result c.node_at.ensures c.bind.new.self binds)
    c.bind.ensures.bound

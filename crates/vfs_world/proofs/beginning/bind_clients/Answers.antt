use Rattle.std.proofs.Common.{◌≤◌, List, arith, length, subst}
use Rattle.std.proofs.lemmas.List.{length-map, take_all}
use Rattle.session_start.specs.Lent.{client_item}
use Rattle.vfs_journal.specs.Starts.{Bound, first_of_client, start_of}
use Rattle.vfs_world.specs.Beginning.{BindsJust}
use Rattle.vfs_world.proofs.Begun.{client_bound, client_one_of, client_unbound}
use Rattle.vfs_world.proofs.beginning.bind_clients.Goals as goal

pub bind-requires-clause-unbound : goal.bind-requires-clause-unbound
bind-requires-clause-unbound c = client_unbound c.args.start.now c.requires.sound c.loop-item.item c.loop-item.queues (client_item c.client_at-client.result) c.client_at-client.ensures c.loop-item.invariant

pub bind-requires-clause-one_of : goal.bind-requires-clause-one_of
bind-requires-clause-one_of c = client_one_of c.args.start.now c.requires.sound c.loop-item.item c.loop-item.queues (client_item c.client_at-client.result) c.client_at-client.ensures c.loop-item.invariant

pub loop-item-preserved : goal.loop-item-preserved
loop-item-preserved c =
    client_bound c.args.start.now c.requires.sound c.loop-item.item c.loop-item.queues (client_item c.client_at-client.result) c.client_at-client.ensures c.loop-item.invariant c.bind.new.self c.in_ok-bind.ensures.bound

pub returns : goal.returns
returns c =
    let lists = c.args.start.now in
    let size = length-map lists.clients (first_of_client lists) in
    let end : length (start_of lists).firsts ≤ c.loop-item.item = omega (arith, c.loop-item-test.false, c.clients-item-end.ensures, size) in
    subst (λ (bounds : List Bound). BindsJust (start_of lists) bounds c.loop-item.queues) (take_all c.loop-item.item (start_of lists).firsts end) c.loop-item.invariant

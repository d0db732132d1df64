use Rattle.std.proofs.Common.{◌∙◌, ◌++◌, ◌∷◌, [], List, OnOk, ap, subst, sym}
use Rattle.session_start.specs.Lent.{client_item}
use Rattle.vfs_journal.specs.Starts.{Bound}
use Rattle.vfs_server.specs.Beginning.{HoldsJust, clients_among}
use Rattle.vfs_server.proofs.Begins.{clients_more, clients_same}
use Rattle.vfs_server.proofs.Begun.{client_is, client_next}
use Rattle.vfs_server.proofs.firsts.bind_client.Goals as goal

pub returns-then-client-index : goal.returns-then-client-index
returns-then-client-index c =
    subst (λ (bounds : List Bound). HoldsJust c.args.start.now c.args.index bounds c.args.server.now c.args.places.now)
    (sym (clients_same c.args.start.now c.args.index c.args.item (client_item c.client_at-client.result) c.client_at-client.ensures c.if-client-index.true)) c.requires.holds

pub bind_at-requires : goal.bind_at-requires
bind_at-requires c = record {
  next = (
    c.args.start.now,
    c.args.index,
    clients_among c.args.start.now c.args.index c.args.item,
    client_next c.args.start.now c.requires.accepted c.args.index c.requires.there c.args.item c.args.server.now c.args.places.now (client_item c.client_at-client.result) c.client_at-client.ensures c.if-client-index.false c.requires.holds,
  );
}

pub returns : goal.returns
returns c =
    let lists = c.args.start.now in
    let client = client_item c.client_at-client.result in
    subst (λ (bounds : List Bound). OnOk c.bind_at.result (HoldsJust lists c.args.index bounds c.bind_at.new.server c.args.places.now))
    (sym (clients_more lists c.args.index c.args.item client c.client_at-client.ensures c.if-client-index.false
    ∙ ap (λ (bound : Bound). clients_among lists c.args.index c.args.item ++ bound ∷ [])
    (client_is lists c.requires.accepted c.args.index c.requires.there c.args.item c.args.server.now c.args.places.now client c.client_at-client.ensures c.if-client-index.false)))
    (c.bind_at.ensures lists c.args.index (clients_among lists c.args.index c.args.item)
    (client_next lists c.requires.accepted c.args.index c.requires.there c.args.item c.args.server.now c.args.places.now client c.client_at-client.ensures c.if-client-index.false c.requires.holds))

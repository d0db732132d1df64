use Rattle.std.proofs.Common.{List, OnOk, subst, sym}
use Rattle.session_start.specs.Lent.{node_item}
use Rattle.session_start.specs.Numbering.{Named}
use Rattle.session_start.specs.Growing.{nodes_among}
use Rattle.session_start.specs.Places.{Stands}
use Rattle.session_start.proofs.Nexts.{node_next, nodes_more, nodes_same}
use Rattle.session_start.proofs.making.add_node.Goals as goal

pub returns-then-node-server : goal.returns-then-node-server
returns-then-node-server c =
    subst (λ (named : List Named). Stands named c.args.graph.now c.args.places.now)
    (sym (nodes_same c.args.start.now c.args.server c.args.item (node_item c.node_at-node.result) c.node_at-node.ensures c.if-node-server.true)) c.requires.stand

pub add-requires : goal.add-requires
add-requires c = record {
  next = (
    c.args.start.now,
    c.args.server,
    nodes_among c.args.start.now c.args.server c.args.item,
    node_next c.args.start.now c.args.server c.args.item (node_item c.node_at-node.result) c.node_at-node.ensures c.args.graph.now c.args.places.now c.requires.accepted c.requires.there c.if-node-server.false c.requires.stand,
  );
}

pub returns : goal.returns
returns c =
    subst (λ (named : List Named). OnOk c.add.result (Stands named c.add.new.graph c.add.new.places))
    (sym (nodes_more c.args.start.now c.args.server c.args.item (node_item c.node_at-node.result) c.node_at-node.ensures c.if-node-server.false))
    (c.add.ensures c.args.start.now c.args.server (nodes_among c.args.start.now c.args.server c.args.item)
    (node_next c.args.start.now c.args.server c.args.item (node_item c.node_at-node.result) c.node_at-node.ensures c.args.graph.now c.args.places.now c.requires.accepted c.requires.there c.if-node-server.false c.requires.stand))

use Rattle.std.proofs.Common.{refl, subst, Some}
use Rattle.slab.specs.Slab.{Updates, with_value}
use Rattle.slab.proofs.SlabLemmas.{Updates-with_value}
use Rattle.node_graph.specs.Cell.{Cell}
use Rattle.node_graph.proofs.Readings.{on_err}
use Rattle.node_graph.proofs.links.name_again.Goals as goal

pub returns-in_err-put-clause-same_nodes : goal.returns-in_err-put-clause-same_nodes
returns-in_err-put-clause-same_nodes c = on_err c.from_residual.result refl

pub returns-clause-named : goal.returns-clause-named
returns-clause-named c = c.in_ok-put.ensures.put

pub returns-clause-linked : goal.returns-clause-linked
returns-clause-linked c = record {
  cell = c.index_mut-row.result.now;
  at = c.index_mut-row.ensures.value;
  updates =
      let P : Cell → Type 0 = λ cell. Updates c.args.nodes.now (with_value c.args.nodes.now c.args.to.node.place c.link.new.self) c.args.to.node.place (Some cell) in
      subst P c.link.ensures (Updates-with_value c.args.nodes.now c.args.to.node.place c.link.new.self c.requires.present);
}

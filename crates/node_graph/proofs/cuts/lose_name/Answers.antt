use Rattle.std.proofs.Common.{subst, Some}
use Rattle.slab.specs.Slab.{Updates, with_value}
use Rattle.slab.proofs.SlabLemmas.{Updates-with_value}
use Rattle.node_graph.specs.Cell.{Cell}
use Rattle.node_graph.proofs.cuts.lose_name.Goals as goal

pub returns : goal.returns
returns c = record {
  cell = c.index_mut-row.result.now;
  at = c.index_mut-row.ensures.value;
  between = with_value c.args.nodes.now c.args.place c.unlink.new.self;
  updates =
      let P : Cell → Type 0 = λ cell. Updates c.args.nodes.now (with_value c.args.nodes.now c.args.place c.unlink.new.self) c.args.place (Some cell) in
      subst P c.unlink.ensures (Updates-with_value c.args.nodes.now c.args.place c.unlink.new.self c.requires.present);
  forgets = c.forget.ensures;
}

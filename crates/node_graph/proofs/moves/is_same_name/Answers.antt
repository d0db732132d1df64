use Rattle.std.proofs.Common.{◌∙◌, sym}
use Rattle.node_graph.specs.Ends.{name_in}
use Rattle.node_graph.proofs.Shifts.{same_directory, other_directory}
use Rattle.node_graph.proofs.Steps.{apart_numbers}
use Rattle.node_graph.proofs.moves.is_same_name.Goals as goal

pub returns-then-dir-into : goal.returns-then-dir-into
returns-then-dir-into c = c.eq.ensures ∙ sym (same_directory (name_in c.args.dir.number c.args.src.now) (name_in c.args.into.number c.args.dst.now) c.if-dir-into.true)

pub returns-else-dir-into : goal.returns-else-dir-into
returns-else-dir-into c = apart_numbers c.args.dir.number c.args.into.number c.if-dir-into.false ∙ sym (other_directory (name_in c.args.dir.number c.args.src.now) (name_in c.args.into.number c.args.dst.now) c.if-dir-into.false)

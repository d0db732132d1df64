use Rattle.std.proofs.Common.{length}
use Rattle.node_graph.proofs.Heads.{head_of_padded, zeros_only}
use Rattle.node_graph.proofs.keys.write_padded.Goals as goal

-- src/keys.rt:82:5
pub returns-clause-head : goal.returns-clause-head
returns-clause-head c =
    head_of_padded c.head_of.result c.args.name.now _ _ c.copy_from_slice.ensures.after (zeros_only 255 (length c.args.name.now)) (record { number = c.head_of.ensures.number; bytes = c.head_of.ensures.bytes })

use Rattle.std.proofs.Common.{◌≡◌, ◌+◌, ◌-◌, ◌++◌, length, take, replicate, ap, ◌∙◌, arith, max, vec_len}
use Rattle.node_graph.specs.Cell.{Cell}
use Rattle.node_graph.specs.Graph.{overwritten}
use Rattle.node_graph.proofs.Bytes.{written_items}
use Rattle.node_graph.proofs.rows.Node.write.Goals as goal

pub returns-clause-written : goal.returns-clause-written
returns-clause-written c =
    let count : vec_len c.self.inside.bytes ≡ length c.self.inside.bytes.items = omega (arith, c.self.inside.bytes.ok.0) in
    let most = c.max.ensures ∙ ap (λ n. max n (c.args.offset + length c.args.bytes.now)) (c.len.ensures ∙ count) in
    let filled = c.deref_mut.ensures.value ∙ c.in_ok-resize.ensures.items ∙ ap (λ n. take c.max.result c.self.inside.bytes.items ++ replicate (c.max.result - n) 0) count in
    let here = written_items c.resize.new.self c.self.inside.bytes.items c.args.offset c.max.result c.args.bytes.now c.deref_mut.result.now c.copy_from_slice.new.self most filled c.copy_from_slice.ensures.after c.deref_mut.ensures.value in
    let P : Cell → Cell = λ cell. record { number = cell.number; kind = cell.kind; bytes = overwritten cell.bytes c.args.offset c.args.bytes.now; holds = cell.holds; links = cell.links; parent = cell.parent } in
    ap (λ b. record { number = c.self.inside.number; kind = c.self.inside.kind; bytes = b; holds = c.self.inside.holds; links = c.self.inside.links; parent = c.self.inside.parent }) here ∙ ap P c.self.view_is

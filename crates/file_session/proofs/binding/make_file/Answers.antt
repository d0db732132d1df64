use Rattle.std.proofs.Common.{ℕ, ap, ◌∙◌, arith, subst}
use Rattle.std.specs.FinMap as finite
use Rattle.io_rights.specs.Operations.{OperationSet}
use Rattle.node_graph.specs.Tree.{EdgeKey, Edges, make, name_in}
use Rattle.node_graph.specs.declared.nodes.NodeKind.TheVariants.{File}
use Rattle.node_graph.specs.Graph.{Leads, create_refusal, number_of}
use Rattle.file_session.specs.OneFile.{file_name, reading}
use Rattle.file_session.proofs.BoundLemmas.{file_is_made, file_is_held, free_at_first}
use Rattle.file_session.proofs.binding.make_file.Goals as goal

pub hold-requires-clause-few : goal.hold-requires-clause-few
hold-requires-clause-few c = rw (c.in_ok-node.ensures.holds (number_of c.in_ok-node.node) ∙ c.in_ok-graph.ensures.holds (number_of c.in_ok-node.node)) (omega arith)

pub make-requires-clause-free : goal.make-requires-clause-free
make-requires-clause-free c =
    let key = ap (λ (n : ℕ). name_in n file_name.name) c.root-root.ensures.number in
    ap (λ (edges : Edges). create_refusal edges (name_in (number_of c.root-root.result) file_name.name)) c.in_ok-graph.ensures.edges
    ∙ ap (λ (key : EdgeKey). create_refusal finite.empty key) key ∙ free_at_first

pub returns : goal.returns
returns c =
    let made = c.in_ok-node.ensures in
    let leads =
    subst (λ (n : ℕ). Leads c.in_ok-graph.graph c.make.new.self (make (name_in n file_name.name) (record { kind = File; bytes = c.args.file.now }) reading)) c.root-root.ensures.number
    (subst (λ (mask : OperationSet). Leads c.in_ok-graph.graph c.make.new.self (make (name_in (number_of c.root-root.result) file_name.name) (record { kind = File; bytes = c.args.file.now }) mask)) c.of-mask.ensures made.created) in
    file_is_held c.args.file.now c.make.new.self c.hold.new.self c.in_ok-node.node
    (file_is_made c.args.file.now c.in_ok-graph.graph c.make.new.self c.in_ok-node.node c.in_ok-graph.ensures.stands c.in_ok-graph.ensures.made c.in_ok-graph.ensures.holds leads made.number made.kept made.kind made.holds)
    c.hold.ensures.held c.hold.ensures.tree c.hold.ensures.names

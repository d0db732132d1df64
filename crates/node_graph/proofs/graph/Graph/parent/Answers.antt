use Rattle.std.proofs.Common.{◌≡◌, ◌∙◌, sym, ap, subst, [], ◌∷◌, Some}
use Rattle.node_graph.specs.declared.nodes.NodeKind.TheVariants.{Directory}
use Rattle.node_graph.specs.declared.nodes.NodeRef.{NodeRef}
use Rattle.node_graph.specs.Graph.{Names, kind_at}
use Rattle.node_graph.proofs.Seats.{present}
use Rattle.node_graph.proofs.Climbs.{top, above, above_named, above_directory}
use Rattle.node_graph.proofs.graph.Graph.parent.Goals as goal

pub index-row-requires : goal.index-row-requires
index-row-requires c = present c.self.inside.nodes c.self.inside.edges c.self.inside.made _ c.args.dir c.self.view_is c.requires.named

pub returns-then-links-eq0-clause-up : goal.returns-then-links-eq0-clause-up
returns-then-links-eq0-clause-up c =
    top c.self.inside.nodes c.self.inside.edges c.self.inside.made c.args.self.now c.args.dir c.self.view_is c.self.invariant c.requires.named c.requires.directory c.index-row.result.now c.index-row.ensures (sym c.links.ensures ∙ c.if-links-eq0.true)

pub returns-else-links-eq0-clause-up : goal.returns-else-links-eq0-clause-up
returns-else-links-eq0-clause-up c =
    (above c.self.inside.nodes c.self.inside.edges c.self.inside.made c.args.self.now c.args.dir c.self.view_is c.self.invariant c.requires.named c.requires.directory c.index-row.result.now c.index-row.ensures (λ none. c.if-links-eq0.false (c.links.ensures ∙ none))).parents
    ∙ ap (λ (n : NodeRef). n.number ∷ []) (sym c.parent.ensures)

pub returns-else-links-eq0-clause-named : goal.returns-else-links-eq0-clause-named
returns-else-links-eq0-clause-named c =
    let P : NodeRef → Type 0 = λ n. Names c.args.self.now n in
    subst P (sym c.parent.ensures) (above_named c.self.inside.nodes c.self.inside.edges c.self.inside.made c.args.self.now c.args.dir c.self.view_is c.self.invariant c.requires.named c.requires.directory c.index-row.result.now c.index-row.ensures (λ none. c.if-links-eq0.false (c.links.ensures ∙ none)))

pub returns-else-links-eq0-clause-directory : goal.returns-else-links-eq0-clause-directory
returns-else-links-eq0-clause-directory c =
    let P : NodeRef → Type 0 = λ n. kind_at c.args.self.now n.number ≡ Some Directory in
    subst P (sym c.parent.ensures) (above_directory c.self.inside.nodes c.self.inside.edges c.self.inside.made c.args.self.now c.args.dir c.self.view_is c.self.invariant c.requires.named c.requires.directory c.index-row.result.now c.index-row.ensures (λ none. c.if-links-eq0.false (c.links.ensures ∙ none)))

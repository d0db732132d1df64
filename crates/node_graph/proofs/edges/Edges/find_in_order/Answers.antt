use Rattle.std.proofs.Common.{ap, sym, ◌∙◌, ◌≡◌, refl, arith, Option, Some, None}
use Rattle.std.specs.FinMap as finite
use Rattle.node_graph.specs.declared.nodes.Entry.{Entry}
use Rattle.node_graph.specs.Tree.{EdgeKey}
use Rattle.node_graph.specs.Ends.{Ends, name_in}
use Rattle.node_graph.proofs.Ordered.{get-map_of, map_of}
use Rattle.node_graph.proofs.edges.Edges.find_in_order.Goals as goal

pub returns-then-name-gt-MAX_NAME-clause-found : goal.returns-then-name-gt-MAX_NAME-clause-found
returns-then-name-gt-MAX_NAME-clause-found c = by_cases (finite.get c.args.self.now (name_in c.args.directory c.args.name.now)) refl
  where
    by_cases : (o : Option Entry) → finite.get c.args.self.now (name_in c.args.directory c.args.name.now) ≡ o → None ≡ finite.get c.args.self.now (name_in c.args.directory c.args.name.now)
    by_cases None e = sym e
    by_cases (Some to) e = absurd (let few = (c.self.invariant.0.named (name_in c.args.directory c.args.name.now) to (ap (λ (m : Ends). finite.get m (name_in c.args.directory c.args.name.now)) c.self.view_is ∙ e)).1 in let long = c.if-name-gt-MAX_NAME.true in omega (arith, few, long))

pub returns-clause-found : goal.returns-clause-found
returns-clause-found c =
    c.copied.ensures ∙ c.get.ensures.value
    ∙ sym (get-map_of c.self.inside.names.entries c.set_name.new.self)
    ∙ ap (finite.get (map_of c.self.inside.names.entries)) (c.set_name.ensures ∙ ap (λ (k : EdgeKey). name_in k.directory c.args.name.now) c.in_directory-key.ensures)
    ∙ ap (λ (m : Ends). finite.get m (name_in c.args.directory c.args.name.now)) c.self.view_is

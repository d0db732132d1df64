use Rattle.std.proofs.Common.{Err, Option, sym, ◌∙◌, refl, subst}
use Rattle.node_graph.specs.declared.faults.GraphFault.{GraphFault}
use Rattle.node_graph.specs.declared.nodes.NodeRef.{NodeRef}
use Rattle.node_graph.specs.Graph.{Answers}
use Rattle.node_graph.proofs.graph.Graph.create.Goals as goal

pub make-requires-clause-free : goal.make-requires-clause-free
make-requires-clause-free c = sym c.create_fault.ensures ∙ c.in_default.is

pub returns-in-Some : goal.returns-in-Some
returns-in-Some c = record {
  answer =
      let P : Option GraphFault → Type 0 = λ refusal. Answers {T = NodeRef} (Err c.in-Some.fault) refusal in
      subst P (sym (sym c.create_fault.ensures ∙ c.in-Some.is)) refl;
  unchanged = refl;
  created = tt;
  number = tt;
  kept = tt;
  kind = tt;
  made = tt;
  holds = λ number. refl;
  names = λ node named kept. (named, refl);
}

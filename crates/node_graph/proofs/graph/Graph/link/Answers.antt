use Rattle.std.proofs.Common.{◌≡◌, ◌∙◌, sym, ap, subst, refl, Ok, Err, Option}
use Rattle.std.specs.Prelude.{⊤, is_some}
use Rattle.slab.specs.Slab.{Slab}
use Rattle.node_graph.specs.declared.faults.GraphFault.{GraphFault}
use Rattle.node_graph.specs.declared.faults.GraphFault.TheVariants as fault
use Rattle.node_graph.specs.Cell.{Cell}
use Rattle.node_graph.specs.Tree.{Change, after}
use Rattle.node_graph.specs.Graph.{Kept, Answers, StandsFor}
use Rattle.node_graph.specs.Ends.{Ends, name_in}
use Rattle.node_graph.specs.Rows.{kept_of, AreRows}
use Rattle.node_graph.proofs.Readings.{link_none, link_kind, link_rest, link_is, many_names, only_memory, on_err, not_ok, stays_held, stays_named}
use Rattle.node_graph.proofs.Gains.{links_room, rows_linked, turns_linked}
use Rattle.node_graph.proofs.graph.Graph.link.Goals as goal

pub returns-in_default : goal.returns-in_default
returns-in_default c = record {
  answer = λ tree stands.
      let P : Option GraphFault → Type 0 = λ r. Answers {T = ⊤} (Err fault.NotFound) r in
      subst P (sym (link_none c.self.inside.nodes c.self.inside.edges c.self.inside.made c.args.self.now c.self.view_is c.self.invariant tree stands (name_in c.args.dir.number c.args.src.now) (name_in c.args.into.number c.args.dst.now) (sym c.find.ensures.found ∙ c.in_default.is))) refl;
  unchanged = refl;
  linked = tt;
  made = refl;
  holds = λ number. refl;
  names = λ node named kept. (named, refl);
}

pub returns-in-Some-link_fault : goal.returns-in-Some-link_fault
returns-in-Some-link_fault c = record {
  answer = λ tree stands.
      let P : Option GraphFault → Type 0 = λ r. Answers {T = ⊤} (Err c.in-Some-link_fault.fault) r in
      subst P (sym (link_kind c.self.inside.nodes c.self.inside.edges c.self.inside.made c.args.self.now c.self.view_is c.self.invariant tree stands (name_in c.args.dir.number c.args.src.now) (name_in c.args.into.number c.args.dst.now) c.in-Some.from (sym c.find.ensures.found ∙ c.in-Some.is) c.link_fault.result c.link_fault.ensures c.in-Some-link_fault.fault c.in-Some-link_fault.is)) refl;
  unchanged = refl;
  linked = tt;
  made = refl;
  holds = λ number. refl;
  names = λ node named kept. (named, refl);
}

pub returns-in-Some-create_fault : goal.returns-in-Some-create_fault
returns-in-Some-create_fault c = record {
  answer = λ tree stands.
      let P : Option GraphFault → Type 0 = λ r. Answers {T = ⊤} (Err c.in-Some-create_fault.fault) r in
      subst P (sym (link_rest c.self.inside.nodes c.self.inside.edges c.self.inside.made c.args.self.now c.self.view_is c.self.invariant tree stands (name_in c.args.dir.number c.args.src.now) (name_in c.args.into.number c.args.dst.now) c.in-Some.from (sym c.find.ensures.found ∙ c.in-Some.is) c.link_fault.result c.link_fault.ensures c.in_default-link_fault.is ∙ sym c.create_fault.ensures ∙ c.in-Some-create_fault.is)) refl;
  unchanged = refl;
  linked = tt;
  made = refl;
  holds = λ number. refl;
  names = λ node named kept. (named, refl);
}

pub name_again-requires-clause-present : goal.name_again-requires-clause-present
name_again-requires-clause-present c = ap is_some (c.self.invariant.children (name_in c.args.dir.number c.args.src.now) c.in-Some.from (sym c.find.ensures.found ∙ c.in-Some.is)).1

pub name_again-requires-clause-links : goal.name_again-requires-clause-links
name_again-requires-clause-links c = links_room c.self.inside.nodes c.self.inside.edges c.self.inside.made c.self.invariant (name_in c.args.dir.number c.args.src.now) c.in-Some.from (sym c.find.ensures.found ∙ c.in-Some.is)

pub invariant_of-self : goal.invariant_of-self
invariant_of-self c =
    let P : Ends → Type 0 = λ ends. AreRows c.name_again.new.nodes ends c.self.inside.made in
    let Q : Slab Cell → Type 0 = λ nodes. AreRows nodes c.self.inside.edges c.self.inside.made in
    subst P (sym c.in_err-name_again.ensures.same_names) (subst Q (sym c.in_err-name_again.ensures.same_nodes) c.self.invariant)

pub returns-in_err-name_again : goal.returns-in_err-name_again
returns-in_err-name_again c =
    let still : kept_of c.name_again.new.nodes c.name_again.new.edges c.self.inside.made ≡ c.args.self.now =
    ap (λ (nodes : Slab Cell). kept_of nodes c.name_again.new.edges c.self.inside.made) c.in_err-name_again.ensures.same_nodes ∙ ap (λ (ends : Ends). kept_of c.self.inside.nodes ends c.self.inside.made) c.in_err-name_again.ensures.same_names ∙ c.self.view_is in
    record {
      answer = λ tree stands.
          let P : Option GraphFault → Type 0 = λ r. Answers c.from_residual.result r in
          subst P (sym (link_rest c.self.inside.nodes c.self.inside.edges c.self.inside.made c.args.self.now c.self.view_is c.self.invariant tree stands (name_in c.args.dir.number c.args.src.now) (name_in c.args.into.number c.args.dst.now) c.in-Some.from (sym c.find.ensures.found ∙ c.in-Some.is) c.link_fault.result c.link_fault.ensures c.in_default-link_fault.is ∙ sym c.create_fault.ensures ∙ c.in_default-create_fault.is)) (only_memory c.from_residual.result c.from_residual.ensures.1);
      unchanged = on_err c.from_residual.result still;
      linked = not_ok _ c.from_residual.result c.from_residual.ensures.1;
      made = ap (λ (g : Kept). g.made) still;
      holds = stays_held still;
      names = stays_named still;
    }

pub invariant_of-self-2 : goal.invariant_of-self-2
invariant_of-self-2 c =
    rows_linked c.self.inside.nodes c.name_again.new.nodes c.self.inside.edges c.name_again.new.edges c.self.inside.made c.args.self.now (name_in c.args.dir.number c.args.src.now) c.args.into c.args.dst.now c.in-Some.from c.self.view_is c.self.invariant c.requires.named_into c.requires.directory_into (sym c.find.ensures.found ∙ c.in-Some.is) (many_names c.in-Some.from.kind (sym c.link_fault.ensures ∙ c.in_default-link_fault.is)) (sym c.create_fault.ensures ∙ c.in_default-create_fault.is) c.in_ok-name_again.ensures.linked c.in_ok-name_again.ensures.named

pub returns : goal.returns
returns c =
    let from = name_in c.args.dir.number c.args.src.now in
    let key = name_in c.args.into.number c.args.dst.now in
    let there = sym c.find.ensures.found ∙ c.in-Some.is in
    let free = sym c.create_fault.ensures ∙ c.in_default-create_fault.is in
    let turned = turns_linked c.self.inside.nodes c.name_again.new.nodes c.self.inside.edges c.name_again.new.edges c.self.inside.made c.args.self.now from c.args.into c.args.dst.now c.in-Some.from c.self.view_is c.self.invariant c.requires.named_into c.requires.directory_into there (many_names c.in-Some.from.kind (sym c.link_fault.ensures ∙ c.in_default-link_fault.is)) free c.in_ok-name_again.ensures.linked c.in_ok-name_again.ensures.named in
    record {
      answer = λ tree stands.
          let P : Option GraphFault → Type 0 = λ r. Answers {T = ⊤} (Ok tt) r in
          subst P (sym (link_rest c.self.inside.nodes c.self.inside.edges c.self.inside.made c.args.self.now c.self.view_is c.self.invariant tree stands from key c.in-Some.from there c.link_fault.result c.link_fault.ensures c.in_default-link_fault.is ∙ free)) tt;
      unchanged = tt;
      linked = λ tree stands.
          let P : Change → Type 0 = λ change. StandsFor (kept_of c.name_again.new.nodes c.name_again.new.edges c.self.inside.made) (after tree change) in
          subst P (sym (link_is c.self.inside.nodes c.self.inside.edges c.self.inside.made c.args.self.now c.self.view_is c.self.invariant tree stands from key c.in-Some.from there c.link_fault.result c.link_fault.ensures)) (turned.leads tree stands);
      made = ap (λ (g : Kept). g.made) c.self.view_is;
      holds = turned.holds;
      names = turned.names;
    }

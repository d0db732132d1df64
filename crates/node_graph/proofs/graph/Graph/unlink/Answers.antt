use Rattle.std.proofs.Common.{◌∙◌, ap, sym, subst, refl, Ok, Err, Option}
use Rattle.std.specs.Prelude.{ℕ, OnSome, length, ◌≤◌}
use Rattle.fidl_names.specs.declared.limits.TheConstants as limit
use Rattle.node_graph.specs.declared.nodes.Entry.{Entry}
use Rattle.node_graph.specs.declared.faults.GraphFault.{GraphFault}
use Rattle.node_graph.specs.declared.faults.GraphFault.TheVariants as fault
use Rattle.node_graph.specs.Tree.{cut}
use Rattle.node_graph.specs.Graph.{Kept, Settles}
use Rattle.node_graph.specs.Ends.{Ends, name_in}
use Rattle.node_graph.specs.Rows.{kept_of, AreRows}
use Rattle.node_graph.proofs.Readings.{linked_here, names_here, behind, unlink_none, unlink_some, unlink_bare}
use Rattle.node_graph.proofs.Losses.{Turns, rows_lost, turns_lost}
use Rattle.node_graph.proofs.graph.Graph.unlink.Goals as goal

pub returns-in_default : goal.returns-in_default
returns-in_default c = record {
  answer = λ tree stands.
      let is = unlink_none c.self.inside.nodes c.self.inside.edges c.self.inside.made c.args.self.now c.self.view_is c.self.invariant tree stands (name_in c.args.dir.number c.args.name.now) c.args.must_be_dir (sym c.find.ensures.found ∙ c.in_default.is) in
      let P : Option GraphFault → Type 0 = λ r. Settles {T = Option ℕ} (Err fault.NotFound) r in
      subst P (sym is) refl;
  unchanged = refl;
  unlinked = tt;
  removed = tt;
  made = refl;
  holds = λ number. refl;
  names = λ node named kept. (named, refl);
}

pub unlink_fault-requires-clause-kind : goal.unlink_fault-requires-clause-kind
unlink_fault-requires-clause-kind c = names_here c.self.inside.nodes c.self.inside.edges c.self.inside.made c.self.invariant (name_in c.args.dir.number c.args.name.now) c.in-Some.to (sym c.find.ensures.found ∙ c.in-Some.is)

pub returns-in-Some-unlink_fault : goal.returns-in-Some-unlink_fault
returns-in-Some-unlink_fault c = record {
  answer = λ tree stands.
      let is = unlink_some c.self.inside.nodes c.self.inside.edges c.self.inside.made c.args.self.now c.self.view_is c.self.invariant tree stands (name_in c.args.dir.number c.args.name.now) c.args.must_be_dir c.in-Some.to (sym c.find.ensures.found ∙ c.in-Some.is) in
      let P : Option GraphFault → Type 0 = λ r. Settles {T = Option ℕ} (Err c.in-Some-unlink_fault.fault) r in
      subst P (sym (is ∙ sym c.unlink_fault.ensures ∙ c.in-Some-unlink_fault.is)) refl;
  unchanged = refl;
  unlinked = tt;
  removed = tt;
  made = refl;
  holds = λ number. refl;
  names = λ node named kept. (named, refl);
}

pub cut-requires : goal.cut-requires
cut-requires c = let P : Option Entry → Type 0 = λ o. OnSome o (length c.args.name.now ≤ limit.MAX_NAME) in subst P c.in-Some.is c.find.ensures.few

pub lose_name-requires-clause-linked : goal.lose_name-requires-clause-linked
lose_name-requires-clause-linked c =
    linked_here c.self.inside.nodes c.self.inside.edges c.self.inside.made c.self.invariant (name_in c.args.dir.number c.args.name.now) c.in-Some.to (sym c.find.ensures.found ∙ c.in-Some.is)

pub invariant_of-self : goal.invariant_of-self
invariant_of-self c =
    let P : Ends → Type 0 = λ e. AreRows c.lose_name.new.nodes e c.self.inside.made in
    subst P (sym c.cut.ensures) (rows_lost c.self.inside.nodes c.lose_name.new.nodes c.self.inside.edges c.self.inside.made (name_in c.args.dir.number c.args.name.now) c.in-Some.to c.self.invariant (sym c.find.ensures.found ∙ c.in-Some.is)
    (unlink_bare _ _ _ (sym c.unlink_fault.ensures ∙ c.in_default-unlink_fault.is)) c.lose_name.ensures)

pub returns : goal.returns
returns c =
    let key = name_in c.args.dir.number c.args.name.now in
    let there = sym c.find.ensures.found ∙ c.in-Some.is in
    let free = sym c.unlink_fault.ensures ∙ c.in_default-unlink_fault.is in
    let P : Ends → Type 0 = λ e. Turns c.args.self.now (kept_of c.lose_name.new.nodes e c.self.inside.made) (cut key) in
    let turned = subst P (sym c.cut.ensures) (turns_lost c.self.inside.nodes c.lose_name.new.nodes c.self.inside.edges c.self.inside.made key c.in-Some.to c.self.invariant there (unlink_bare _ _ _ free) c.lose_name.ensures c.args.self.now c.self.view_is) in
    record {
      answer = λ tree stands.
          let Q : Option GraphFault → Type 0 = λ r. Settles (Ok c.directory_of.result) r in
          subst Q (sym (unlink_some c.self.inside.nodes c.self.inside.edges c.self.inside.made c.args.self.now c.self.view_is c.self.invariant tree stands key c.args.must_be_dir c.in-Some.to there ∙ free)) refl;
      unchanged = tt;
      unlinked = turned.leads;
      removed = λ tree stands.
          c.directory_of.ensures
          ∙ sym (behind c.self.inside.nodes c.self.inside.edges c.self.inside.made c.args.self.now c.self.view_is c.self.invariant tree stands key c.in-Some.to there);
      made = ap (λ (g : Kept). g.made) c.self.view_is;
      holds = turned.holds;
      names = turned.names;
    }

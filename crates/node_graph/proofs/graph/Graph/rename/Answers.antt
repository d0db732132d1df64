use Rattle.std.proofs.Common.{◌≡◌, ◌∙◌, sym, ap, subst, refl, true, false, Ok, Err, Option, Some, None, not}
use Rattle.std.specs.Prelude.{if◌then◌else◌}
use Rattle.slab.specs.Slab.{with_value}
use Rattle.node_graph.specs.declared.faults.GraphFault.{GraphFault}
use Rattle.node_graph.specs.declared.faults.GraphFault.TheVariants as fault
use Rattle.node_graph.specs.declared.moves.Moved.{Moved}
use Rattle.node_graph.specs.Tree.{Change, after, move, stay}
use Rattle.node_graph.specs.Refusals.{directory_behind}
use Rattle.node_graph.specs.Graph.{Kept, Answers, StandsFor}
use Rattle.node_graph.specs.Ends.{Ends, name_in}
use Rattle.node_graph.specs.Rows.{kept_of}
use Rattle.node_graph.proofs.Creates.{reached_here}
use Rattle.node_graph.proofs.Readings.{rename_none, rename_moving, rename_same, rename_other, replace_is, behind_is, replaced_bare, replaced_present, replaced_linked, replaced_number, replaced_names, move_loop, move_memory, move_removed, only_memory, on_err, not_ok, not_if_ok, stays_held, stays_named}
use Rattle.node_graph.proofs.Shifts.{not_within, two_keys, present_after, rows_after, turns_after}
use Rattle.node_graph.proofs.graph.Graph.rename.Goals as goal

pub returns-in_default : goal.returns-in_default
returns-in_default c = record {
  answer = λ tree stands.
      let P : Option GraphFault → Type 0 = λ r. Answers {T = Moved} (Err fault.NotFound) r in
      subst P (sym (rename_none c.self.inside.nodes c.self.inside.edges c.self.inside.made c.args.self.now c.self.view_is c.self.invariant tree stands (name_in c.args.dir.number c.args.src.now) (name_in c.args.into.number c.args.dst.now) (sym c.find.ensures.found ∙ c.in_default.is))) refl;
  unchanged = refl;
  renamed = tt;
  changed = tt;
  replaced = tt;
  same = λ same wants. cc;
  made = refl;
  holds = λ number. refl;
  names = λ node named kept. (named, refl);
}

pub returns-in-Some-move_fault : goal.returns-in-Some-move_fault
returns-in-Some-move_fault c = record {
  answer = λ tree stands.
      let P : Option GraphFault → Type 0 = λ r. Answers {T = Moved} (Err c.in-Some-move_fault.fault) r in
      subst P (sym (rename_moving c.self.inside.nodes c.self.inside.edges c.self.inside.made c.args.self.now c.self.view_is c.self.invariant tree stands (name_in c.args.dir.number c.args.src.now) (name_in c.args.into.number c.args.dst.now) c.in-Some.from (sym c.find.ensures.found ∙ c.in-Some.is) c.move_fault.result c.move_fault.ensures c.in-Some-move_fault.fault c.in-Some-move_fault.is)) refl;
  unchanged = refl;
  renamed = tt;
  changed = tt;
  replaced = tt;
  same = λ same wants. move_memory _ _ _ (sym c.move_fault.ensures ∙ c.in-Some-move_fault.is ∙ ap Some wants);
  made = refl;
  holds = λ number. refl;
  names = λ node named kept. (named, refl);
}

pub returns-then-is_same_name : goal.returns-then-is_same_name
returns-then-is_same_name c =
    let from = name_in c.args.dir.number c.args.src.now in
    let key = name_in c.args.into.number c.args.dst.now in
    let one = sym c.is_same_name.ensures ∙ c.if-is_same_name.true in
    record {
      answer = λ tree stands.
          let P : Option GraphFault → Type 0 = λ r. Answers {T = Moved} (Ok (record { changed = false; replaced = None })) r in
          subst P (sym (rename_same c.self.inside.nodes c.self.inside.edges c.self.inside.made c.args.self.now c.self.view_is c.self.invariant tree stands from key c.in-Some.from (sym c.find.ensures.found ∙ c.in-Some.is) c.move_fault.result c.move_fault.ensures c.in_default-move_fault.is one)) tt;
      unchanged = tt;
      renamed = λ tree stands.
          let P : Change → Type 0 = λ change. StandsFor c.args.self.now (after tree change) in
          subst P (sym (ap (λ b. if b then stay else move from key) one)) stands;
      changed = ap not (sym one);
      replaced = λ tree stands. sym (ap (λ b. if b then None else directory_behind tree key) one);
      same = λ same. tt;
      made = refl;
      holds = λ number. refl;
      names = λ node named kept. (named, refl);
    }

pub replace_fault-requires-clause-number : goal.replace_fault-requires-clause-number
replace_fault-requires-clause-number c = replaced_number c.self.inside.nodes c.self.inside.edges c.self.inside.made c.self.invariant (name_in c.args.into.number c.args.dst.now) c.find-gone.result (sym c.find-gone.ensures.found)

pub replace_fault-requires-clause-kind : goal.replace_fault-requires-clause-kind
replace_fault-requires-clause-kind c = replaced_names c.self.inside.nodes c.self.inside.edges c.self.inside.made c.self.invariant (name_in c.args.into.number c.args.dst.now) c.find-gone.result (sym c.find-gone.ensures.found)

pub returns-in-Some-replace_fault : goal.returns-in-Some-replace_fault
returns-in-Some-replace_fault c =
    let from = name_in c.args.dir.number c.args.src.now in
    let key = name_in c.args.into.number c.args.dst.now in
    let there = sym c.find.ensures.found ∙ c.in-Some.is in
    let other = sym c.is_same_name.ensures ∙ c.if-is_same_name.false in
    record {
      answer = λ tree stands.
          let P : Option GraphFault → Type 0 = λ r. Answers {T = Moved} (Err c.in-Some-replace_fault.fault) r in
          subst P (sym (rename_other c.self.inside.nodes c.self.inside.edges c.self.inside.made c.args.self.now c.self.view_is c.self.invariant tree stands from key c.in-Some.from there c.move_fault.result c.move_fault.ensures c.in_default-move_fault.is other ∙ replace_is c.self.inside.nodes c.self.inside.edges c.self.inside.made c.args.self.now c.self.view_is c.self.invariant tree stands from key c.in-Some.from there c.find-gone.result (sym c.find-gone.ensures.found) ∙ sym c.replace_fault.ensures ∙ c.in-Some-replace_fault.is)) refl;
      unchanged = refl;
      renamed = tt;
      changed = tt;
      replaced = tt;
      same = λ same wants. let wrong : true ≡ false = sym same ∙ other in cc;
      made = refl;
      holds = λ number. refl;
      names = λ node named kept. (named, refl);
    }

pub returns-in_err-shift : goal.returns-in_err-shift
returns-in_err-shift c =
    let from = name_in c.args.dir.number c.args.src.now in
    let key = name_in c.args.into.number c.args.dst.now in
    let there = sym c.find.ensures.found ∙ c.in-Some.is in
    let other = sym c.is_same_name.ensures ∙ c.if-is_same_name.false in
    let still : kept_of c.self.inside.nodes c.shift.new.self c.self.inside.made ≡ c.args.self.now =
    ap (λ (ends : Ends). kept_of c.self.inside.nodes ends c.self.inside.made) c.in_err-shift.ensures.unchanged ∙ c.self.view_is in
    record {
      answer = λ tree stands.
          let P : Option GraphFault → Type 0 = λ r. Answers c.from_residual.result r in
          subst P (sym (rename_other c.self.inside.nodes c.self.inside.edges c.self.inside.made c.args.self.now c.self.view_is c.self.invariant tree stands from key c.in-Some.from there c.move_fault.result c.move_fault.ensures c.in_default-move_fault.is other ∙ replace_is c.self.inside.nodes c.self.inside.edges c.self.inside.made c.args.self.now c.self.view_is c.self.invariant tree stands from key c.in-Some.from there c.find-gone.result (sym c.find-gone.ensures.found) ∙ sym c.replace_fault.ensures ∙ c.in_default-replace_fault.is)) (only_memory c.from_residual.result c.from_residual.ensures.1);
      unchanged = on_err c.from_residual.result still;
      renamed = not_ok _ c.from_residual.result c.from_residual.ensures.1;
      changed = not_if_ok _ c.from_residual.result c.from_residual.ensures.1;
      replaced = not_if_ok _ c.from_residual.result c.from_residual.ensures.1;
      same = λ same. let wrong : true ≡ false = sym same ∙ other in absurd (cc);
      made = ap (λ (g : Kept). g.made) still;
      holds = stays_held still;
      names = stays_named still;
    }

pub lose_replaced-requires-clause-present : goal.lose_replaced-requires-clause-present
lose_replaced-requires-clause-present c = replaced_present c.self.inside.nodes c.self.inside.edges c.self.inside.made c.self.invariant (name_in c.args.into.number c.args.dst.now) c.find-gone.result (sym c.find-gone.ensures.found)

pub lose_replaced-requires-clause-linked : goal.lose_replaced-requires-clause-linked
lose_replaced-requires-clause-linked c = replaced_linked c.self.inside.nodes c.self.inside.edges c.self.inside.made c.self.invariant (name_in c.args.into.number c.args.dst.now) c.find-gone.result (sym c.find-gone.ensures.found)

pub index_mut-row-requires : goal.index_mut-row-requires
index_mut-row-requires c =
    let from = name_in c.args.dir.number c.args.src.now in
    let key = name_in c.args.into.number c.args.dst.now in
    let there = sym c.find.ensures.found ∙ c.in-Some.is in
    let moves = sym c.move_fault.ensures ∙ c.in_default-move_fault.is in
    let up = reached_here c.self.inside.nodes c.self.inside.edges c.self.inside.made c.args.self.now c.args.into c.self.view_is c.self.invariant c.requires.named_into c.requires.directory_into (move_removed _ _ _ moves) in
    let spare = (c.self.invariant.children from c.in-Some.from there).0 in
    present_after c.self.inside.nodes c.lose_replaced.new.nodes c.self.inside.edges c.shift.new.self c.self.inside.made c.args.self.now from key c.args.into c.in-Some.from spare spare c.self.view_is c.self.invariant there (two_keys from key (sym c.is_same_name.ensures ∙ c.if-is_same_name.false)) up refl
    c.find-gone.result (sym c.find-gone.ensures.found) (replaced_bare c.self.inside.edges c.in-Some.from.kind c.find-gone.result (sym c.replace_fault.ensures ∙ c.in_default-replace_fault.is)) c.lose_replaced.ensures.kept c.lose_replaced.ensures.loses

pub invariant_of-self-2 : goal.invariant_of-self-2
invariant_of-self-2 c =
    let from = name_in c.args.dir.number c.args.src.now in
    let key = name_in c.args.into.number c.args.dst.now in
    let there = sym c.find.ensures.found ∙ c.in-Some.is in
    let moves = sym c.move_fault.ensures ∙ c.in_default-move_fault.is in
    let up = reached_here c.self.inside.nodes c.self.inside.edges c.self.inside.made c.args.self.now c.args.into c.self.view_is c.self.invariant c.requires.named_into c.requires.directory_into (move_removed _ _ _ moves) in
    rows_after c.self.inside.nodes c.lose_replaced.new.nodes c.self.inside.edges c.shift.new.self c.self.inside.made c.args.self.now from key c.args.into c.in-Some.from c.index_mut-row.result.now c.set_parent.new.self c.self.view_is c.self.invariant there (two_keys from key (sym c.is_same_name.ensures ∙ c.if-is_same_name.false)) up refl c.index_mut-row.ensures.value c.set_parent.ensures c.in_ok-shift.ensures.shifted
    (not_within c.self.inside.nodes c.self.inside.edges c.self.inside.made c.args.self.now c.self.view_is c.self.invariant from key c.in-Some.from there c.args.into.place up (move_loop _ _ _ moves))
    c.find-gone.result (sym c.find-gone.ensures.found) (replaced_bare c.self.inside.edges c.in-Some.from.kind c.find-gone.result (sym c.replace_fault.ensures ∙ c.in_default-replace_fault.is)) c.lose_replaced.ensures.kept c.lose_replaced.ensures.loses

pub returns : goal.returns
returns c =
    let from = name_in c.args.dir.number c.args.src.now in
    let key = name_in c.args.into.number c.args.dst.now in
    let there = sym c.find.ensures.found ∙ c.in-Some.is in
    let other = sym c.is_same_name.ensures ∙ c.if-is_same_name.false in
    let gone_is = sym c.find-gone.ensures.found in
    let free = sym c.replace_fault.ensures ∙ c.in_default-replace_fault.is in
    let up = reached_here c.self.inside.nodes c.self.inside.edges c.self.inside.made c.args.self.now c.args.into c.self.view_is c.self.invariant c.requires.named_into c.requires.directory_into (move_removed _ _ _ (sym c.move_fault.ensures ∙ c.in_default-move_fault.is)) in
    let turned = turns_after c.self.inside.nodes c.lose_replaced.new.nodes c.self.inside.edges c.shift.new.self c.self.inside.made c.args.self.now from key c.args.into c.in-Some.from c.index_mut-row.result.now c.set_parent.new.self c.self.view_is c.self.invariant there (two_keys from key other) up refl c.index_mut-row.ensures.value c.set_parent.ensures c.in_ok-shift.ensures.shifted
    c.find-gone.result gone_is (replaced_bare c.self.inside.edges c.in-Some.from.kind c.find-gone.result free) c.lose_replaced.ensures.kept c.lose_replaced.ensures.loses in
    record {
      answer = λ tree stands.
          let P : Option GraphFault → Type 0 = λ r. Answers {T = Moved} (Ok c.moved_over.result) r in
          subst P (sym (rename_other c.self.inside.nodes c.self.inside.edges c.self.inside.made c.args.self.now c.self.view_is c.self.invariant tree stands from key c.in-Some.from there c.move_fault.result c.move_fault.ensures c.in_default-move_fault.is other ∙ replace_is c.self.inside.nodes c.self.inside.edges c.self.inside.made c.args.self.now c.self.view_is c.self.invariant tree stands from key c.in-Some.from there c.find-gone.result gone_is ∙ free)) tt;
      unchanged = tt;
      renamed = λ tree stands.
          let P : Change → Type 0 = λ change. StandsFor (kept_of (with_value c.lose_replaced.new.nodes c.in-Some.from.node.place c.set_parent.new.self) c.shift.new.self c.self.inside.made) (after tree change) in
          subst P (sym (ap (λ b. if b then stay else move from key) other)) (turned.leads tree stands);
      changed = ap (λ (moved : Moved). moved.changed) c.moved_over.ensures ∙ ap not (sym other);
      replaced = λ tree stands. ap (λ (moved : Moved). moved.replaced) c.moved_over.ensures
          ∙ sym (ap (λ b. if b then None else directory_behind tree key) other ∙ behind_is c.self.inside.nodes c.self.inside.edges c.self.inside.made c.args.self.now c.self.view_is c.self.invariant tree stands from key c.in-Some.from there c.find-gone.result gone_is);
      same = λ same. tt;
      made = ap (λ (g : Kept). g.made) c.self.view_is;
      holds = turned.holds;
      names = turned.names;
    }

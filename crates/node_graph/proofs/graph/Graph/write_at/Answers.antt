use Rattle.std.proofs.Common.{◌≡◌, ℕ, List, Option, Ok, Err, not, ap, sym, subst, refl, ◌∙◌}
use Rattle.std.specs.Prelude.{⊤}
use Rattle.slab.specs.Slab.{Slab, with_value}
use Rattle.fidl_names.specs.First.{cause_if}
use Rattle.node_graph.specs.declared.faults.GraphFault.{GraphFault}
use Rattle.node_graph.specs.declared.faults.GraphFault.TheVariants as fault
use Rattle.node_graph.specs.Cell.{Cell}
use Rattle.node_graph.specs.Tree.{after}
use Rattle.node_graph.specs.Graph.{Kept, StandsFor, Answers, write_refusal, write_change, overwritten, bytes_at}
use Rattle.node_graph.specs.Rows.{kept_of}
use Rattle.node_graph.proofs.Bytes.{no_bytes, write_change-some, write_refusal-some}
use Rattle.node_graph.proofs.Readings.{only_memory, on_err, not_ok, stays_held, stays_named}
use Rattle.node_graph.proofs.Seats.{present}
use Rattle.node_graph.proofs.Calls.{stays, step_here, rows_filled}
use Rattle.node_graph.proofs.States.{same_holds, leads_filled, keeps_names, bytes_before}
use Rattle.node_graph.proofs.graph.Graph.write_at.Goals as goal

pub index_mut-row-requires : goal.index_mut-row-requires
index_mut-row-requires c = present c.self.inside.nodes c.self.inside.edges c.self.inside.made _ c.args.node c.self.view_is c.requires.named

pub invariant_of-self : goal.invariant_of-self
invariant_of-self c = rows_filled _ _ _ _ c.args.node c.self.view_is c.self.invariant c.requires.named c.index_mut-row.result.now c.write.new.self c.index_mut-row.result.now.bytes c.index_mut-row.ensures.value c.in_err-write.ensures.unchanged

pub invariant_of-self-2 : goal.invariant_of-self-2
invariant_of-self-2 c = rows_filled _ _ _ _ c.args.node c.self.view_is c.self.invariant c.requires.named c.index_mut-row.result.now c.write.new.self _ c.index_mut-row.ensures.value c.in_ok-write.ensures.written

pub returns-then-is_empty : goal.returns-then-is_empty
returns-then-is_empty c =
    let none = no_bytes c.args.bytes.now (sym c.is_empty.ensures ∙ c.if-is_empty.true) in
    record {
      answer = let P : List ℕ → Type 0 = λ bytes. Answers {T = ⊤} (Ok tt) (write_refusal c.args.offset bytes) in subst P (sym none) tt;
      unchanged = tt;
      written = λ tree stands.
          let P : List ℕ → Type 0 = λ bytes. StandsFor c.args.self.now (after tree (write_change c.args.node.number (bytes_at c.args.self.now c.args.node.number) c.args.offset bytes)) in
          subst P (sym none) stands;
      made = refl;
      holds = λ number. refl;
      names = λ node named kept. (named, refl);
    }

pub returns-then-not-ends_within : goal.returns-then-not-ends_within
returns-then-not-ends_within c =
    let P : Option GraphFault → Type 0 = λ refusal. Answers {T = ⊤} (Err fault.FileBig) refusal in
    record {
      answer = subst P (sym (write_refusal-some c.args.offset c.args.bytes.now c.ends_within.result (sym c.is_empty.ensures ∙ c.if-is_empty.false) c.ends_within.ensures ∙ ap (λ b. cause_if (not b) fault.FileBig) c.if-not-ends_within.true)) refl;
      unchanged = refl;
      written = tt;
      made = refl;
      holds = λ number. refl;
      names = λ node named kept. (named, refl);
    }

pub returns-in_err-write : goal.returns-in_err-write
returns-in_err-write c =
    let still : kept_of (with_value c.self.inside.nodes c.args.node.place c.write.new.self) c.self.inside.edges c.self.inside.made ≡ c.args.self.now =
    ap (λ (nodes : Slab Cell). kept_of nodes c.self.inside.edges c.self.inside.made) (stays c.self.inside.nodes c.args.node.place c.index_mut-row.result.now c.write.new.self c.index_mut-row.ensures.value c.in_err-write.ensures.unchanged) ∙ c.self.view_is in
    let P : Option GraphFault → Type 0 = λ refusal. Answers c.from_residual.result refusal in
    record {
      answer = subst P (sym (write_refusal-some c.args.offset c.args.bytes.now c.ends_within.result (sym c.is_empty.ensures ∙ c.if-is_empty.false) c.ends_within.ensures ∙ ap (λ b. cause_if (not b) fault.FileBig) c.if-not-ends_within.false)) (only_memory c.from_residual.result c.from_residual.ensures.1);
      unchanged = on_err c.from_residual.result still;
      written = not_ok _ c.from_residual.result c.from_residual.ensures.1;
      made = ap (λ (g : Kept). g.made) still;
      holds = stays_held still;
      names = stays_named still;
    }

pub returns : goal.returns
returns c =
    let step = step_here _ _ _ _ c.args.node c.self.view_is c.self.invariant c.requires.named c.index_mut-row.result.now c.write.new.self c.index_mut-row.ensures.value (ap (λ (cell : Cell). cell.number) c.in_ok-write.ensures.written) (ap (λ (cell : Cell). cell.kind) c.in_ok-write.ensures.written) in
    let change = write_change-some c.args.node.number (bytes_at c.args.self.now c.args.node.number) c.args.offset c.args.bytes.now (sym c.is_empty.ensures ∙ c.if-is_empty.false) in
    let done = leads_filled step (overwritten (bytes_at c.args.self.now c.args.node.number) c.args.offset c.args.bytes.now)
    (ap (λ cell. cell.bytes) c.in_ok-write.ensures.written ∙ ap (λ bytes. overwritten bytes c.args.offset c.args.bytes.now) (sym (bytes_before step))) in
    record {
      answer =
          let P : Option GraphFault → Type 0 = λ refusal. Answers {T = ⊤} (Ok tt) refusal in
          subst P (sym (write_refusal-some c.args.offset c.args.bytes.now c.ends_within.result (sym c.is_empty.ensures ∙ c.if-is_empty.false) c.ends_within.ensures ∙ ap (λ b. cause_if (not b) fault.FileBig) c.if-not-ends_within.false)) tt;
      unchanged = tt;
      written = rw change done;
      made = ap (λ (g : Kept). g.made) c.self.view_is;
      holds = same_holds step (ap (λ cell. cell.holds) c.in_ok-write.ensures.written);
      names = keeps_names step;
    }

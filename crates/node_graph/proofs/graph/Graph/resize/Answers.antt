use Rattle.std.proofs.Common.{◌≡◌, ap, sym, subst, refl, ◌∙◌, arith, length, [], Option, Ok, Err}
use Rattle.std.specs.Prelude.{⊤}
use Rattle.slab.specs.Slab.{Slab, with_value}
use Rattle.fidl_names.specs.First.{cause_if}
use Rattle.node_graph.specs.declared.faults.GraphFault.{GraphFault}
use Rattle.node_graph.specs.declared.faults.GraphFault.TheVariants as fault
use Rattle.node_graph.specs.Cell.{Cell}
use Rattle.std.specs.Option.{option_map_or}
use Rattle.node_graph.specs.Graph.{Kept, Seat, Answers, resized, bytes_at}
use Rattle.node_graph.specs.Rows.{kept_of}
use Rattle.node_graph.proofs.Readings.{only_memory, on_err, not_ok, stays_held, stays_named}
use Rattle.node_graph.proofs.Seats.{present, seat_here}
use Rattle.node_graph.proofs.Calls.{stays, step_here, rows_filled}
use Rattle.node_graph.proofs.States.{same_holds, leads_filled, keeps_names, bytes_before}
use Rattle.node_graph.proofs.graph.Graph.resize.Goals as goal

pub index_mut-row-requires : goal.index_mut-row-requires
index_mut-row-requires c = present c.self.inside.nodes c.self.inside.edges c.self.inside.made _ c.args.node c.self.view_is c.requires.named

pub invariant_of-self : goal.invariant_of-self
invariant_of-self c = rows_filled _ _ _ _ c.args.node c.self.view_is c.self.invariant c.requires.named c.index_mut-row.result.now c.resize.new.self c.index_mut-row.result.now.bytes c.index_mut-row.ensures.value c.in_err-resize.ensures.unchanged

pub invariant_of-self-2 : goal.invariant_of-self-2
invariant_of-self-2 c = rows_filled _ _ _ _ c.args.node c.self.view_is c.self.invariant c.requires.named c.index_mut-row.result.now c.resize.new.self _ c.index_mut-row.ensures.value c.in_ok-resize.ensures.resized

pub returns-then-is_too_long : goal.returns-then-is_too_long
returns-then-is_too_long c =
    let P : Option GraphFault → Type 0 = λ refusal. Answers {T = ⊤} (Err fault.FileBig) refusal in
    record {
      answer = subst P (sym (ap (λ b. cause_if b fault.FileBig) (sym c.is_too_long.ensures ∙ c.if-is_too_long.true))) refl;
      unchanged = refl;
      resized = tt;
      shorter = λ less. refl;
      made = refl;
      holds = λ number. refl;
      names = λ node named kept. (named, refl);
    }

pub returns-in_err-resize : goal.returns-in_err-resize
returns-in_err-resize c =
    let still : kept_of (with_value c.self.inside.nodes c.args.node.place c.resize.new.self) c.self.inside.edges c.self.inside.made ≡ c.args.self.now =
    ap (λ (nodes : Slab Cell). kept_of nodes c.self.inside.edges c.self.inside.made) (stays c.self.inside.nodes c.args.node.place c.index_mut-row.result.now c.resize.new.self c.index_mut-row.ensures.value c.in_err-resize.ensures.unchanged) ∙ c.self.view_is in
    let P : Option GraphFault → Type 0 = λ refusal. Answers c.from_residual.result refusal in
    record {
      answer = subst P (sym (ap (λ b. cause_if b fault.FileBig) (sym c.is_too_long.ensures ∙ c.if-is_too_long.false))) (only_memory c.from_residual.result c.from_residual.ensures.1);
      unchanged = on_err c.from_residual.result still;
      resized = not_ok _ c.from_residual.result c.from_residual.ensures.1;
      shorter = λ less.
          let same = ap (λ s. length (option_map_or (λ (s : Seat). s.bytes) s [])) (seat_here c.self.inside.nodes c.self.inside.edges c.self.inside.made _ c.args.node c.self.view_is c.requires.named c.index_mut-row.result.now c.index_mut-row.ensures.value) in
          absurd (omega (arith, same, less, c.in_err-resize.ensures.shorter));
      made = ap (λ (g : Kept). g.made) still;
      holds = stays_held still;
      names = stays_named still;
    }

pub returns : goal.returns
returns c =
    let P : Option GraphFault → Type 0 = λ refusal. Answers {T = ⊤} (Ok tt) refusal in
    let step = step_here _ _ _ _ c.args.node c.self.view_is c.self.invariant c.requires.named c.index_mut-row.result.now c.resize.new.self c.index_mut-row.ensures.value (ap (λ (cell : Cell). cell.number) c.in_ok-resize.ensures.resized) (ap (λ (cell : Cell). cell.kind) c.in_ok-resize.ensures.resized) in
    record {
      answer = subst P (sym (ap (λ b. cause_if b fault.FileBig) (sym c.is_too_long.ensures ∙ c.if-is_too_long.false))) tt;
      unchanged = tt;
      resized = leads_filled step (resized (bytes_at c.args.self.now c.args.node.number) c.args.size)
          (ap (λ cell. cell.bytes) c.in_ok-resize.ensures.resized ∙ ap (λ bytes. resized bytes c.args.size) (sym (bytes_before step)));
      shorter = λ less. tt;
      made = ap (λ (g : Kept). g.made) c.self.view_is;
      holds = same_holds step (ap (λ cell. cell.holds) c.in_ok-resize.ensures.resized);
      names = keeps_names step;
    }

use Rattle.std.proofs.Common.{◌++◌, ◌∷◌, ap, sym, refl, arith, [], length}
use Rattle.ns_program.specs.Tables.{nothing}
use Rattle.ns_program.proofs.ScriptLemmas.{size_more}
use Rattle.ns_program.proofs.TableLemmas.{says_more, one_line}
use Rattle.ns_program.proofs.tables.read_table.Goals as goal

pub loop-line-init : goal.loop-line-init
loop-line-init c =
    let few = c.new-lines.ensures.few in
    let short = c.requires in
    record { done = []; parts = sym c.new-lines.ensures.pieces; says = nothing _ c.new-table.ensures; counted = refl; few = omega (arith, few, short) }

pub loop-line-preserved : goal.loop-line-preserved
loop-line-preserved c =
    let kept = c.loop-line.invariant in
    let rest = ap length c.in-Some.ensures.piece in
    let few = kept.few in
    record {
      done = kept.done ++ c.in-Some.line.now ∷ [];
      parts = one_line _ kept.done c.loop-line.lines c.next.new.self c.in-Some.line.now kept.parts c.in-Some.ensures.piece;
      says = says_more kept.done c.in-Some.line.now _ _ kept.says (rw c.in-Ok-true.field-0-test at c.in-Ok-true.ensures);
      counted = sym (size_more kept.done c.in-Some.line.now c.loop-line.number (sym kept.counted));
      few = omega (arith, rest, few);
    }

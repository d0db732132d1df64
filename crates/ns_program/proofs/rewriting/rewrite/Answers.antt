use Rattle.std.proofs.Common.{◌++◌, ◌∷◌, ap, sym, refl, arith, [], length}
use Rattle.ns_program.specs.Rewriting.{nothing, one_more}
use Rattle.ns_program.specs.Steps.{Puts}
use Rattle.ns_program.proofs.ScriptLemmas.{size_more, joined_more}
use Rattle.ns_program.proofs.TableLemmas.{one_line}
use Rattle.io_namespace.specs.Kept.{table_of}
use Rattle.ns_program.proofs.rewriting.rewrite.Goals as goal

pub loop-line-init : goal.loop-line-init
loop-line-init c =
    let few = c.new-lines.ensures.few in
    let short = c.requires in
    record { done = []; outs = []; parts = sym c.new-lines.ensures.pieces; become = nothing; joined = c.new-out.ensures.items; counted = refl; size = refl; few = omega (arith, few, short) }

pub loop-line-preserved : goal.loop-line-preserved
loop-line-preserved c =
    let kept = c.loop-line.invariant in
    let rest = ap length c.in-Some.ensures.piece in
    let few = kept.few in
    let put : Puts (table_of c.args.table.now) c.in-Some.line.now _ c.put_next.new.out.items = rw c.in-Ok-true.field-0-test at c.in-Ok-true.ensures in
    record {
      done = kept.done ++ c.in-Some.line.now ∷ [];
      outs = kept.outs ++ put.out ∷ [];
      parts = one_line _ kept.done c.loop-line.lines c.next.new.self c.in-Some.line.now kept.parts c.in-Some.ensures.piece;
      become = one_more kept.done kept.outs c.in-Some.line.now put.out kept.become put.becomes;
      joined = joined_more kept.outs c.loop-line.number c.loop-line.out.items c.put_next.new.out.items put.out kept.size kept.joined put.put;
      counted = sym (size_more kept.done c.in-Some.line.now c.loop-line.number (sym kept.counted));
      size = size_more kept.outs put.out c.loop-line.number kept.size;
      few = omega (arith, rest, few);
    }

use Rattle.std.proofs.Common.{◌≡◌, length-set, arith}
use Rattle.std.proofs.lemmas.List.Edits.{fill_by_more}
use Rattle.fidl_wire.specs.Names.{ordinal_at}
use Rattle.fidl_wire.proofs.Rows.{first_collision}
use Rattle.fidl_wire.proofs.ordinals.Ordinals.new.Goals as goal

pub loop-row-preserved : goal.loop-row-preserved
loop-row-preserved c =
    let number : c.ordinal.result ≡ ordinal_at c.loop-row.row = rw (← c.full_name.ensures) c.ordinal.ensures in
    record {
      size = rw length-set c.loop-row.invariant.size;
      named = rw number (fill_by_more ordinal_at c.loop-row.numbers c.loop-row.row 0 (omega arith) c.loop-row.invariant.named);
    }

pub returns-in-Some-clause-collision : goal.returns-in-Some-clause-collision
returns-in-Some-clause-collision c =
    first_collision c.loop-row.numbers _ _ c.loop-row.invariant.size (λ k below. c.loop-row.invariant.named k (omega arith)) c.in-Some.ensures

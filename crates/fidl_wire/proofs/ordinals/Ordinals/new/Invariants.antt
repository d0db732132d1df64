use Rattle.std.proofs.Common.{◌≡◌, ℕ, ◌<◌, get_or, length}
use Rattle.fidl_wire.specs.Names.{row_count, ordinal_at}
use Rattle.fidl_wire.proofs.ordinals.Ordinals.new.Given as goal

abbrev pub invariant-loop-row : goal.invariant-loop-row
invariant-loop-row l = record {
  size : length l.numbers ≡ row_count;
  named : (k : ℕ) → k < l.row → get_or l.numbers k 0 ≡ ordinal_at k;
}

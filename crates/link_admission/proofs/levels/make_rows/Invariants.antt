use Rattle.std.proofs.Common.{◌≡◌, ◌≤◌, ℕ, length}
use Rattle.link_admission.specs.Pages.{row_at}
use Rattle.link_admission.proofs.levels.make_rows.Given as goal

abbrev pub invariant-loop : goal.invariant-loop
invariant-loop g l = record {
  same : (i : ℕ) → row_at l.rows.items i ≡ row_at l.fn.rows.items i;
  reached : l.counter ≤ length l.rows.items;
}

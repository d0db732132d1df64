use Rattle.std.proofs.Common.{◌≡◌, ◌+◌, ◌≤◌, ◌++◌, List, ℕ, length}
use Rattle.fidl_names.specs.declared.limits.TheConstants as limit
use Rattle.io_namespace.specs.Kept.{table_of}
use Rattle.ns_program.specs.Tables.{Says, lines_of}
use Rattle.ns_program.proofs.tables.read_table.Given as goal

abbrev pub decreases-loop-line : goal.decreases-loop-line
decreases-loop-line l = length l.lines

abbrev pub invariant-loop-line : goal.invariant-loop-line
invariant-loop-line l = record {
  done : List (List ℕ);
  parts : lines_of l.fn.text ≡ done ++ l.lines;
  says : Says done (table_of l.table);
  counted : l.number ≡ length done;
  few : l.number + length l.lines ≤ limit.MAX_TEXT + 1;
}

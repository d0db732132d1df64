use Rattle.std.proofs.Common.{◌≡◌, ◌+◌, ◌≤◌, ◌++◌, List, ℕ, length}
use Rattle.std.specs.List.{join_with_byte}
use Rattle.fidl_names.specs.declared.limits.TheConstants as limit
use Rattle.io_namespace.specs.Kept.{table_of}
use Rattle.ns_program.specs.Rewriting.{Become}
use Rattle.ns_program.specs.Tables.{lines_of}
use Rattle.ns_program.proofs.rewriting.rewrite.Given as goal

abbrev pub decreases-loop-line : goal.decreases-loop-line
decreases-loop-line l = length l.lines

abbrev pub invariant-loop-line : goal.invariant-loop-line
invariant-loop-line l = record {
  done : List (List ℕ);
  outs : List (List ℕ);
  parts : lines_of l.fn.text ≡ done ++ l.lines;
  become : Become (table_of l.table) done outs;
  joined : l.out.items ≡ join_with_byte 10 outs;
  counted : l.number ≡ length done;
  size : length outs ≡ l.number;
  few : l.number + length l.lines ≤ limit.MAX_TEXT + 1;
}

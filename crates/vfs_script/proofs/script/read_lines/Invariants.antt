use Rattle.std.proofs.Common.{◌≡◌, length}
use Rattle.vfs_script.specs.Kept.{kept_with}
use Rattle.vfs_script.specs.Scripts.{bad_lines, spoken_in}
use Rattle.vfs_script.proofs.ScriptLemmas.{none_kept}
use Rattle.vfs_script.proofs.script.read_lines.Given as goal

abbrev pub invariant-loop-number : goal.invariant-loop-number
invariant-loop-number l =
    record {
      to_come : bad_lines l.initial.lines ≡ bad_lines l.lines;
      kept : kept_with none_kept (spoken_in l.initial.lines) ≡ kept_with l.frames (spoken_in l.lines);
    }

abbrev pub decreases-loop-number : goal.decreases-loop-number
decreases-loop-number l = length l.lines

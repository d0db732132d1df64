use Rattle.std.proofs.Common.{◌≡◌, length}
use Rattle.std.specs.Option.{option_or}
use Rattle.vfs_script.specs.Scripts.{bad_heads, from_mode, heads}
use Rattle.vfs_script.proofs.script.read_mode.Given as goal

abbrev pub invariant-loop-number : goal.invariant-loop-number
invariant-loop-number l =
    record {
      mode : from_mode l.initial.lines ≡ from_mode l.lines;
      front : bad_heads (heads l.initial.lines) ≡ option_or l.bad (bad_heads (heads l.lines));
    }

abbrev pub decreases-loop-number : goal.decreases-loop-number
decreases-loop-number l = length l.lines

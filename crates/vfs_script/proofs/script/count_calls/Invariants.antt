use Rattle.std.proofs.Common.{◌≡◌, ◌≤◌, length, take}
use Rattle.std.specs.Prelude.{is_some}
use Rattle.std.specs.List.{filter}
use Rattle.vfs_script.proofs.script.count_calls.Given as goal

abbrev pub invariant-loop-call : goal.invariant-loop-call
invariant-loop-call l =
    record {
      counted : l.count ≡ length (filter is_some (take l.call-index l.calls));
      few : l.count ≤ l.call-index;
    }

use Rattle.std.proofs.Common.{◌≡◌, length}
use Rattle.std.specs.List.{list_any}
use Rattle.io_namespace.specs.Cleaning.{parts}
use Rattle.io_namespace.specs.Faults.{is_bad_part}
use Rattle.io_namespace.proofs.checks.has_bad_part.Given as goal

abbrev pub decreases-loop-part : goal.decreases-loop-part
decreases-loop-part l = length l.parts

abbrev pub invariant-loop-part : goal.invariant-loop-part
invariant-loop-part l = list_any is_bad_part l.parts ≡ list_any is_bad_part (parts l.fn.text)

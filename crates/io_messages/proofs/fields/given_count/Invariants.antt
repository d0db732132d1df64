use Rattle.std.proofs.Common.{◌≡◌, ◌≤◌, take}
use Rattle.fidl_wire.specs.Spelling.{given}
use Rattle.fidl_wire.specs.Told.{all_told}
use Rattle.io_messages.proofs.fields.given_count.Given as goal

-- the last that is given of those so far
abbrev pub invariant-loop-i : goal.invariant-loop-i
invariant-loop-i l = record {
  bound : l.count ≤ l.i;
  front : all_told (take l.count l.members) ≡ given (all_told (take l.i l.members));
}

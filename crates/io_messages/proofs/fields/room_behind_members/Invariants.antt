use Rattle.std.proofs.Common.{◌≡◌, ◌+◌, ◌≤◌, drop}
use Rattle.fidl_names.specs.declared.limits.TheConstants as limit
use Rattle.fidl_wire.specs.Told.{all_told}
use Rattle.io_messages.specs.Fields.{slots_of}
use Rattle.io_messages.proofs.fields.room_behind_members.Given as goal

abbrev pub invariant-loop-member : goal.invariant-loop-member
invariant-loop-member l = record {
  all : l.left + slots_of (all_told l.members) ≡ l.room + slots_of (all_told (drop l.member-index l.members));
  bound : l.left ≤ limit.MAX_BYTES;
}

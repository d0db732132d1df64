use Rattle.std.proofs.Common.{◌≡◌, ◌++◌, drop}
use Rattle.fidl_wire.specs.Spelling.{members_part}
use Rattle.fidl_wire.specs.Told.{all_told}
use Rattle.io_messages.proofs.fields.put_members.Given as goal

-- what was put and what is left are all
abbrev pub invariant-loop-member : goal.invariant-loop-member
invariant-loop-member l = record {
  all : l.out.bytes ++ (members_part (all_told (drop l.member-index l.members))).outside ≡ l.initial.out.bytes ++ (members_part (all_told l.members)).outside;
  same : l.out.handles ≡ l.initial.out.handles;
}

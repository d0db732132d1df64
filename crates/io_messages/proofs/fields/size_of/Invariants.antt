use Rattle.std.proofs.Common.{◌≡◌, ◌+◌, ◌≤◌, drop}
use Rattle.io_messages.specs.Fields.{parts_size}
use Rattle.io_messages.proofs.fields.size_of.Given as goal

abbrev pub invariant-loop-field : goal.invariant-loop-field
invariant-loop-field l = record {
  all : l.room + parts_size l.fields ≡ 65520 + parts_size (drop l.field-index l.fields);
  bound : l.room ≤ 65520;
}

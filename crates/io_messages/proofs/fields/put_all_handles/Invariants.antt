use Rattle.std.proofs.Common.{◌≡◌, ◌++◌, drop}
use Rattle.io_messages.specs.Fields.{parts_of}
use Rattle.io_messages.proofs.fields.put_all_handles.Given as goal

-- what was put and what is left are all
abbrev pub invariant-loop-field : goal.invariant-loop-field
invariant-loop-field l = record {
  all : l.out.handles ++ (parts_of (drop l.field-index l.fields)).handles ≡ l.initial.out.handles ++ (parts_of l.fields).handles;
  same : l.out.bytes ≡ l.initial.out.bytes;
}

use Rattle.std.proofs.Common.{◌≡◌, ◌++◌, drop}
use Rattle.io_messages.specs.Fields.{parts_of}
use Rattle.io_messages.proofs.fields.put_all_inline.Given as goal

-- what was put and what is left are all
abbrev pub invariant-loop-field : goal.invariant-loop-field
invariant-loop-field l = record {
  all : l.out.bytes ++ (parts_of (drop l.field-index l.fields)).inline ≡ l.initial.out.bytes ++ (parts_of l.fields).inline;
  same : l.out.handles ≡ l.initial.out.handles;
}

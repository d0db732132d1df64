use Rattle.std.proofs.Common.{◌∙◌}
use Rattle.io_messages.specs.Fields.{parts_of, parts_size}
use Rattle.fidl_wire.specs.Spelling.{object_bytes}
use Rattle.io_messages.proofs.Unions.{outside_is, aligned_size, size_found}
use Rattle.io_messages.proofs.reply_writer.put_branch.Goals as goal

pub returns-clause-bytes : goal.returns-clause-bytes
returns-clause-bytes c =
    outside_is c.args.out.now.bytes c.put_u64.new.self.bytes c.put_u32.new.self.bytes c.put_u32-2.new.self.bytes c.put_object.new.out.bytes (object_bytes (parts_of c.args.fields.now)) c.args.ordinal _ _
    (size_found c.size_of.result c.unwrap-size.result (parts_size c.args.fields.now) c.unwrap-size.ensures c.size_of.ensures ∙ aligned_size c.args.fields.now c.requires.aligned)
    c.put_u64.ensures.bytes c.put_u32.ensures.bytes c.put_u32-2.ensures.bytes c.put_object.ensures.bytes

use Rattle.io_messages.proofs.Unions.{inlined_is}
use Rattle.io_messages.proofs.reply_writer.put_inlined.Goals as goal

pub returns-clause-bytes : goal.returns-clause-bytes
returns-clause-bytes c =
    inlined_is c.args.out.now.bytes c.put_u64.new.self.bytes c.put_u32.new.self.bytes c.put_u32-2.new.self.bytes c.args.ordinal c.args.value c.put_u64.ensures.bytes c.put_u32.ensures.bytes c.put_u32-2.ensures.bytes

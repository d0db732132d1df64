use Rattle.std.proofs.Common.{◌∙◌, ap}
use Rattle.std.specs.Prelude.{◌++◌}
use Rattle.io_messages.proofs.Unions.{success_is}
use Rattle.io_messages.proofs.reply_writer.put_success.Goals as goal

pub returns-clause-bytes : goal.returns-clause-bytes
returns-clause-bytes c =
    success_is c.args.out.now.bytes c.put_bytes.new.self.bytes c.put_padded.new.out.bytes c.args.bytes.now
    (c.put_bytes.ensures.bytes ∙ ap (λ head. c.args.out.now.bytes ++ head) c.success_head.ensures) c.put_padded.ensures.bytes

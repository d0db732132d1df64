use Rattle.io_messages.proofs.Known.{method_with-is}
use Rattle.io_replies.proofs.reply_reader.method_with.Goals as goal

pub returns : goal.returns
returns c = method_with-is c.method.result c.args.ordinal c.method.ensures.found c.method.ensures.only c.method.ensures.none

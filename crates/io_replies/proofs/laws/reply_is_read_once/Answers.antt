use Rattle.io_replies.proofs.ReplyLaws.{reply_once}
use Rattle.io_replies.proofs.laws.reply_is_read_once.Goals as goal

pub returns : goal.returns
returns c = λ apart. reply_once c.body_is_read_where_spelled.ensures.reads apart

use Rattle.io_replies.proofs.ReplyLaws.{no_reply}
use Rattle.io_replies.proofs.laws.framework_error_is_no_reply.Goals as goal

pub returns : goal.returns
returns c = no_reply c.body_is_read_where_spelled.ensures.reads

use Rattle.io_replies.proofs.WrittenReplies.{written_reply}
use Rattle.io_replies.proofs.laws.written_reply_is_read.Goals as goal

pub returns : goal.returns
returns c = written_reply c.spelling_is_read.ensures.spelled c.spelling_is_read.ensures.read c.written_header_is_read.ensures

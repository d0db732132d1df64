use Rattle.io_replies.proofs.ReplyLaws.{event_once}
use Rattle.io_replies.proofs.laws.event_is_read_once.Goals as goal

pub returns : goal.returns
returns c = event_once c.body_is_read_where_spelled.ensures.reads

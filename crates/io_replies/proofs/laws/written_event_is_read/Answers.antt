use Rattle.io_replies.proofs.WrittenEvents.{written_event}
use Rattle.io_replies.proofs.laws.written_event_is_read.Goals as goal

pub returns : goal.returns
returns c = written_event c.spelling_is_read.ensures.spelled c.written_header_is_read.ensures

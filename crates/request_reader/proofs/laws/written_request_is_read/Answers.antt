use Rattle.request_reader.proofs.WrittenRequests.{written_request}
use Rattle.request_reader.proofs.laws.written_request_is_read.Goals as goal

pub returns : goal.returns
returns c = written_request c.spelling_is_read.ensures.spelled c.written_header_is_read.ensures

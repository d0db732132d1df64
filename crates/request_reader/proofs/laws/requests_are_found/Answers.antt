use Rattle.request_reader.proofs.RequestLaws.{what_is_spelled, what_is_read}
use Rattle.request_reader.proofs.laws.requests_are_found.Goals as goal

pub returns-clause-found : goal.returns-clause-found
returns-clause-found c = λ apart. what_is_spelled c.body_is_read_where_spelled.ensures.reads apart

pub returns-clause-read : goal.returns-clause-read
returns-clause-read c = what_is_read c.body_is_read_where_spelled.ensures.spelled

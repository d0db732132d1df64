use Rattle.request_reader.proofs.RequestLaws.{asked_once, read_once}
use Rattle.request_reader.proofs.laws.request_is_read_once.Goals as goal

pub returns-clause-asked : goal.returns-clause-asked
returns-clause-asked c = λ apart. asked_once c.body_is_read_where_spelled.ensures.reads apart

pub returns-clause-read : goal.returns-clause-read
returns-clause-read c = λ apart. read_once c.body_is_read_where_spelled.ensures.reads apart

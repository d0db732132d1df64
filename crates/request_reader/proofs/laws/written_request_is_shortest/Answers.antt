use Rattle.request_reader.proofs.ShortestRequests.{shortest}
use Rattle.request_reader.proofs.laws.written_request_is_shortest.Goals as goal

pub returns : goal.returns
returns c = shortest c.spelling_is_shortest.ensures.shortest

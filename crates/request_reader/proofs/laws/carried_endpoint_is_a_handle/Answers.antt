use Rattle.request_reader.proofs.Carrying.{carries}
use Rattle.request_reader.proofs.laws.carried_endpoint_is_a_handle.Goals as goal

pub returns : goal.returns
returns c = carries

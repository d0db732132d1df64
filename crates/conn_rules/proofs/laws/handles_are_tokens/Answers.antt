use Rattle.conn_rules.proofs.TokenHandles.{handles_are_tokens}
use Rattle.conn_rules.proofs.laws.handles_are_tokens.Goals as goal

pub returns : goal.returns
returns c = handles_are_tokens

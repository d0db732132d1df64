use Rattle.journal_laws.proofs.Starting.{accepted_starts_are_starts}
use Rattle.journal_laws.proofs.laws.accepted_starts_are_starts.Goals as goal

pub returns : goal.returns
returns c = accepted_starts_are_starts

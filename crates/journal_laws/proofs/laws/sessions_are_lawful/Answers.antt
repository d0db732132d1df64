use Rattle.journal_laws.proofs.Draining.{sessions_are_lawful}
use Rattle.journal_laws.proofs.laws.sessions_are_lawful.Goals as goal

pub returns : goal.returns
returns c = sessions_are_lawful

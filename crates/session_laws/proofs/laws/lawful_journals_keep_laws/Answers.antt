use Rattle.session_laws.proofs.Keeping.{lawful_keep}
use Rattle.session_laws.proofs.laws.lawful_journals_keep_laws.Goals as goal

pub returns : goal.returns
returns c = lawful_keep

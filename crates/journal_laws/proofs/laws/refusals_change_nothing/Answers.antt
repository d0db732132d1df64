use Rattle.journal_laws.proofs.Steps.{refusals_change_nothing}
use Rattle.journal_laws.proofs.laws.refusals_change_nothing.Goals as goal

pub returns : goal.returns
returns c = refusals_change_nothing

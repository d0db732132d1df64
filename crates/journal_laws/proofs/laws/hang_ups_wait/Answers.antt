use Rattle.journal_laws.proofs.HangUps.{hang_ups_wait}
use Rattle.journal_laws.proofs.laws.hang_ups_wait.Goals as goal

pub returns : goal.returns
returns c = hang_ups_wait

use Rattle.journal_laws.proofs.Places.{places_rise}
use Rattle.journal_laws.proofs.laws.places_rise.Goals as goal

pub returns : goal.returns
returns c = places_rise

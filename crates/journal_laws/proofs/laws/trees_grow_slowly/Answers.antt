use Rattle.journal_laws.proofs.Growing.{trees_grow}
use Rattle.journal_laws.proofs.laws.trees_grow_slowly.Goals as goal

pub returns : goal.returns
returns c = trees_grow

use Rattle.io_namespace.proofs.LawLemmas.{clean_steps, clean_down, clean_inside, clean_again}
use Rattle.io_namespace.proofs.laws.clean_laws.Goals as goal

pub returns : goal.returns
returns c = record { steps = clean_steps; down = clean_down; inside = clean_inside; again = clean_again }

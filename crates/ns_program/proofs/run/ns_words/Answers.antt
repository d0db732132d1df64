use Rattle.ns_program.proofs.Complete.{complete}
use Rattle.ns_program.proofs.run.ns_words.Goals as goal

pub returns-clause-complete : goal.returns-clause-complete
returns-clause-complete g c = λ asks means is fine. complete asks _ _ _ _ _ is fine _ (c.answer-status.ensures.answers asks means)

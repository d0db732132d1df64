use Rattle.frames_program.proofs.Complete.{complete}
use Rattle.frames_program.proofs.run.frames_words.Goals as goal

pub returns-clause-complete : goal.returns-clause-complete
returns-clause-complete g c = λ script means servable fine. complete script _ _ _ _ _ _ _ (c.answer-status.ensures.answers script means) servable fine

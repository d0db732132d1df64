use Rattle.vfs_program.proofs.Complete.{complete}
use Rattle.vfs_program.proofs.Lawful.{lawful}
use Rattle.vfs_program.proofs.run.run_words.Goals as goal

pub returns-clause-usage : goal.returns-clause-usage
returns-clause-usage g c = c.answer-status.ensures.usage

pub returns-clause-answers : goal.returns-clause-answers
returns-clause-answers g c = c.answer-status.ensures.answers

pub returns-clause-reads : goal.returns-clause-reads
returns-clause-reads g c = c.answer-status.ensures.reads

pub returns-clause-complete : goal.returns-clause-complete
returns-clause-complete g c = λ asks means. complete asks _ _ _ _ _ (c.answer-status.ensures.answers asks means)

pub returns-clause-lawful : goal.returns-clause-lawful
returns-clause-lawful g c = λ asks means. lawful asks _ _ _ _ _ (c.answer-status.ensures.answers asks means)

pub returns-clause-note : goal.returns-clause-note
returns-clause-note g c = c.tell.ensures

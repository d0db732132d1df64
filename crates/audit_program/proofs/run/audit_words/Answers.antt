use Rattle.audit_program.proofs.Complete.{complete}
use Rattle.audit_program.proofs.run.audit_words.Goals as goal

pub returns-clause-complete : goal.returns-clause-complete
returns-clause-complete g c = λ tree recording words lists bytes verdict all good.
    complete tree recording _ _ _ _ lists bytes verdict all good _ _ (c.answer-status.ensures.answers tree recording words)

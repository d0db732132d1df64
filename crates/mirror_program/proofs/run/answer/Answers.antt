use Rattle.std.proofs.Common.{◌≡◌, subst}
use Rattle.run_status.specs.Outside.{streams_told}
use Rattle.mirror_program.specs.Answers.{Answers}
use Rattle.mirror_program.proofs.WordLists.{one_endpoint}
use Rattle.mirror_program.proofs.run.answer.Goals as goal

pub returns-in-Some-clause-answers : goal.returns-in-Some-clause-answers
returns-in-Some-clause-answers g c = λ endpoint means.
    let told = streams_told g.S.Source.left g.S.Source.last g.S.Source.faults g.K.Sink.written g.K.Sink.flushed g.K.Sink.faults in
    subst (λ e. Answers e (told c.args.source.now c.args.sink.now) (told c.mirror.new.source c.mirror.new.sink) (c.mirror.new.sink ≡ c.args.sink.now) c.mirror.result)
    (one_endpoint c.in-Some.endpoint endpoint _ c.in-Some.ensures.meant means) c.mirror.ensures.answers

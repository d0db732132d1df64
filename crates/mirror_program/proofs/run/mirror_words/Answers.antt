use Rattle.std.proofs.Common.{refl}
use Rattle.run_status.specs.Outside.{streams_told}
use Rattle.mirror_program.proofs.Complete.{complete}
use Rattle.mirror_program.proofs.Watching.{watched}
use Rattle.mirror_program.proofs.run.mirror_words.Goals as goal

pub returns-clause-complete : goal.returns-clause-complete
returns-clause-complete g c = λ endpoint means takable none.
    let told = streams_told g.S.Source.left g.S.Source.last g.S.Source.faults g.K.Sink.written g.K.Sink.flushed g.K.Sink.faults in
    complete endpoint (told c.args.source.now c.args.sink.now) (told c.answer-status.new.source c.answer-status.new.sink) takable _ none c.answer-status.result
    (c.answer-status.ensures.answers endpoint means)

pub returns-clause-watched : goal.returns-clause-watched
returns-clause-watched g c = λ apart lists by sent watcher is means told_so done.
    let told = streams_told g.S.Source.left g.S.Source.last g.S.Source.faults g.K.Sink.written g.K.Sink.flushed g.K.Sink.faults in
    watched apart watcher.endpoint (told c.args.source.now c.args.sink.now) (told c.answer-status.new.source c.answer-status.new.sink) _ lists by sent watcher is refl told_so
    c.answer-status.result done (c.answer-status.ensures.answers watcher.endpoint means)

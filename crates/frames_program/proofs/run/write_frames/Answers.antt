use Rattle.std.proofs.Common.{rules, subst, inr}
use Rattle.host_io.specs.Streams.{AppendsPart}
use Rattle.link_frames.proofs.Words.{are_bytes}
use Rattle.run_status.specs.Outside.{sink_told}
use Rattle.run_status.specs.Texts.{GotAll}
use Rattle.frames_program.proofs.Causes.{is_sent}
use Rattle.frames_program.proofs.run.write_frames.Goals as goal

pub returns-in-Ok-pass_on-clause-answers : goal.returns-in-Ok-pass_on-clause-answers
returns-in-Ok-pass_on-clause-answers g c =
    let sent =
    is_sent (g.F.Files.told c.args.files.now c.args.script.now) c.in-Ok-read_script.script c.frames-frames.result.now c.in-Ok-read_script.ensures.says c.frames-frames.ensures
    (are_bytes c.frames-frames.result.now (search rules))
    in
    let got =
    GotAll (sink_told g.K.Sink.written g.K.Sink.flushed g.K.Sink.faults c.args.sink.now) (sink_told g.K.Sink.written g.K.Sink.flushed g.K.Sink.faults c.pass_on.new.sink)
    in
    inr (tt, c.in-Ok.ensures.distinct, inr (sent.said, sent.playable, (subst got sent.is c.in-Ok-pass_on.ensures.whole, c.in-Ok-pass_on.ensures.cause.stays)))

pub returns-clause-answers : goal.returns-clause-answers
returns-clause-answers g c =
    let sent =
    is_sent (g.F.Files.told c.args.files.now c.args.script.now) c.in-Ok-read_script.script c.frames-frames.result.now c.in-Ok-read_script.ensures.says c.frames-frames.ensures
    (are_bytes c.frames-frames.result.now (search rules))
    in
    let part = AppendsPart (g.K.Sink.written c.args.sink.now) (g.K.Sink.written c.pass_on.new.sink) in
    inr (tt, c.in-Ok.ensures.distinct, inr (sent.said, sent.playable, (subst part sent.is c.in-Err-pass_on.ensures.part, c.in-Err-pass_on.ensures.cause.failed)))

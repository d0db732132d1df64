use Rattle.std.proofs.Common.{◌∷◌, ◌+◌, sym, subst}
use Rattle.link_frames.specs.Views.{frame_of}
use Rattle.host_io.specs.Streams.{AppendsPart}
use Rattle.vfs_script.specs.Scripts.{call_in}
use Rattle.script_session.specs.Answering.{one_of, sends}
use Rattle.script_session.specs.Telling.{IsTold, Knows, last_of}
use Rattle.script_session.specs.Transcript.{lines_of, with_frames}
use Rattle.script_session.specs.Playing.{play_line}
use Rattle.script_session.specs.Steps.{Plays}
use Rattle.script_session.proofs.Answered.{any_err, front_grows_on, on_ok}
use Rattle.script_session.proofs.Played.{line_grows}
use Rattle.script_session.proofs.ReadBack.{line_back, since_line}
use Rattle.script_session.proofs.playing.Player.play_line.Goals as goal

pub returns-in_err-sends-clause-part : goal.returns-in_err-sends-clause-part
returns-in_err-sends-clause-part g c = λ start played said first plays is at told.
    let by = c.args.self.now.mode in
    let now = g.K.Sink.written c.args.sink.now in
    any_err c.from_residual.result (AppendsPart first now (lines_of (play_line start by played said).past))
    (front_grows_on first now c.args.self.now.scribe.gathered (lines_of played.past) (lines_of (play_line start by played said).past) (line_grows start by played said) told)

pub returns-in_default-clause-part : goal.returns-in_default-clause-part
returns-in_default-clause-part g c = λ start played said first plays is at told.
    let by = c.args.self.now.mode in
    let now = g.K.Sink.written c.args.sink.now in
    front_grows_on first now c.args.self.now.scribe.gathered (lines_of played.past) (lines_of (play_line start by played said).past) (line_grows start by played said) told

pub returns-clause-plays : goal.returns-clause-plays
returns-clause-plays g c = λ start played said plays is at.
    let by = c.args.self.now.mode in
    let past = sends (call_in said) ∷ played.past in
    let line = line_back start by played said (frame_of c.args.frame) c.args.self.now.world c.hear.new.self c.args.self.now.scribe.calls c.clear.new.self c.hear.new.outbox c.as_bytes.result.now
    is c.clear.ensures c.as_bytes.ensures plays (c.in-Ok.ensures.heard start) in
    let since = since_line start by played said in
    on_ok c.gets_all.result (Knows (with_frames past since) c.gets_all.new.self.calls) (Plays start (play_line start by played said) c.hear.new.self c.gets_all.new.self.calls)
    (λ knows. record { distinct = plays.distinct; stands = line.stands; knows = knows })
    (c.gets_all.ensures.knows past since line.each line.spelled (c.in_ok-sends.ensures.knows played.past (call_in said) at plays.knows))

pub returns-clause-told : goal.returns-clause-told
returns-clause-told g c = λ start played said first plays is at told.
    let by = c.args.self.now.mode in
    let line = line_back start by played said (frame_of c.args.frame) c.args.self.now.world c.hear.new.self c.args.self.now.scribe.calls c.clear.new.self c.hear.new.outbox c.as_bytes.result.now
    is c.clear.ensures c.as_bytes.ensures plays (c.in-Ok.ensures.heard start) in
    c.gets_all.ensures.told (sends (call_in said) ∷ played.past) first (since_line start by played said) line.each line.spelled
    (subst (λ l. IsTold first (g.K.Sink.written c.args.sink.now) l (lines_of played.past)) (sym c.in_ok-sends.ensures.gathered) told)

pub returns-clause-part : goal.returns-clause-part
returns-clause-part g c = λ start played said first plays is at told.
    let by = c.args.self.now.mode in
    let line = line_back start by played said (frame_of c.args.frame) c.args.self.now.world c.hear.new.self c.args.self.now.scribe.calls c.clear.new.self c.hear.new.outbox c.as_bytes.result.now
    is c.clear.ensures c.as_bytes.ensures plays (c.in-Ok.ensures.heard start) in
    c.gets_all.ensures.part (sends (call_in said) ∷ played.past) first (since_line start by played said) line.each line.spelled
    (subst (λ l. IsTold first (g.K.Sink.written c.args.sink.now) l (lines_of played.past)) (sym c.in_ok-sends.ensures.gathered) told)

pub returns-clause-within : goal.returns-clause-within
returns-clause-within g c = λ low most call at up within.
    c.gets_all.ensures.within (last_of low call) (most + one_of call) (c.in_ok-sends.ensures.within low most call at up within)

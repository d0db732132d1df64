use Rattle.std.proofs.Common.{◌∙◌}
use Rattle.host_io.specs.Streams.{AppendsPart}
use Rattle.vfs_journal.specs.Session.{drained}
use Rattle.script_session.specs.Transcript.{lines_of, text_of}
use Rattle.script_session.specs.Playing.{drain_played, frames_since}
use Rattle.script_session.proofs.Answered.{any_err, front_grows_on, part_grows}
use Rattle.script_session.proofs.Played.{counts_behind, drain_grows, frames_make_none}
use Rattle.script_session.proofs.ReadBack.{came}
use Rattle.script_session.proofs.playing.Player.end.Goals as goal

pub returns-in_default-clause-part : goal.returns-in_default-clause-part
returns-in_default-clause-part g c = λ start played first plays count told.
    let now = g.K.Sink.written c.args.sink.now in
    front_grows_on first now c.args.self.now.scribe.gathered (lines_of played.past) (text_of (drain_played start played)) (drain_grows start played) told

pub returns-in_err-gets_all-clause-part : goal.returns-in_err-gets_all-clause-part
returns-in_err-gets_all-clause-part g c = λ start played first plays count told.
    let back = came start played (drained start played.journal) c.args.self.now.world c.drain.new.self c.args.self.now.scribe.calls
    c.clear.new.self c.drain.new.outbox c.as_bytes.result.now c.clear.ensures c.as_bytes.ensures plays (c.in-Ok.ensures.drained start played.journal plays.stands) in
    let past = drain_played start played in
    any_err c.from_residual.result (AppendsPart first (g.K.Sink.written c.gets_all.new.sink) (text_of past))
    (part_grows first (g.K.Sink.written c.gets_all.new.sink) (lines_of past) (text_of past) (counts_behind past)
    (c.in_err-gets_all.ensures.part played.past first (frames_since start played.journal (drained start played.journal)) back.each back.spelled told))

pub finish-requires : goal.finish-requires
finish-requires g c = (c.in_ok-gets_all.ensures.within c.requires.0 c.args.calls c.requires.1).few

pub returns-clause-whole : goal.returns-clause-whole
returns-clause-whole g c = λ start played first plays count told.
    let back = came start played (drained start played.journal) c.args.self.now.world c.drain.new.self c.args.self.now.scribe.calls
    c.clear.new.self c.drain.new.outbox c.as_bytes.result.now c.clear.ensures c.as_bytes.ensures plays (c.in-Ok.ensures.drained start played.journal plays.stands) in
    let since = frames_since start played.journal (drained start played.journal) in
    c.finish.ensures.whole (drain_played start played) first (c.in_ok-gets_all.ensures.knows played.past since back.each back.spelled plays.knows)
    (frames_make_none played.past since ∙ count) (c.in_ok-gets_all.ensures.told played.past first since back.each back.spelled told)

pub returns-clause-part : goal.returns-clause-part
returns-clause-part g c = λ start played first plays count told.
    let back = came start played (drained start played.journal) c.args.self.now.world c.drain.new.self c.args.self.now.scribe.calls
    c.clear.new.self c.drain.new.outbox c.as_bytes.result.now c.clear.ensures c.as_bytes.ensures plays (c.in-Ok.ensures.drained start played.journal plays.stands) in
    let since = frames_since start played.journal (drained start played.journal) in
    c.finish.ensures.part (drain_played start played) first (c.in_ok-gets_all.ensures.knows played.past since back.each back.spelled plays.knows)
    (frames_make_none played.past since ∙ count) (c.in_ok-gets_all.ensures.told played.past first since back.each back.spelled told)

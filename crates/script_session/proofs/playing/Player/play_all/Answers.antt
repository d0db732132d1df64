use Rattle.std.proofs.Common.{refl, subst}
use Rattle.std.specs.Io.KnownBytes.{Appends}
use Rattle.host_io.specs.Streams.{AppendsPart}
use Rattle.vfs_script.specs.Scripts.{script_lines}
use Rattle.script_session.specs.Transcript.{lines_of, text_of}
use Rattle.script_session.specs.Playing.{drain_played, play_lines, transcript}
use Rattle.script_session.proofs.Answered.{any_err, on_err, on_ok, part_grows}
use Rattle.script_session.proofs.Whole.{calls_counted, lines_begin, text_is}
use Rattle.script_session.proofs.playing.Player.play_all.Goals as goal

pub returns-in_err-play_lines-clause-part : goal.returns-in_err-play_lines-clause-part
returns-in_err-play_lines-clause-part g c = λ start text first is plays told.
    let by = c.args.self.now.mode in
    let now = g.K.Sink.written c.play_lines.new.sink in
    any_err c.from_residual.result (AppendsPart first now (transcript start by text))
    (part_grows first now (lines_of (play_lines start by (script_lines text)).past) (transcript start by text) (lines_begin start by by text refl)
    (c.in_err-play_lines.ensures.part start text first is plays told))

pub returns-clause-whole : goal.returns-clause-whole
returns-clause-whole g c = λ start text first is plays told.
    let by = c.args.self.now.mode in
    let now = g.K.Sink.written c.end.new.sink in
    let played = play_lines start by (script_lines text) in
    on_ok c.end.result (Appends first now (text_of (drain_played start played))) (Appends first now (transcript start by text))
    (λ all. subst (Appends first now) (text_is start by by text refl) all)
    (c.end.ensures.whole start played first (c.in_ok-play_lines.ensures.plays start text is plays)
    (calls_counted start by text c.args.script.now c.calls.result is c.calls.ensures) (c.in_ok-play_lines.ensures.told start text first is plays told))

pub returns-clause-part : goal.returns-clause-part
returns-clause-part g c = λ start text first is plays told.
    let by = c.args.self.now.mode in
    let now = g.K.Sink.written c.end.new.sink in
    let played = play_lines start by (script_lines text) in
    on_err c.end.result (AppendsPart first now (text_of (drain_played start played))) (AppendsPart first now (transcript start by text))
    (λ part. subst (AppendsPart first now) (text_is start by by text refl) part)
    (c.end.ensures.part start played first (c.in_ok-play_lines.ensures.plays start text is plays)
    (calls_counted start by text c.args.script.now c.calls.result is c.calls.ensures) (c.in_ok-play_lines.ensures.told start text first is plays told))

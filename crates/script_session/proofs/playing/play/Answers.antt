use Rattle.std.proofs.Common.{rules, ◌∙◌, subst}
use Rattle.std.specs.Io.KnownBytes.{Appends}
use Rattle.link_frames.specs.declared.kinds.Mode.{Mode}
use Rattle.host_io.specs.Streams.{AppendsPart}
use Rattle.vfs_journal.specs.Starts.{start_of}
use Rattle.script_session.specs.Playing.{transcript}
use Rattle.script_session.proofs.Answered.{on_err, on_ok}
use Rattle.script_session.proofs.Whole.{plays_first, told_first}
use Rattle.script_session.proofs.Stages.{fits_bytes, may_go}
use Rattle.script_session.proofs.playing.play.Goals as goal

pub returns-clause-whole : goal.returns-clause-whole
returns-clause-whole g c = λ text is.
    let start = start_of c.args.start.now in
    let player = c.in_ok-player.player in
    let written = g.K.Sink.written c.args.sink.now in
    let now = g.K.Sink.written c.play_all.new.sink in
    let plays = plays_first start player.world player.scribe c.args.ordinals.distinct c.in_ok-player.ensures.stands c.in_ok-player.ensures.scribe in
    on_ok c.play_all.result (Appends written now (transcript start player.mode text)) (Appends written now (transcript start c.args.script.now.mode text))
    (λ all. subst (λ (by : Mode). Appends written now (transcript start by text)) (c.in_ok-player.ensures.mode ∙ c.mode.ensures) all)
    (c.play_all.ensures.whole start text written is plays (told_first written player.scribe c.in_ok-player.ensures.scribe))

pub returns-clause-part : goal.returns-clause-part
returns-clause-part g c = λ text is.
    let start = start_of c.args.start.now in
    let player = c.in_ok-player.player in
    let written = g.K.Sink.written c.args.sink.now in
    let now = g.K.Sink.written c.play_all.new.sink in
    let plays = plays_first start player.world player.scribe c.args.ordinals.distinct c.in_ok-player.ensures.stands c.in_ok-player.ensures.scribe in
    on_err c.play_all.result (AppendsPart written now (transcript start player.mode text)) (AppendsPart written now (transcript start c.args.script.now.mode text))
    (λ part. subst (λ (by : Mode). AppendsPart written now (transcript start by text)) (c.in_ok-player.ensures.mode ∙ c.mode.ensures) part)
    (c.play_all.ensures.part start text written is plays (told_first written player.scribe c.in_ok-player.ensures.scribe))

pub returns-in_err-player-clause-sent : goal.returns-in_err-player-clause-sent
returns-in_err-player-clause-sent g c = λ text is. may_go text c.args.script.now c.frames-bytes.result.now is c.frames-bytes.ensures (fits_bytes c.frames-bytes.result.now (search rules))

pub returns-clause-sent : goal.returns-clause-sent
returns-clause-sent g c = λ text is. may_go text c.args.script.now c.frames-bytes.result.now is c.frames-bytes.ensures (fits_bytes c.frames-bytes.result.now (search rules))

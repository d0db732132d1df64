use Rattle.std.proofs.Common.{◌<◌, ◌≤◌, ◌+◌, List, length, drop, refl, sym, ap, ◌∙◌, subst, arith}
use Rattle.std.specs.Prelude.{slice_get}
use Rattle.link_frames.specs.Views.{frame_of}
use Rattle.link_frames.specs.declared.kinds.Mode.{Mode}
use Rattle.host_io.specs.Streams.{AppendsPart}
use Rattle.vfs_script.specs.Scripts.{Spoken, call_in, count_calls, script_lines}
use Rattle.script_session.specs.Telling.{IsTold}
use Rattle.script_session.specs.Transcript.{lines_of}
use Rattle.script_session.specs.Playing.{play_line, play_lines}
use Rattle.script_session.specs.Steps.{Plays}
use Rattle.script_session.proofs.Answered.{any_err, part_grows}
use Rattle.script_session.proofs.Stages.{Behind, Stage, all_done, at_first, call_is, fits_bytes, lines_many, next_frame, next_free, next_grows, next_line, next_over, one_behind, one_in_front, one_played, rest_is, rest_parts, text_begins}
use Rattle.script_session.proofs.playing.Player.play_lines.Goals as goal

pub loop-i-init : goal.loop-i-init
loop-i-init g c =
    let now = c.args.self.now in
    let written = g.K.Sink.written c.args.sink.now in (
      λ text is.
          text_begins text c.args.script.now c.args.bytes.now now.scribe.calls is c.requires.bytes (fits_bytes c.args.bytes.now c.type_inv.bytes)
          c.requires.client
          (Behind now.mode now.world now.scribe.calls now.scribe.gathered written now.world now.scribe.calls now.scribe.gathered written)
          (at_first now.mode now.world now.scribe.calls now.scribe.gathered written),
      c.requires.frames,
      refl,
      omega arith,
    )

pub unreachable-requires : goal.unreachable-requires
unreachable-requires g c =
    let text = c.requires.script.0 in
    let is = c.requires.script.1 in
    let all = script_lines text in
    let count = count_calls c.args.script.now.calls in
    let stage = c.loop-i.invariant.0 text is in
    let more : c.loop-i.i < length all = let many = lines_many text c.args.script.now is in omega (arith, many, c.loop-i-test.true, c.len-i-end.ensures) in
    let next = next_line all count c.loop-i.i c.loop-i.rest.now c.loop-i.self.scribe.calls _ stage more in
    one_in_front all count c.loop-i.i c.loop-i.rest.now c.loop-i.self.scribe.calls _ stage next c.frame_at.result c.frame_at.ensures c.in_default.not-Whole

pub play_line-requires-clause-free : goal.play_line-requires-clause-free
play_line-requires-clause-free g c =
    let text = c.requires.script.0 in
    let is = c.requires.script.1 in
    let all = script_lines text in
    let count = count_calls c.args.script.now.calls in
    let stage = c.loop-i.invariant.0 text is in
    let more : c.loop-i.i < length all = let many = lines_many text c.args.script.now is in omega (arith, many, c.loop-i-test.true, c.len-i-end.ensures) in
    let next = next_line all count c.loop-i.i c.loop-i.rest.now c.loop-i.self.scribe.calls _ stage more in
    next_free all count c.loop-i.i c.loop-i.rest.now c.loop-i.self.scribe.calls _ stage next (slice_get c.args.script.now.calls c.loop-i.i)
    (call_is all count c.loop-i.i c.loop-i.rest.now c.loop-i.self.scribe.calls _ stage next c.args.script.now.calls is.calls)

pub returns-in_err-play_line-clause-part : goal.returns-in_err-play_line-clause-part
returns-in_err-play_line-clause-part g c = λ start text first is plays told.
    let by = c.args.self.now.mode in
    let all = script_lines text in
    let count = count_calls c.args.script.now.calls in
    let stage = c.loop-i.invariant.0 text is in
    let more : c.loop-i.i < length all = let many = lines_many text c.args.script.now is in omega (arith, many, c.loop-i-test.true, c.len-i-end.ensures) in
    let next = next_line all count c.loop-i.i c.loop-i.rest.now c.loop-i.self.scribe.calls _ stage more in
    let at = call_is all count c.loop-i.i c.loop-i.rest.now c.loop-i.self.scribe.calls _ stage next c.args.script.now.calls is.calls in
    let front = next_frame all count c.loop-i.i c.loop-i.rest.now c.loop-i.self.scribe.calls _ stage next (frame_of c.in-Whole.frame) c.in-Whole.size c.in-Whole.ensures in
    let now = g.K.Sink.written c.play_line.new.sink in
    let played = play_lines start by stage.done in
    any_err c.from_residual.result (AppendsPart first now (lines_of (play_lines start by all).past))
    (part_grows first now (lines_of (play_line start by played next.said).past) (lines_of (play_lines start by all).past)
    (next_grows start by all stage.done next.later next.said (rest_parts all count c.loop-i.i c.loop-i.rest.now c.loop-i.self.scribe.calls _ stage next))
    (subst (λ (m : Mode). AppendsPart first now (lines_of (play_line start m played next.said).past)) c.loop-i.invariant.2
    (c.in_err-play_line.ensures.part start played next.said first (stage.holds.plays start plays) front.0 at (stage.holds.told start first plays told))))

pub loop-i-preserved : goal.loop-i-preserved
loop-i-preserved g c =
    let by = c.args.self.now.mode in
    let old = c.args.self.now in
    let before = g.K.Sink.written c.args.sink.now in
    let mid = c.loop-i.self in
    let sunk = g.K.Sink.written c.loop-i.sink in
    let new = c.play_line.new.self in
    let now = g.K.Sink.written c.play_line.new.sink in
    let count = count_calls c.args.script.now.calls in
    let rest = c.loop-i.rest.now in
    let Holds : List Spoken → Type 0 = Behind by old.world old.scribe.calls old.scribe.gathered before mid.world mid.scribe.calls mid.scribe.gathered sunk in
    let Holds' : List Spoken → Type 0 = Behind by old.world old.scribe.calls old.scribe.gathered before new.world new.scribe.calls new.scribe.gathered now in (
      λ text is.
          let all = script_lines text in
          let stage : Stage all count c.loop-i.i rest mid.scribe.calls Holds = c.loop-i.invariant.0 text is in
          let more : c.loop-i.i < length all = let many = lines_many text c.args.script.now is in omega (arith, many, c.loop-i-test.true, c.len-i-end.ensures) in
          let next = next_line all count c.loop-i.i rest mid.scribe.calls Holds stage more in
          let at = call_is all count c.loop-i.i rest mid.scribe.calls Holds stage next c.args.script.now.calls is.calls in
          let front = next_frame all count c.loop-i.i rest mid.scribe.calls Holds stage next (frame_of c.in-Whole.frame) c.in-Whole.size c.in-Whole.ensures in
          subst (λ b. Stage all count (c.loop-i.i + 1) b new.scribe.calls Holds') (sym (rest_is c.in-Whole.size rest))
          (one_played all count c.loop-i.i rest mid.scribe.calls Holds stage next (drop c.in-Whole.size rest) new.scribe.calls front.1
          (c.in_ok-play_line.ensures.within stage.low stage.most (call_in next.said) at (next_over all count c.loop-i.i rest mid.scribe.calls Holds stage next) stage.within)
          Holds'
          (one_behind by old.world old.scribe.calls old.scribe.gathered before mid.world mid.scribe.calls mid.scribe.gathered sunk new.world new.scribe.calls new.scribe.gathered now next.said
          (λ start played p. subst (λ (m : Mode). Plays start (play_line start m played next.said) new.world new.scribe.calls) c.loop-i.invariant.2 (c.in_ok-play_line.ensures.plays start played next.said p front.0 at))
          (λ start played first p t.
          subst (λ (m : Mode). IsTold first now new.scribe.gathered (lines_of (play_line start m played next.said).past)) c.loop-i.invariant.2 (c.in_ok-play_line.ensures.told start played next.said first p front.0 at t)))),
      c.in_ok-play_line.ensures.frames ∙ ap (λ n. n + 1) c.loop-i.invariant.1,
      c.play_line.ensures.mode ∙ c.loop-i.invariant.2,
      c.in_ok-play_line.ensures.cause.stays ∙ c.loop-i.invariant.3,
    )

pub returns-clause-told : goal.returns-clause-told
returns-clause-told g c = λ start text first is plays told.
    let by = c.args.self.now.mode in
    let all = script_lines text in
    let stage = c.loop-i.invariant.0 text is in
    let past : length all ≤ c.loop-i.i = let many = lines_many text c.args.script.now is in omega (arith, many, c.loop-i-test.false, c.len-i-end.ensures) in
    let done = all_done all (count_calls c.args.script.now.calls) c.loop-i.i c.loop-i.rest.now c.loop-i.self.scribe.calls _ stage past in
    subst (λ l. IsTold first (g.K.Sink.written c.loop-i.sink) c.loop-i.self.scribe.gathered (lines_of (play_lines start by l).past)) (sym done) (stage.holds.told start first plays told)

use Rattle.std.proofs.Common.{List, ℕ, ◌≡◌, ◌∷◌, ◌++◌, sym, ap, ◌∙◌, subst, arith}
use Rattle.std.specs.Prelude.{All}
use Rattle.link_frames.specs.Frames.{Frame, IsFrame, spellings}
use Rattle.link_frames.specs.declared.kinds.Side.TheVariants as side
use Rattle.script_session.specs.Answering.{gets}
use Rattle.script_session.specs.Telling.{IsWithin, Knows}
use Rattle.link_frames.specs.Views.{frame_of}
use Rattle.std.proofs.lemmas.Result.{err_from_is_err_and}
use Rattle.host_io.specs.Causes.{Rose}
use Rattle.host_io.specs.Streams.{AppendsPart}
use Rattle.script_session.specs.Transcript.{lines_of, with_frames}
use Rattle.script_session.proofs.Scribing.{Split, Stage, all_done, any_err, read_more, rest_is, stage_more, stopped_at, stopped_behind}
use Rattle.script_session.proofs.scribe.Scribe.gets_all.Goals as goal

pub returns-in_err-gets-clause-cause : goal.returns-in_err-gets-clause-cause
returns-in_err-gets-clause-cause g c =
    let p = err_from_is_err_and c.from_residual.result c.from_residual.ensures.1 in
    rw (p.1, p.2) (record { later = omega (arith, c.loop-frame.invariant.2); stays = c.loop-frame.invariant.2; failed = tt })

pub returns-in_err-gets-clause-part : goal.returns-in_err-gets-clause-part
returns-in_err-gets-clause-part g c = λ past first all are is told.
    any_err c.from_residual.result (AppendsPart first (g.K.Sink.written c.loop-frame.sink) (lines_of (with_frames past all)))
    (stopped_at c.args.self.now.calls c.args.self.now.gathered (g.K.Sink.written c.args.sink.now) c.loop-frame.self.calls c.loop-frame.self.gathered
    (g.K.Sink.written c.loop-frame.sink) all c.loop-frame.rest.now (c.loop-frame.invariant.0 all are is) past first told)

pub returns-in_err-make_room-clause-cause : goal.returns-in_err-make_room-clause-cause
returns-in_err-make_room-clause-cause g c =
    let p = err_from_is_err_and c.from_residual-in_err-make_room.result c.from_residual-in_err-make_room.ensures.1 in
    let cause = c.in_err-make_room.ensures.cause in
    rw (p.1, p.2)
    (record {
      later = omega (arith, c.loop-frame.invariant.2, cause.later);
      stays = tt;
      failed = subst (λ before. Rose before (g.K.Sink.faults c.make_room.new.sink)) c.loop-frame.invariant.2 cause.failed;
    })

pub returns-in_err-make_room-clause-part : goal.returns-in_err-make_room-clause-part
returns-in_err-make_room-clause-part g c = λ past first all are is told.
    any_err c.from_residual-in_err-make_room.result (AppendsPart first (g.K.Sink.written c.make_room.new.sink) (lines_of (with_frames past all)))
    (stopped_behind c.args.self.now.calls c.args.self.now.gathered (g.K.Sink.written c.args.sink.now) c.loop-frame.self.calls c.loop-frame.self.gathered
    c.gets.new.self.gathered (g.K.Sink.written c.loop-frame.sink) (g.K.Sink.written c.make_room.new.sink) all c.loop-frame.rest.now (frame_of c.in-Whole.frame) c.in-Whole.size
    are c.in-Whole.ensures c.in_ok-gets.ensures.line c.in_err-make_room.ensures.part (c.loop-frame.invariant.0 all are is) past first told)

pub loop-frame-preserved : goal.loop-frame-preserved
loop-frame-preserved g c =
    let written = g.K.Sink.written c.args.sink.now in
    let sunk = g.K.Sink.written c.loop-frame.sink in
    let now = g.K.Sink.written c.make_room.new.sink in
    let f = frame_of c.in-Whole.frame in
    let rest = c.loop-frame.rest.now in
    let calls = c.args.self.now.calls in
    let gathered = c.args.self.now.gathered in
    let same = c.in_ok-make_room.ensures.calls in (
      λ all are is.
          subst (λ b. Split all b (Stage calls gathered written c.make_room.new.self.calls c.make_room.new.self.gathered now)) (sym (rest_is c.in-Whole.size rest))
          (read_more all rest f c.in-Whole.size (Stage calls gathered written c.loop-frame.self.calls c.loop-frame.self.gathered sunk)
          (Stage calls gathered written c.make_room.new.self.calls c.make_room.new.self.gathered now) are c.in-Whole.ensures
          (stage_more calls gathered written c.loop-frame.self.calls c.loop-frame.self.gathered sunk f c.make_room.new.self.calls c.gets.new.self.gathered c.make_room.new.self.gathered now
          (λ past k. subst (Knows (gets f ∷ past)) (sym same) (c.in_ok-gets.ensures.knows past k)) c.in_ok-gets.ensures.line c.in_ok-make_room.ensures.told)
          (c.loop-frame.invariant.0 all are is)),
      λ low most within. subst (IsWithin low most) (sym same) (c.in_ok-gets.ensures.within low most (c.loop-frame.invariant.1 low most within)),
      c.in_ok-make_room.ensures.cause.stays ∙ c.loop-frame.invariant.2,
    )

pub returns : goal.returns
returns g c =
    let end : (all : List Frame) → All (IsFrame side.Any) all → c.args.frames.now ≡ spellings all →
    Stage c.args.self.now.calls c.args.self.now.gathered (g.K.Sink.written c.args.sink.now) c.loop-frame.self.calls c.loop-frame.self.gathered (g.K.Sink.written c.loop-frame.sink) all =
    λ all are is.
    all_done all c.loop-frame.rest.now c.frame_at.result
    (Stage c.args.self.now.calls c.args.self.now.gathered (g.K.Sink.written c.args.sink.now) c.loop-frame.self.calls c.loop-frame.self.gathered (g.K.Sink.written c.loop-frame.sink))
    are c.frame_at.ensures c.in_default.not-Whole (c.loop-frame.invariant.0 all are is) in
    record {
      knows = λ past all are is k. (end all are is).knows past k;
      told = λ past first all are is t. (end all are is).told past first t;
      part = λ past first all are is t. tt;
      within = c.loop-frame.invariant.1;
      cause = record { later = omega (arith, c.loop-frame.invariant.2); stays = c.loop-frame.invariant.2; failed = tt };
    }

use Rattle.std.proofs.Common.{arith, [], ◌+◌, ◌++◌, length, drop, length-drop, length-append, ap, refl}
use Rattle.std.proofs.lemmas.List.{take_rest}
use Rattle.std.proofs.KnownBytes.{Appends-nil}
use Rattle.link_frames.specs.Frames.{spelling}
use Rattle.link_frames.specs.Views.{IsWholeFront, frame_of}
use Rattle.link_session.proofs.Progress.{heard_part}
use Rattle.link_session.proofs.ServingLemmas.{Heard-none, Heard-pass, Heard-more, Heard-stands, spelling_long}
use Rattle.link_session.proofs.sessions.serve.Goals as goal

pub loop-frame-init : goal.loop-frame-init
loop-frame-init g c = record {
  heard = λ course before behind. Heard-none g.H.Session.side course (g.H.Session.stands c.args.session.now course) before c.args.bytes.now _ _ c.requires.empty behind;
  ready = c.requires.ready;
  room = omega (arith, ap length c.requires.empty);
  few = omega arith;
  bound = omega arith;
  unflushed = refl;
  stays = refl;
}

pub loop-frame-preserved : goal.loop-frame-preserved
loop-frame-preserved g c =
    let at = c.loop-frame.at in
    let bytes = c.args.bytes.now in
    let frame = frame_of c.in-Whole.frame in
    let size = c.in-Whole.size in
    let front : IsWholeFront g.H.Session.side (drop at bytes) frame size = rw (take_rest, c.side.ensures) at c.in-Whole.ensures in
    record {
      heard = λ course before behind.
          let heard = c.loop-frame.invariant.heard course before behind in
          let one = c.in_default.ensures.heard course (before ++ heard.frames) heard.stands in
          let more = Heard-more g.H.Session.side course (g.H.Session.stands c.loop-frame.session course) (g.H.Session.stands c.hear.new.self course) before bytes _ _ _ _ at size frame heard front one in
          let passed = Heard-pass g.H.Session.side course (g.H.Session.stands c.hear.new.self course) before bytes _ _ _ _ _ (at + size) more c.in_default-make_room.ensures.passed in
          Heard-stands g.H.Session.side course (g.H.Session.stands c.hear.new.self course) (g.H.Session.stands c.make_room.new.session course) before bytes _ _ _ (at + size) passed
          (c.make_room.ensures.stands course (before ++ passed.frames) passed.stands);
      ready = c.make_room.ensures.ready c.in_default.ensures.ready;
      room = c.in_default-make_room.ensures.bounded;
      few = omega (arith, c.make_room.ensures.count, c.in_default.ensures.count, c.loop-frame.invariant.few, ap length front.split, front.size, length-append (spelling frame) (drop size (drop at bytes)), spelling_long frame);
      bound = omega (arith, ap length front.split, length-append (spelling frame) (drop size (drop at bytes)), front.size, length-drop at bytes, c.loop-frame.invariant.bound);
      unflushed = omega (arith, c.loop-frame.invariant.unflushed, c.make_room.ensures.unflushed);
      stays = omega (arith, c.loop-frame.invariant.stays, c.in_default-make_room.ensures.cause.stays);
    }

pub returns-in-Err-clause-starved : goal.returns-in-Err-clause-starved
returns-in-Err-clause-starved g c = λ course before behind.
    let heard = c.loop-frame.invariant.heard course before behind in (
      c.in-Err.ensures.memory course (before ++ heard.frames) heard.stands,
      heard_part g.H.Session.side course (g.H.Session.stands c.loop-frame.session course) before c.args.bytes.now _ _ _ (g.H.Session.holds c.loop-frame.session) c.loop-frame.at
          heard ([], g.H.Session.holds c.loop-frame.session, refl, Appends-nil (g.K.Sink.written c.loop-frame.sink)),
    )

pub returns-in-Err-make_room-clause-served : goal.returns-in-Err-make_room-clause-served
returns-in-Err-make_room-clause-served g c = λ course before behind.
    let at = c.loop-frame.at in
    let bytes = c.args.bytes.now in
    let frame = frame_of c.in-Whole.frame in
    let size = c.in-Whole.size in
    let front : IsWholeFront g.H.Session.side (drop at bytes) frame size = rw (take_rest, c.side.ensures) at c.in-Whole.ensures in
    let heard = c.loop-frame.invariant.heard course before behind in
    let one = c.in_default.ensures.heard course (before ++ heard.frames) heard.stands in
    heard_part g.H.Session.side course (g.H.Session.stands c.hear.new.self course) before bytes _ _ _ (g.H.Session.holds c.hear.new.self) (at + size)
    (Heard-more g.H.Session.side course (g.H.Session.stands c.loop-frame.session course) (g.H.Session.stands c.hear.new.self course) before bytes _ _ _ _ at size frame heard front one)
    c.in-Err-make_room.ensures.part

use Rattle.std.proofs.Common.{arith, ◌≡◌, ◌≤◌, ◌+◌, ◌-◌, min, refl, sym, ap, ◌∙◌, subst, length, drop, length-drop, length-append, ◌++◌, inl, inr}
use Rattle.fidl_names.specs.declared.limits.TheConstants as limit
use Rattle.link_frames.specs.Frames.{IsPartial}
use Rattle.link_frames.proofs.Streams.{partial_short}
use Rattle.run_status.specs.Outside.{Streams, streams_told}
use Rattle.link_session.proofs.Progress.{Grown-partial, Progress-none, Progress-heard, Progress-ended, Progress-passed, Progress-kept, Progress-stands, heard_part}
use Rattle.link_session.proofs.SessionEnds.{rose_since, unheard, ended_whole, ended_inside, long, bad}
use Rattle.link_session.proofs.sessions.run.Goals as goal

pub loop-now-init : goal.loop-now-init
loop-now-init g c = record {
  progress = λ course grows behind.
      Progress-none g.H.Session.side course (g.H.Session.stands c.args.session.now course) _ _ _ grows.none behind c.requires.input;
  partial = subst (IsPartial g.H.Session.side) (sym c.requires.input) (inl (omega arith));
  counted = omega (arith, c.requires.count, ap length c.requires.input);
  bound = omega arith;
  ready = c.requires.ready;
  empty = c.requires.empty;
  flushed = inl (refl, refl);
  read_faults = refl;
  write_faults = refl;
}

pub next_piece-requires-clause-room : goal.next_piece-requires-clause-room
next_piece-requires-clause-room g c = partial_short g.H.Session.side c.loop-now.input c.loop-now.invariant.partial

pub returns-in-Err-Whole : goal.returns-in-Err-Whole
returns-in-Err-Whole g c = λ course grows behind.
    let how = rw c.in-Err-Whole.field-0-is at c.in-Err-Whole.ensures.ended in
    let before : Streams = streams_told g.S.Source.left g.S.Source.last g.S.Source.faults g.K.Sink.written g.K.Sink.flushed g.K.Sink.faults c.args.source.now c.args.sink.now in
    let after : Streams = streams_told g.S.Source.left g.S.Source.last g.S.Source.faults g.K.Sink.written g.K.Sink.flushed g.K.Sink.faults c.next_piece.new.source c.finish.new.sink in
    let progress = Progress-ended g.H.Session.side course (g.H.Session.stands c.loop-now.session course) _ _ _ _ _ _ _ _ _
    (c.loop-now.invariant.progress course grows behind) how.0.piece refl in
    let finished = rw c.loop-now.invariant.empty at (c.finish.ensures.finished course progress.frames progress.stands) in
    let source : after.read_faults ≡ before.read_faults = how.0.calm ∙ c.loop-now.invariant.read_faults in
    let passed = Progress-passed g.H.Session.side course (g.H.Session.stands c.loop-now.session course) _ _ _ _ _ _ _ _ after.flushed progress
    c.loop-now.invariant.flushed c.finish.ensures.flushed in
    ended_whole g.H.Session.side course grows (g.H.Session.stands c.loop-now.session course) before after (c.finish.new.sink ≡ c.args.sink.now) source _ _ _ _
    how.1 progress how.0.few (how.0.piece.4 refl) passed c.loop-now.invariant.write_faults c.finish.result finished

pub returns-in-Err-Inside : goal.returns-in-Err-Inside
returns-in-Err-Inside g c = λ course grows behind.
    let how = rw c.in-Err-Inside.field-0-is at c.in-Err-Inside.ensures.ended in
    let before : Streams = streams_told g.S.Source.left g.S.Source.last g.S.Source.faults g.K.Sink.written g.K.Sink.flushed g.K.Sink.faults c.args.source.now c.args.sink.now in
    let after : Streams = streams_told g.S.Source.left g.S.Source.last g.S.Source.faults g.K.Sink.written g.K.Sink.flushed g.K.Sink.faults c.next_piece.new.source c.finish-in-Err-Inside.new.sink in
    let progress = Progress-ended g.H.Session.side course (g.H.Session.stands c.loop-now.session course) _ _ _ _ _ _ _ _ _
    (c.loop-now.invariant.progress course grows behind) how.0.piece refl in
    let finished = rw c.loop-now.invariant.empty at (c.finish-in-Err-Inside.ensures.finished course progress.frames progress.stands) in
    let source : after.read_faults ≡ before.read_faults = how.0.calm ∙ c.loop-now.invariant.read_faults in
    let passed = Progress-passed g.H.Session.side course (g.H.Session.stands c.loop-now.session course) _ _ _ _ _ _ _ _ after.flushed progress
    c.loop-now.invariant.flushed c.finish-in-Err-Inside.ensures.flushed in
    ended_inside g.H.Session.side course grows (g.H.Session.stands c.loop-now.session course) before after (c.finish-in-Err-Inside.new.sink ≡ c.args.sink.now) source _ _ _ _ c.in-Err-Inside.at
    how.1 how.2 progress how.0.few (how.0.piece.4 refl) passed c.loop-now.invariant.write_faults c.finish-in-Err-Inside.result finished

pub returns-in-Err-TooLong : goal.returns-in-Err-TooLong
returns-in-Err-TooLong g c = λ course grows behind.
    let how = rw c.in-Err-TooLong.field-0-is at c.in-Err-TooLong.ensures.ended in
    let before : Streams = streams_told g.S.Source.left g.S.Source.last g.S.Source.faults g.K.Sink.written g.K.Sink.flushed g.K.Sink.faults c.args.source.now c.args.sink.now in
    let after : Streams = streams_told g.S.Source.left g.S.Source.last g.S.Source.faults g.K.Sink.written g.K.Sink.flushed g.K.Sink.faults c.next_piece.new.source c.finish-in-Err-TooLong.new.sink in
    let progress = Progress-kept g.H.Session.side course (g.H.Session.stands c.loop-now.session course) _ _ _ _ _ _ _ (c.loop-now.invariant.progress course grows behind) how.1 in
    let finished = rw c.loop-now.invariant.empty at (c.finish-in-Err-TooLong.ensures.finished course progress.frames progress.stands) in
    let source : after.read_faults ≡ before.read_faults = how.2 ∙ c.loop-now.invariant.read_faults in
    let passed = Progress-passed g.H.Session.side course (g.H.Session.stands c.loop-now.session course) _ _ _ _ _ _ _ _ after.flushed progress
    c.loop-now.invariant.flushed c.finish-in-Err-TooLong.ensures.flushed in
    long g.H.Session.side course grows (g.H.Session.stands c.loop-now.session course) before after (c.finish-in-Err-TooLong.new.sink ≡ c.args.sink.now)
    source _ _ _ _ progress how.0 passed c.loop-now.invariant.write_faults c.finish-in-Err-TooLong.result finished

pub returns-in-Err-pass_on : goal.returns-in-Err-pass_on
returns-in-Err-pass_on g c = λ course grows behind.
    let given : g.S.Source.last c.next_piece.new.source ≡ c.in-Ok.ensures.piece.size = c.in-Ok.ensures.piece.given in
    let last : c.in-Ok.ensures.piece.size ≤ min (g.S.Source.last c.next_piece.new.source) limit.MAX_PIECE = omega (arith, c.in-Ok.ensures.piece.few, c.in-Ok.ensures.piece.total, c.in-Ok.ensures.piece.within, given) in
    let within : c.loop-now.taken + c.in-Ok.ensures.piece.size ≤ limit.MAX_INPUT = omega (arith, c.in-Ok.ensures.piece.few, c.in-Ok.ensures.piece.total, c.in-Ok.ensures.piece.within) in
    let stayed : g.K.Sink.faults c.serve.new.sink ≡ g.K.Sink.faults c.loop-now.sink = rw c.in-Ok-Rest.field-0-is at c.in-Ok-Rest.ensures.cause in
    let before : Streams = streams_told g.S.Source.left g.S.Source.last g.S.Source.faults g.K.Sink.written g.K.Sink.flushed g.K.Sink.faults c.args.source.now c.args.sink.now in
    let after : Streams = streams_told g.S.Source.left g.S.Source.last g.S.Source.faults g.K.Sink.written g.K.Sink.flushed g.K.Sink.faults c.next_piece.new.source c.pass_on.new.sink in
    let progress = c.loop-now.invariant.progress course grows behind in
    let served = rw (c.in-Ok-Rest.field-0-is, c.bytes.ensures) at (c.in-Ok-Rest.ensures.served course progress.frames progress.stands) in
    let source : after.read_faults ≡ before.read_faults = c.in-Ok.ensures.piece.calm ∙ c.loop-now.invariant.read_faults in
    let flushed : g.K.Sink.flushed c.loop-now.sink ≤ g.K.Sink.flushed c.pass_on.new.sink = omega (arith, c.serve.ensures.unflushed, c.pass_on.ensures.flushed) in
    let passed = Progress-passed g.H.Session.side course (g.H.Session.stands c.loop-now.session course) _ _ _ _ _ _ _ _ after.flushed progress
    c.loop-now.invariant.flushed flushed in (
      unheard g.H.Session.side course grows (g.H.Session.stands c.loop-now.session course) before after (c.pass_on.new.sink ≡ c.args.sink.now) source _ _ _ _ _ _
          progress c.in-Ok.ensures.piece.piece last within passed
          (heard_part g.H.Session.side course (g.H.Session.stands c.serve.new.session course) progress.frames _ _ _ _ _ _ served.0 c.in-Err-pass_on.ensures.part),
      rose_since _ _ _ (stayed ∙ c.loop-now.invariant.write_faults) c.in-Err-pass_on.ensures.cause.failed,
    )

pub loop-now-preserved : goal.loop-now-preserved
loop-now-preserved g c =
    let leaves = rw (c.in-Ok-Rest.field-0-is, c.bytes.ensures) at c.in-Ok-Rest.ensures.leaves in
    let piece = c.in-Ok.ensures.piece.piece in
    let stayed : g.K.Sink.faults c.serve.new.sink ≡ g.K.Sink.faults c.loop-now.sink = rw c.in-Ok-Rest.field-0-is at c.in-Ok-Rest.ensures.cause in
    record {
      progress = λ course grows behind.
          let progress = c.loop-now.invariant.progress course grows behind in
          let served = rw (c.in-Ok-Rest.field-0-is, c.bytes.ensures) at (c.in-Ok-Rest.ensures.served course progress.frames progress.stands) in
          let grown = Progress-heard g.H.Session.side course (g.H.Session.stands c.loop-now.session course) (g.H.Session.stands c.serve.new.session course)
          _ _ _ _ _ _ _ _ _ _ _ _ progress c.in-Ok.ensures.piece.piece served.0 in
          let next = Grown-partial g.H.Session.side course (g.H.Session.stands c.serve.new.session course) _ _ _ _ _ _ _ _ grown served.1 c.in_default.ensures.whole.0 in
          rw (c.drop_front.ensures, c.in-Ok.ensures.piece.total)
          (Progress-stands g.H.Session.side course (g.H.Session.stands c.serve.new.session course) (g.H.Session.stands c.pass_on.new.session course) _ _ _ _ _ _ next
          (c.pass_on.ensures.stands course next.frames next.stands));
      partial = rw c.drop_front.ensures leaves.2;
      counted = omega (
        arith,
        leaves.0,
        leaves.1,
        c.pass_on.ensures.count,
        ap length c.drop_front.ensures,
        length-drop c.in-Ok-Rest.at c.next_piece.new.input,
        ap length piece.2,
        length-append c.loop-now.input piece.0,
        piece.3,
        c.loop-now.invariant.counted,
        c.in-Ok.ensures.piece.total,
      );
      bound = omega (arith, c.in-Ok.ensures.piece.few, c.in-Ok.ensures.piece.total, c.in-Ok.ensures.piece.within);
      ready = c.pass_on.ensures.ready c.in-Ok-Rest.ensures.ready;
      empty = c.in_default.ensures.empty;
      flushed = inr c.in_default.ensures.whole.1;
      read_faults = c.in-Ok.ensures.piece.calm ∙ c.loop-now.invariant.read_faults;
      write_faults = c.in_default.ensures.cause.stays ∙ stayed ∙ c.loop-now.invariant.write_faults;
    }

pub returns-in-Ok-Bad : goal.returns-in-Ok-Bad
returns-in-Ok-Bad g c = λ course grows behind.
    let given : g.S.Source.last c.next_piece.new.source ≡ c.in-Ok.ensures.piece.size = c.in-Ok.ensures.piece.given in
    let last : c.in-Ok.ensures.piece.size ≤ min (g.S.Source.last c.next_piece.new.source) limit.MAX_PIECE = omega (arith, c.in-Ok.ensures.piece.few, c.in-Ok.ensures.piece.total, c.in-Ok.ensures.piece.within, given) in
    let total : c.loop-now.taken + c.in-Ok.ensures.piece.size ≤ limit.MAX_INPUT = omega (arith, c.in-Ok.ensures.piece.few, c.in-Ok.ensures.piece.total, c.in-Ok.ensures.piece.within) in
    let stayed : g.K.Sink.faults c.serve.new.sink ≡ g.K.Sink.faults c.loop-now.sink = rw c.in-Ok-Bad.field-0-is at c.in-Ok-Bad.ensures.cause in
    let within = rw (c.in-Ok-Bad.field-0-is, c.bytes.ensures) at c.in-Ok-Bad.ensures.leaves in
    let piece = c.in-Ok.ensures.piece.piece in
    let place : c.in-Ok.now - (length c.bytes-in-Ok-Bad.result.now - c.in-Ok-Bad.at) + length (drop c.in-Ok-Bad.at c.next_piece.new.input) ≡ c.loop-now.taken + c.in-Ok.ensures.piece.size =
    omega (
      arith,
      within,
      ap length c.bytes-in-Ok-Bad.ensures,
      length-drop c.in-Ok-Bad.at c.next_piece.new.input,
      ap length piece.2,
      length-append c.loop-now.input piece.0,
      piece.3,
      c.loop-now.invariant.counted,
      c.in-Ok.ensures.piece.total,
    ) in
    let before : Streams = streams_told g.S.Source.left g.S.Source.last g.S.Source.faults g.K.Sink.written g.K.Sink.flushed g.K.Sink.faults c.args.source.now c.args.sink.now in
    let after : Streams = streams_told g.S.Source.left g.S.Source.last g.S.Source.faults g.K.Sink.written g.K.Sink.flushed g.K.Sink.faults c.next_piece.new.source c.finish-in-Ok-Bad.new.sink in
    let progress = c.loop-now.invariant.progress course grows behind in
    let served = rw (c.in-Ok-Bad.field-0-is, c.bytes.ensures) at (c.in-Ok-Bad.ensures.served course progress.frames progress.stands) in
    let source : after.read_faults ≡ before.read_faults = c.in-Ok.ensures.piece.calm ∙ c.loop-now.invariant.read_faults in
    let flushed : g.K.Sink.flushed c.loop-now.sink ≤ g.K.Sink.flushed c.finish-in-Ok-Bad.new.sink =
    omega (arith, c.serve.ensures.unflushed, c.finish-in-Ok-Bad.ensures.flushed) in
    let passed = Progress-passed g.H.Session.side course (g.H.Session.stands c.loop-now.session course) _ _ _ _ _ _ _ _ after.flushed progress
    c.loop-now.invariant.flushed flushed in
    bad g.H.Session.side course grows (g.H.Session.stands c.loop-now.session course) before after (c.finish-in-Ok-Bad.new.sink ≡ c.args.sink.now) source
    (g.H.Session.stands c.serve.new.session course) _ _ _ _ _ _ _ _ _ _ _ _ progress c.in-Ok.ensures.piece.piece last total passed
    (stayed ∙ c.loop-now.invariant.write_faults) served.0 served.1 place c.finish-in-Ok-Bad.result (c.finish-in-Ok-Bad.ensures.finished course (progress.frames ++ served.0.frames) served.0.stands)

pub returns-in-Ok-Failed : goal.returns-in-Ok-Failed
returns-in-Ok-Failed g c = λ course grows behind.
    let given : g.S.Source.last c.next_piece.new.source ≡ c.in-Ok.ensures.piece.size = c.in-Ok.ensures.piece.given in
    let last : c.in-Ok.ensures.piece.size ≤ min (g.S.Source.last c.next_piece.new.source) limit.MAX_PIECE = omega (arith, c.in-Ok.ensures.piece.few, c.in-Ok.ensures.piece.total, c.in-Ok.ensures.piece.within, given) in
    let within : c.loop-now.taken + c.in-Ok.ensures.piece.size ≤ limit.MAX_INPUT = omega (arith, c.in-Ok.ensures.piece.few, c.in-Ok.ensures.piece.total, c.in-Ok.ensures.piece.within) in
    let before : Streams = streams_told g.S.Source.left g.S.Source.last g.S.Source.faults g.K.Sink.written g.K.Sink.flushed g.K.Sink.faults c.args.source.now c.args.sink.now in
    let after : Streams = streams_told g.S.Source.left g.S.Source.last g.S.Source.faults g.K.Sink.written g.K.Sink.flushed g.K.Sink.faults c.next_piece.new.source c.serve.new.sink in
    let progress = c.loop-now.invariant.progress course grows behind in
    let served = rw (c.in-Ok-Failed.field-0-is, c.bytes.ensures) at (c.in-Ok-Failed.ensures.served course progress.frames progress.stands) in
    let rose = rw c.in-Ok-Failed.field-0-is at c.in-Ok-Failed.ensures.cause in
    let source : after.read_faults ≡ before.read_faults = c.in-Ok.ensures.piece.calm ∙ c.loop-now.invariant.read_faults in
    let flushed : g.K.Sink.flushed c.loop-now.sink ≤ g.K.Sink.flushed c.serve.new.sink = omega (arith, c.serve.ensures.unflushed) in
    let passed = Progress-passed g.H.Session.side course (g.H.Session.stands c.loop-now.session course) _ _ _ _ _ _ _ _ after.flushed progress
    c.loop-now.invariant.flushed flushed in (
      unheard g.H.Session.side course grows (g.H.Session.stands c.loop-now.session course) before after (c.serve.new.sink ≡ c.args.sink.now) source _ _ _ _ _ _
          progress c.in-Ok.ensures.piece.piece last within passed served,
      rose_since _ _ _ c.loop-now.invariant.write_faults rose,
    )

pub returns-in-Err : goal.returns-in-Err
returns-in-Err g c = λ course grows behind.
    let given : g.S.Source.last c.next_piece.new.source ≡ c.in-Ok.ensures.piece.size = c.in-Ok.ensures.piece.given in
    let last : c.in-Ok.ensures.piece.size ≤ min (g.S.Source.last c.next_piece.new.source) limit.MAX_PIECE = omega (arith, c.in-Ok.ensures.piece.few, c.in-Ok.ensures.piece.total, c.in-Ok.ensures.piece.within, given) in
    let within : c.loop-now.taken + c.in-Ok.ensures.piece.size ≤ limit.MAX_INPUT = omega (arith, c.in-Ok.ensures.piece.few, c.in-Ok.ensures.piece.total, c.in-Ok.ensures.piece.within) in
    let before : Streams = streams_told g.S.Source.left g.S.Source.last g.S.Source.faults g.K.Sink.written g.K.Sink.flushed g.K.Sink.faults c.args.source.now c.args.sink.now in
    let after : Streams = streams_told g.S.Source.left g.S.Source.last g.S.Source.faults g.K.Sink.written g.K.Sink.flushed g.K.Sink.faults c.next_piece.new.source c.serve.new.sink in
    let progress = c.loop-now.invariant.progress course grows behind in
    let part = rw c.bytes.ensures at (c.in-Err.ensures.starved course progress.frames progress.stands) in
    let source : after.read_faults ≡ before.read_faults = c.in-Ok.ensures.piece.calm ∙ c.loop-now.invariant.read_faults in
    let flushed : g.K.Sink.flushed c.loop-now.sink ≤ g.K.Sink.flushed c.serve.new.sink = omega (arith, c.serve.ensures.unflushed) in
    let passed = Progress-passed g.H.Session.side course (g.H.Session.stands c.loop-now.session course) _ _ _ _ _ _ _ _ after.flushed progress
    c.loop-now.invariant.flushed flushed in (
      part.0,
      unheard g.H.Session.side course grows (g.H.Session.stands c.loop-now.session course) before after (c.serve.new.sink ≡ c.args.sink.now) source _ _ _ _ _ _
          progress c.in-Ok.ensures.piece.piece last within passed part.1,
      c.in-Err.ensures.stays ∙ c.loop-now.invariant.write_faults,
    )

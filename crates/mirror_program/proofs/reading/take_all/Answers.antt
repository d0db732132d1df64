use Rattle.std.proofs.Common.{◌≤◌, ◌∙◌, refl, ap, sym, subst, arith, length, length-append, length-drop, inl}
use Rattle.link_frames.specs.Frames.{IsPartial}
use Rattle.link_frames.specs.declared.kinds.Side.TheVariants.{Any}
use Rattle.link_frames.proofs.Streams.{partial_short}
use Rattle.mirror_program.specs.declared.reading.Taken.TheVariants as taken
use Rattle.mirror_program.proofs.Progressing.{bad_events, bad_frame, heard_fits, read_nothing, reads_on, taking_of}
use Rattle.mirror_program.proofs.reading.take_all.Goals as goal

pub loop-now-init : goal.loop-now-init
loop-now-init g c = record {
  progress = read_nothing c.args.mirror.now.endpoint c.args.mirror.now (g.S.Source.left c.args.source.now) c.args.input.now c.requires.copy c.requires.input;
  endpoint = refl;
  partial = subst (IsPartial Any) (sym c.requires.input) (inl (omega arith));
  counted = omega (arith, ap length c.requires.input);
  bound = omega arith;
  read_faults = refl;
}

pub next_piece-requires-clause-room : goal.next_piece-requires-clause-room
next_piece-requires-clause-room g c = partial_short Any c.loop-now.input c.loop-now.invariant.partial

pub drop_front-requires : goal.drop_front-requires
drop_front-requires g c =
    let p = c.in-Ok.ensures.piece in
    let before = c.loop-now.invariant in
    let taking = taking_of c.loop-now.mirror.endpoint c.args.mirror.now.endpoint c.loop-now.mirror c.take_frames.new.mirror before.progress.frames c.next_piece.new.input (taken.Rest c.in-Rest.at) before.endpoint
    (rw c.bytes-in-loop-now.ensures at c.in-Rest.ensures) before.progress.stands in
    let counted : length c.next_piece.new.input ≤ c.in-Ok.now =
    omega (arith, ap length p.piece.2, length-append c.loop-now.input p.piece.0, p.piece.3, p.total, before.counted) in
    omega (arith, heard_fits c.args.mirror.now.endpoint c.take_frames.new.mirror before.progress.frames c.next_piece.new.input c.in-Rest.at taking.0)

pub loop-now-preserved : goal.loop-now-preserved
loop-now-preserved g c =
    let p = c.in-Ok.ensures.piece in
    let before = c.loop-now.invariant in
    let taking = taking_of c.loop-now.mirror.endpoint c.args.mirror.now.endpoint c.loop-now.mirror c.take_frames.new.mirror before.progress.frames c.next_piece.new.input (taken.Rest c.in-Rest.at) before.endpoint
    (rw c.bytes-in-loop-now.ensures at c.in-Rest.ensures) before.progress.stands in
    let counted : length c.next_piece.new.input ≤ c.in-Ok.now =
    omega (arith, ap length p.piece.2, length-append c.loop-now.input p.piece.0, p.piece.3, p.total, before.counted) in
    record {
      progress = rw c.drop_front.ensures (reads_on c.args.mirror.now.endpoint (g.S.Source.left c.args.source.now) (g.S.Source.left c.loop-now.source) (g.S.Source.left c.next_piece.new.source)
          (g.S.Source.faults c.args.source.now) (g.S.Source.faults c.next_piece.new.source) c.loop-now.mirror c.take_frames.new.mirror c.loop-now.taken c.in-Ok.now p.size c.in-Rest.at
          c.loop-now.input c.next_piece.new.input before.progress p.piece p.few p.total p.within counted taking.0 (p.calm ∙ before.read_faults) taking.1);
      endpoint = taking.0.stands.of_it;
      partial = rw c.drop_front.ensures taking.1;
      counted = omega (arith, ap length c.drop_front.ensures, length-drop c.in-Rest.at c.next_piece.new.input, counted);
      bound = p.within;
      read_faults = p.calm ∙ before.read_faults;
    }

pub overflow_add-at : goal.overflow_add-at
overflow_add-at g c =
    let p = c.in-Ok.ensures.piece in
    let before = c.loop-now.invariant in
    let taking = taking_of c.loop-now.mirror.endpoint c.args.mirror.now.endpoint c.loop-now.mirror c.take_frames.new.mirror before.progress.frames c.next_piece.new.input (taken.Bad c.in-Bad.at c.in-Bad.reason) before.endpoint
    (rw c.bytes-in-loop-now.ensures at c.in-Bad.ensures) before.progress.stands in
    let counted : length c.next_piece.new.input ≤ c.in-Ok.now =
    omega (arith, ap length p.piece.2, length-append c.loop-now.input p.piece.0, p.piece.3, p.total, before.counted) in
    let fits = heard_fits c.args.mirror.now.endpoint c.take_frames.new.mirror before.progress.frames c.next_piece.new.input c.in-Bad.at taking.0 in
    omega (arith, fits, ap length c.bytes.ensures, counted, p.within)

pub returns-in-Bad-clause-stops : goal.returns-in-Bad-clause-stops
returns-in-Bad-clause-stops g c =
    let p = c.in-Ok.ensures.piece in
    let before = c.loop-now.invariant in
    let taking = taking_of c.loop-now.mirror.endpoint c.args.mirror.now.endpoint c.loop-now.mirror c.take_frames.new.mirror before.progress.frames c.next_piece.new.input (taken.Bad c.in-Bad.at c.in-Bad.reason) before.endpoint
    (rw c.bytes-in-loop-now.ensures at c.in-Bad.ensures) before.progress.stands in
    let counted : length c.next_piece.new.input ≤ c.in-Ok.now =
    omega (arith, ap length p.piece.2, length-append c.loop-now.input p.piece.0, p.piece.3, p.total, before.counted) in
    rw c.bytes.ensures (bad_frame c.args.mirror.now.endpoint (g.S.Source.left c.args.source.now) (g.S.Source.left c.loop-now.source) (g.S.Source.left c.next_piece.new.source)
    (g.S.Source.faults c.args.source.now) (g.S.Source.faults c.next_piece.new.source) c.loop-now.mirror c.take_frames.new.mirror c.loop-now.taken c.in-Ok.now p.size c.in-Bad.at
    c.loop-now.input c.next_piece.new.input before.progress p.piece p.few p.total p.within counted taking.0 (p.calm ∙ before.read_faults) c.in-Bad.reason taking.1)

pub overflow_add-at-in-BadEvents : goal.overflow_add-at-in-BadEvents
overflow_add-at-in-BadEvents g c =
    let p = c.in-Ok.ensures.piece in
    let before = c.loop-now.invariant in
    let taking = taking_of c.loop-now.mirror.endpoint c.args.mirror.now.endpoint c.loop-now.mirror c.take_frames.new.mirror before.progress.frames c.next_piece.new.input (taken.BadEvents c.in-BadEvents.at) before.endpoint
    (rw c.bytes-in-loop-now.ensures at c.in-BadEvents.ensures) before.progress.stands in
    let counted : length c.next_piece.new.input ≤ c.in-Ok.now =
    omega (arith, ap length p.piece.2, length-append c.loop-now.input p.piece.0, p.piece.3, p.total, before.counted) in
    let fits = heard_fits c.args.mirror.now.endpoint c.take_frames.new.mirror before.progress.frames c.next_piece.new.input c.in-BadEvents.at taking.0 in
    omega (arith, fits, ap length c.bytes.ensures, counted, p.within)

pub returns-in-BadEvents-clause-stops : goal.returns-in-BadEvents-clause-stops
returns-in-BadEvents-clause-stops g c =
    let p = c.in-Ok.ensures.piece in
    let before = c.loop-now.invariant in
    let taking = taking_of c.loop-now.mirror.endpoint c.args.mirror.now.endpoint c.loop-now.mirror c.take_frames.new.mirror before.progress.frames c.next_piece.new.input (taken.BadEvents c.in-BadEvents.at) before.endpoint
    (rw c.bytes-in-loop-now.ensures at c.in-BadEvents.ensures) before.progress.stands in
    let counted : length c.next_piece.new.input ≤ c.in-Ok.now =
    omega (arith, ap length p.piece.2, length-append c.loop-now.input p.piece.0, p.piece.3, p.total, before.counted) in
    rw c.bytes.ensures (bad_events c.args.mirror.now.endpoint (g.S.Source.left c.args.source.now) (g.S.Source.left c.loop-now.source) (g.S.Source.left c.next_piece.new.source)
    (g.S.Source.faults c.args.source.now) (g.S.Source.faults c.next_piece.new.source) c.loop-now.mirror c.take_frames.new.mirror c.loop-now.taken c.in-Ok.now p.size c.in-BadEvents.at
    c.loop-now.input c.next_piece.new.input before.progress p.piece p.few p.total p.within counted taking.0 (p.calm ∙ before.read_faults) taking.1.0 taking.1.1 taking.1.2 taking.1.3)

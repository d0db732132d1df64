use Rattle.std.proofs.Common.{◌∙◌, subst, rules, arith, drop, length-drop}
use Rattle.std.proofs.lemmas.List.{take_rest}
use Rattle.link_frames.specs.Views.{IsWholeFront, frame_of}
use Rattle.link_frames.specs.declared.kinds.Side.TheVariants.{Any}
use Rattle.dir_mirror.specs.Copies.{HasBadEvents, HasGoodEvents}
use Rattle.mirror_program.proofs.Progressing.{front_fits, taken_more, taken_same}
use Rattle.mirror_program.proofs.reading.take_frames.Goals as goal

pub loop-frame-preserved : goal.loop-frame-preserved
loop-frame-preserved c =
    let at = c.loop-frame.at in
    let bytes = c.args.bytes.now in
    let frame = frame_of c.in-Whole.frame in
    let before = c.loop-frame.invariant in
    let front : IsWholeFront Any (drop at bytes) frame c.in-Whole.size = rw take_rest at c.in-Whole.ensures in
    record {
      taken = λ earlier copy. taken_more c.args.mirror.now.endpoint c.loop-frame.mirror c.take.new.self earlier bytes at c.in-Whole.size frame (before.taken earlier copy) front
          c.take.ensures.endpoint c.in-Ok.ensures.taken (subst (λ e. HasGoodEvents e frame) before.endpoint c.in-Ok.ensures.good);
      endpoint = c.take.ensures.endpoint ∙ before.endpoint;
      bound = omega (arith, front_fits at c.in-Whole.size bytes frame front, length-drop at bytes, before.bound);
    }

pub returns-in-Err-BadEvents : goal.returns-in-Err-BadEvents
returns-in-Err-BadEvents c = λ earlier copy.
    let at = c.loop-frame.at in
    let bytes = c.args.bytes.now in
    let frame = frame_of c.in-Whole.frame in
    let before = c.loop-frame.invariant in
    let front : IsWholeFront Any (drop at bytes) frame c.in-Whole.size = rw take_rest at c.in-Whole.ensures in
    let bad : HasBadEvents c.loop-frame.mirror.endpoint frame = search rules in (
      taken_same c.args.mirror.now.endpoint c.loop-frame.mirror c.take.new.self earlier bytes at (before.taken earlier copy) c.in-Err-BadEvents.ensures.unchanged,
      (frame, c.in-Whole.size, front, subst (λ e. HasBadEvents e frame) before.endpoint bad),
    )

use Rattle.std.proofs.Common.{arith}
use Rattle.link_frames.specs.Views.{handle_numbers}
use Rattle.vfs_script.proofs.PrintLemmas.{grown, handles_grow}
use Rattle.vfs_script.proofs.printing.put_handles.Goals as goal

pub returns-in_err-put_labelled-clause-grows : goal.returns-in_err-put_labelled-clause-grows
returns-in_err-put_labelled-clause-grows c = grown c.args.to.now c.loop-place.to c.put_labelled.new.to c.loop-place.invariant.grown c.in_err-put_labelled.ensures.grows

pub loop-place-preserved : goal.loop-place-preserved
loop-place-preserved c =
    let low = c.loop-place.auto.place in
    let size = c.len-place-end.ensures in
    let below = c.loop-place-test.true in
    record {
      put =
          handles_grow c.args.to.now c.loop-place.to c.put_labelled.new.to c.loop-place.place c.at-in-loop-place.result (handle_numbers c.args.handles)
          c.loop-place.invariant.put c.at-in-loop-place.ensures c.in_ok-put_labelled.ensures.put (omega (arith, low)) (omega (arith, size, below));
      grown = grown c.args.to.now c.loop-place.to c.put_labelled.new.to c.loop-place.invariant.grown c.in_ok-put_labelled.ensures.grows;
    }

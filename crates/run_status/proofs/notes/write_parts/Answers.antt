use Rattle.std.proofs.Common.{arith, ◌<◌, ◌++◌, suc, take, drop, length, sym, ◌∙◌}
use Rattle.std.specs.List.{flat_map}
use Rattle.std.proofs.KnownBytes.{Appends-trans}
use Rattle.run_status.proofs.NoteLemmas.{front_of_part}
use Rattle.run_status.proofs.notes.write_parts.Goals as goal

pub returns-in-Err : goal.returns-in-Err
returns-in-Err g c =
    let i = c.loop-part.part-index in
    let parts = c.args.parts.now in
    let here : i < length parts = omega (arith, c.loop-part-test.true) in
    let got = c.in-Err.ensures.part in
    record {
      whole = tt;
      part = (
        flat_map (λ part. part.now) (take i parts) ++ got.0,
        got.1 ++ flat_map (λ part. part.now) (drop (suc i) parts),
        front_of_part (λ part. part.now) parts i _ got.0 got.1 here (sym c.as_bytes.ensures.value ∙ got.2),
        Appends-trans _ _ _ _ _ c.loop-part.invariant.told got.3,
      );
      cause = rw c.loop-part.invariant.faults at c.in-Err.ensures.cause;
    }

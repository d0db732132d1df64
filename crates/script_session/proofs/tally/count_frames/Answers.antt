use Rattle.std.proofs.Common.{◌+◌, length, ap, sym, subst, arith}
use Rattle.std.specs.Prelude.{⊤}
use Rattle.link_frames.specs.Views.{frame_of}
use Rattle.link_frames.specs.declared.kinds.Side.TheVariants as side
use Rattle.script_session.proofs.Counting.{Read, all_counted, less_left, read_more}
use Rattle.script_session.proofs.Stages.{rest_is}
use Rattle.script_session.proofs.tally.count_frames.Goals as goal

pub loop-size-preserved : goal.loop-size-preserved
loop-size-preserved c =
    let rest = c.loop-size.rest.now in
    let n = c.in-Whole.size in
    let f = frame_of c.in-Whole.frame in
    let less = less_left side.Any rest f n c.in-Whole.ensures in
    let within = c.loop-size.invariant.1 in
    let same = ap length (rest_is n rest) in (
      λ all are is.
          subst (λ b. Read side.Any all (c.loop-size.count + 1) b (λ done. ⊤)) (sym (rest_is n rest))
          (read_more side.Any all c.loop-size.count rest (λ done. ⊤) (c.loop-size.invariant.0 all are is) f n (λ done. ⊤) c.in-Whole.ensures (λ done held. tt)),
      omega (arith, less, within, same),
    )

pub returns : goal.returns
returns c =
    let within = c.loop-size.invariant.1 in
    record {
      count = λ all are is.
          all_counted side.Any all c.loop-size.count c.loop-size.rest.now (λ done. ⊤) (c.loop-size.invariant.0 all are is) c.frame_at.result c.frame_at.ensures c.in_default.not-Whole;
      few = omega (arith, within);
    }

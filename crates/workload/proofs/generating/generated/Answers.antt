use Rattle.std.proofs.Common.{◌∙◌, arith}
use Rattle.workload.proofs.PutLines.{text_whole}
use Rattle.workload.proofs.generating.generated.Goals as goal

pub returns : goal.returns
returns c =
    let most = c.loop-done.auto.done-end in
    let least = c.loop-done-test.false in
    c.loop-done.invariant.text ∙ text_whole c.args.rounds c.loop-done.done (omega (arith, most)) (omega (arith, least))

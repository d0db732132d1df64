use Rattle.std.proofs.Common.{arith}
use Rattle.fidl_wire.proofs.Utf8.{greatest_more}
use Rattle.fidl_wire.proofs.texts.greatest.Goals as goal

pub loop-i-preserved : goal.loop-i-preserved
loop-i-preserved c = greatest_more c.args.bytes.now c.loop-i.i c.loop-i.greatest c.max-greatest.result (let is = c.max-greatest.ensures in omega (arith, is)) (let is = c.max-greatest.ensures in omega (arith, is)) c.loop-i.invariant

pub returns : goal.returns
returns c = λ k below. c.loop-i.invariant k (let over = c.loop-i-test.false in omega (arith, below, over))

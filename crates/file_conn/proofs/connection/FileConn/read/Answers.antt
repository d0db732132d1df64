use Rattle.std.proofs.Common.{arith}
use Rattle.file_conn.proofs.Rows.{few_fit, too_much}
use Rattle.file_conn.proofs.Serving.{read_served}
use Rattle.file_conn.proofs.connection.FileConn.read.Goals as goal

pub returns-then-count-gt-MAX_CHUNK-clause-serves : goal.returns-then-count-gt-MAX_CHUNK-clause-serves
returns-then-count-gt-MAX_CHUNK-clause-serves c room tree directory stands =
    rw (too_much c.args.count c.if-count-gt-MAX_CHUNK.true) (c.fail.ensures.served c.args.self.now c.args.graph.now)

pub returns-then-count-gt-MAX_CHUNK-clause-kind : goal.returns-then-count-gt-MAX_CHUNK-clause-kind
returns-then-count-gt-MAX_CHUNK-clause-kind c = (c.fail.ensures.served c.args.self.now c.args.graph.now).answer.0

pub reply_with-requires-clause-fits : goal.reply_with-requires-clause-fits
reply_with-requires-clause-fits c = few_fit _ (omega (arith, c.part_from-bytes.ensures.short, c.if-count-gt-MAX_CHUNK.false))

pub returns-clause-serves : goal.returns-clause-serves
returns-clause-serves c room tree directory stands =
    read_served c.self.inside.birth c.self.inside.position c.args.self.now room tree directory c.args.graph.now c.args.count c.bytes.result.now c.part_from-bytes.result.now c.args.txid c.reply_with.result c.reply_with.new.out
    c.self.view_is stands c.requires.named c.bytes.ensures (omega (arith, c.if-count-gt-MAX_CHUNK.false)) c.part_from-bytes.ensures.part c.reply_with.ensures.served

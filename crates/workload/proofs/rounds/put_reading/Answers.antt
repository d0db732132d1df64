use Rattle.std.proofs.Common.{codes}
use Rattle.std.proofs.lemmas.Result.{on_ok_weaker}
use Rattle.workload.specs.Workload.{endpoint, opens, path}
use Rattle.workload.proofs.PutLines.{was_read}
use Rattle.workload.proofs.rounds.put_reading.Goals as goal

pub returns : goal.returns
returns c =
    on_ok_weaker c.put.result
    (λ put. was_read c.args.to.now c.put_file_opened.new.to c.put_asked.new.to c.put.new.self (endpoint c.args.k) (opens c.args.k (path c.args.v) (codes "0x2"))
    c.in_ok-put_file_opened.ensures c.in_ok-put_asked.ensures put)
    c.put.ensures.put

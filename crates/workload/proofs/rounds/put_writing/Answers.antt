use Rattle.std.proofs.Common.{codes, decimal}
use Rattle.std.proofs.lemmas.Result.{on_ok_weaker}
use Rattle.hex.specs.Hex.{encode_lower}
use Rattle.workload.specs.Workload.{endpoint, opens, path}
use Rattle.workload.proofs.PutLines.{written}
use Rattle.workload.proofs.rounds.put_writing.Goals as goal

pub returns : goal.returns
returns c =
    on_ok_weaker c.put-2.result
    (λ put. written c.args.to.now c.put_file_opened.new.to c.put_asked.new.to c.put.new.self c.put_digits.new.to c.put-2.new.self (endpoint c.args.k) (encode_lower (decimal c.args.k))
    (opens c.args.k (path c.args.v) (codes "0x10800000006"))
    c.in_ok-put_file_opened.ensures c.in_ok-put_asked.ensures c.in_ok-put.ensures.put c.in_ok-put_digits.ensures put)
    c.put-2.ensures.put

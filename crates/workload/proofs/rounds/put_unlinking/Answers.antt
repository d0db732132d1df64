use Rattle.std.proofs.Common.{codes}
use Rattle.std.proofs.lemmas.Result.{on_ok_weaker}
use Rattle.workload.specs.Workload.{directory, endpoint, file, opens}
use Rattle.workload.proofs.PutLines.{unlinked}
use Rattle.workload.proofs.rounds.put_unlinking.Goals as goal

pub returns : goal.returns
returns c =
    on_ok_weaker c.put-2.result
    (λ put. unlinked c.args.to.now c.put_directory_opened.new.to c.put_asked.new.to c.put.new.self c.put_file.new.to c.put-2.new.self (endpoint c.args.k) (file c.args.v)
    (opens c.args.k (directory c.args.v) (codes "0x100"))
    c.in_ok-put_directory_opened.ensures c.in_ok-put_asked.ensures c.in_ok-put.ensures.put c.in_ok-put_file.ensures put)
    c.put-2.ensures.put

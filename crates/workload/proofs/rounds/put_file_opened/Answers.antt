use Rattle.std.proofs.lemmas.Result.{on_ok_weaker}
use Rattle.workload.specs.Workload.{directory, endpoint, file}
use Rattle.workload.proofs.PutLines.{file_opened}
use Rattle.workload.proofs.rounds.put_file_opened.Goals as goal

pub returns : goal.returns
returns c =
    on_ok_weaker c.put_back.result
    (λ put. file_opened c.args.to.now c.put_front.new.to c.put.new.self c.put_file.new.to c.put_back.new.to (directory c.args.v) (file c.args.v) c.args.flags.now (endpoint c.args.k)
    c.in_ok-put_front.ensures c.in_ok-put.ensures.put c.in_ok-put_file.ensures put)
    c.put_back.ensures

use Rattle.std.proofs.lemmas.Result.{on_ok_weaker}
use Rattle.workload.specs.Workload.{acts, endpoint}
use Rattle.workload.proofs.PutLines.{hung_up}
use Rattle.workload.proofs.rounds.put_round.Goals as goal

pub returns : goal.returns
returns c =
    on_ok_weaker c.put.result
    (λ put. hung_up c.args.to.now c.put_acts.new.to c.put_asked.new.to c.put.new.self (endpoint c.args.k) (acts c.args.k c.args.v)
    c.in_ok-put_acts.ensures c.in_ok-put_asked.ensures put)
    c.put.ensures.put

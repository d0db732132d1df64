use Rattle.message_queues.proofs.Placed.{set_put, set_same}
use Rattle.message_queues.proofs.Served.{on_err_more}
use Rattle.message_queues.proofs.Spread.{on_ok_more}
use Rattle.message_queues.proofs.queues.put_turn.Goals as goal

pub returns-clause-put : goal.returns-clause-put
returns-clause-put c =
    on_ok_more c.put.result (set_put c.args.heads.now.items c.args.server c.args.place c.args.endpoint c.index_mut.result.now c.put.new.self c.index_mut.ensures.value c.requires) c.put.ensures.put

pub returns-clause-err : goal.returns-clause-err
returns-clause-err c =
    on_err_more c.put.result (set_same c.args.heads.now.items c.args.server c.index_mut.result.now c.put.new.self c.index_mut.ensures.value) c.put.ensures.err

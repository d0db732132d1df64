use Rattle.message_queues.proofs.Placed.{set_cut}
use Rattle.message_queues.proofs.queues.drop_turn.Goals as goal

pub returns : goal.returns
returns c = set_cut c.args.heads.now.items c.args.server c.args.place c.index_mut.result.now c.remove.new.self c.index_mut.ensures.value c.requires c.remove.ensures

use Rattle.std.proofs.Common.{rules}
use Rattle.message_queues.proofs.Sound.{none_bound}
use Rattle.message_queues.proofs.queues.bind_at.Goals as goal

pub returns-clause-err : goal.returns-clause-err
returns-clause-err c =
    none_bound c.bind_waiting.result c.args.boxes.now _ c.args.endpoint c.or_insert-mailbox.result.now c.bind_waiting.new.mailbox c.args.heads.now.items c.bind_waiting.new.heads.items (search rules) (search rules)
    c.bind_waiting.ensures.err c.bind_waiting.ensures.empty

use Rattle.message_queues.proofs.Counting.{counts_its_list}
use Rattle.message_queues.proofs.laws.queues_count_their_list.Goals as goal

pub returns : goal.returns
returns c = counts_its_list

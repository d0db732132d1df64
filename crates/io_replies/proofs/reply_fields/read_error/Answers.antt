use Rattle.io_replies.proofs.ToldKinds.{branch_word}
use Rattle.io_replies.proofs.reply_fields.read_error.Goals as goal

pub unreachable-requires : goal.unreachable-requires
unreachable-requires c = branch_word _ _ _ c.in_ok-branch.ensures.value c.in-None.is

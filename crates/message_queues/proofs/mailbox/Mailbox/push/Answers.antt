use Rattle.std.proofs.Common.{◌∙◌, ◌++◌, List, [], ◌∷◌, ap, append_assoc, sym}
use Rattle.std.specs.Prelude.{option_to_list}
use Rattle.vfs_journal.specs.Entries.{Sent}
use Rattle.message_queues.specs.Queues.{Mailbox}
use Rattle.message_queues.proofs.mailbox.Mailbox.push.Goals as goal

pub returns-clause-pushed : goal.returns-clause-pushed
returns-clause-pushed c =
    let first : List Sent = option_to_list c.self.inside.first in
    let more : List Sent = c.args.sent ∷ [] in
    ap (λ (later : List Sent). first ++ later) c.in_ok-push_back.ensures.items
    ∙ (sym (append_assoc first c.self.inside.later.items more) ∙ ap (λ (box : Mailbox). box.queue ++ more) c.self.view_is)

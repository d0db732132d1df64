use Rattle.std.proofs.Common.{◌≡◌, ◌∙◌, ◌++◌, List, [], ap, refl, sym}
use Rattle.std.specs.Prelude.{Option, Some, None, drop, option_to_list, slice_get}
use Rattle.vfs_journal.specs.Entries.{Sent}
use Rattle.message_queues.specs.Queues.{Mailbox}
use Rattle.message_queues.proofs.mailbox.Mailbox.pop.Goals as goal

head_of_parts : (first : Option Sent) (later : List Sent) → (first ≡ None → later ≡ []) → first ≡ slice_get (option_to_list first ++ later) 0
head_of_parts (Some sent) later empty = refl
head_of_parts None later empty = sym (ap (λ (queue : List Sent). slice_get queue 0) (empty refl))

rest_of_parts : (first : Option Sent) (later : List Sent) → (first ≡ None → later ≡ []) → later ≡ drop 1 (option_to_list first ++ later)
rest_of_parts (Some sent) later empty = refl
rest_of_parts None later empty = empty refl ∙ sym (ap (λ (queue : List Sent). drop 1 queue) (empty refl))

pub returns : goal.returns
returns c =
    let first : Option Sent = c.self.inside.first in
    let later : List Sent = c.self.inside.later.items in
    record {
      first = c.replace.ensures.value ∙ head_of_parts first later c.self.invariant ∙ ap (λ (box : Mailbox). slice_get box.queue 0) c.self.view_is;
      later =
          ap (λ (next : Option Sent). option_to_list next ++ c.pop_front-next.new.self.items) c.replace.ensures.after
          ∙ (sym c.pop_front-next.ensures.items ∙ rest_of_parts first later c.self.invariant ∙ ap (λ (box : Mailbox). drop 1 box.queue) c.self.view_is);
      server = ap (λ (box : Mailbox). box.server) c.self.view_is;
    }

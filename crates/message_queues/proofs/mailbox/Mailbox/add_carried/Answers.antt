use Rattle.std.proofs.Common.{◌≡◌, ◌∙◌, sym, ap, subst, List, [], ◌∷◌, ◌++◌}
use Rattle.std.specs.Prelude.{Option, option_to_list}
use Rattle.vfs_journal.specs.Entries.{Sent}
use Rattle.message_queues.specs.Queues.{Mailbox}
use Rattle.message_queues.specs.Steps.{Doomed, Gathers}
use Rattle.message_queues.proofs.Gathered.{gathers_more, gathers_none}
use Rattle.message_queues.proofs.Spread.{on_ok_more}
use Rattle.message_queues.proofs.mailbox.Mailbox.add_carried.Goals as goal
use Rattle.message_queues.proofs.mailbox.Mailbox.add_carried.Goals.{in-Some+in_ok-add_carried, in_default}

pub returns : goal.returns
returns c =
    let first : Option Sent = c.self.inside.first in
    let front : List Sent = c.as_slices.result.0.now in
    let back : List Sent = c.as_slices.result.1.now in
    let old : Doomed = c.args.dying.now in
    let mid : Doomed = c.match-self.dying in
    let queue : option_to_list first ++ (front ++ back) ≡ c.args.self.now.queue =
    ap (λ (later : List Sent). option_to_list first ++ later) c.as_slices.ensures.items ∙ ap (λ (box : Mailbox). box.queue) c.self.view_is in
    let one : Gathers (option_to_list first) old mid =
    elim c.match-self.branch [
      | in-Some+in_ok-add_carried w ↦ subst (λ (o : Option Sent). Gathers (option_to_list o) old mid) (sym w.in-Some.is) (subst (λ (now : Doomed). Gathers (w.in-Some.first ∷ []) old now) (sym w.dying-is) w.in_ok-add_carried.ensures)
      | in_default w ↦ subst (λ (o : Option Sent). Gathers (option_to_list o) old mid) (sym w.in_default.is) (subst (λ (now : Doomed). Gathers [] old now) (sym w.dying-is) (gathers_none old))
    ] in
    on_ok_more c.add_all_carried-2.result
    (λ two. subst (λ (entries : List Sent). Gathers entries old c.add_all_carried-2.new.self) queue
    (gathers_more (option_to_list first) (front ++ back) old mid c.add_all_carried-2.new.self one (gathers_more front back mid c.add_all_carried.new.self c.add_all_carried-2.new.self c.in_ok-add_all_carried.ensures two)))
    c.add_all_carried-2.ensures

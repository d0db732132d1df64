use Rattle.std.proofs.Common.{subst, sym, List, [], ℕ}
use Rattle.message_queues.specs.Queues.{IsNew, Mailbox}
use Rattle.message_queues.specs.Steps.{Heads, IsSound, queues_with}
use Rattle.message_queues.proofs.Kept.{new_is, sound_none}
use Rattle.message_queues.proofs.queues.Queues.new.Goals as goal

pub invariant_of-result : goal.invariant_of-result
invariant_of-result c =
    subst (λ (entries : List (ℕ × Mailbox)). IsSound entries c.in_ok-of_each.field-0.items 0 c.args.servers) (sym c.new.ensures.empty)
    (subst (λ (heads : List Heads). IsSound [] heads 0 c.args.servers) (sym c.in_ok-of_each.ensures) (sound_none c.args.servers))

pub returns : goal.returns
returns c = subst (λ (entries : List (ℕ × Mailbox)). IsNew (queues_with entries c.args.servers) c.args.servers) (sym c.new.ensures.empty) (new_is c.args.servers)

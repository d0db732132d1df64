use Rattle.std.proofs.Common.{◌∙◌, ap}
use Rattle.std.specs.FinMap as finite
use Rattle.message_queues.specs.Steps.{Heads}
use Rattle.message_queues.proofs.Least.{popped_first}
use Rattle.message_queues.proofs.heads.Heads.remove.Goals as goal

pub returns-then-is_first : goal.returns-then-is_first
returns-then-is_first c =
    popped_first c.self.inside.line.items c.pop_front.new.self.items c.self.inside.others c.args.place c.self.invariant (c.is_first.ensures c.if-is_first.true) c.pop_front.ensures.rest
    (c.is_empty.ensures.0 c.if-is_empty.true)
    ∙ ap (λ (heads : Heads). finite.remove heads c.args.place) c.self.view_is

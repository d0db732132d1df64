use Rattle.std.proofs.Common.{◌∙◌, ap}
use Rattle.std.specs.FinMap as finite
use Rattle.message_queues.specs.Steps.{Heads}
use Rattle.message_queues.proofs.Least.{cut_others}
use Rattle.message_queues.proofs.heads.remove_among.Goals as goal

pub returns-clause-removed : goal.returns-clause-removed
returns-clause-removed c =
    cut_others c.let_by.new.line.items c.cut.new.line.items c.let_by.new.others c.remove.new.self c.args.place c.remove.ensures.updates c.cut.ensures.cut
    ∙ ap (λ (heads : Heads). finite.remove heads c.args.place) c.let_by.ensures.same

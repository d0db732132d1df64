use Rattle.std.proofs.Common.{◌∙◌, ap}
use Rattle.std.specs.FinMap as finite
use Rattle.message_queues.specs.Steps.{Heads}
use Rattle.message_queues.proofs.Least.{put_others}
use Rattle.message_queues.proofs.heads.put_among.Goals as goal

pub returns-clause-put : goal.returns-clause-put
returns-clause-put c =
    put_others c.let_by.new.line.items c.cut.new.line.items c.let_by.new.others c.insert.new.self c.args.place c.args.endpoint c.in_ok-insert.ensures.updates c.cut.ensures.cut
    ∙ ap (λ (heads : Heads). finite.insert heads c.args.place c.args.endpoint) c.let_by.ensures.same

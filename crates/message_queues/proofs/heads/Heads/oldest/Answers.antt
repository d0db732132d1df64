use Rattle.std.specs.FinMap as finite
use Rattle.message_queues.proofs.Least.{least_is}
use Rattle.message_queues.proofs.heads.Heads.oldest.Goals as goal

pub returns : goal.returns
returns c =
    least_is c.self.inside.line.items (finite.from_entries c.self.inside.others.entries) c.args.self.now c.first_of.result c.least_of.result c.older.result c.self.view_is c.self.invariant c.first_of.ensures c.least_of.ensures
    c.older.ensures

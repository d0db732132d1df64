use Rattle.std.proofs.Common.{◌∙◌, arith}
use Rattle.fidl_wire.specs.Names.{event_row}
use Rattle.fidl_wire.proofs.Rows.{event_apart}
use Rattle.fidl_wire.proofs.ordinals.Ordinals.event.Goals as goal

pub returns-clause-apart : goal.returns-clause-apart
returns-clause-apart c = λ m e. event_apart c.args.self.now.distinct m (e ∙ c.args.self.now.named event_row (omega arith))

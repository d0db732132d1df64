use Rattle.fidl_wire.proofs.Members.{told-put}
use Rattle.fidl_wire.proofs.tables.put.Goals as goal

pub returns-then-i-values : goal.returns-then-i-values
returns-then-i-values c = told-put c.args.values.now c.args.i c.args.value

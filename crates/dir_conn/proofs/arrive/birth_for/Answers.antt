-- A service is connected to with the right to it.
use Rattle.std.proofs.Common.{sym, ◌∙◌}
use Rattle.dir_conn.proofs.Binding.{connects}
use Rattle.dir_conn.proofs.arrive.birth_for.Goals as goal

pub returns-clause-connects : goal.returns-clause-connects
returns-clause-connects c = λ is.
    rw c.granted.ensures
    (connects c.args.flags c.args.limit c.args.kind c.requires.connects (sym c.protocol_of.ensures.protocol ∙ is))

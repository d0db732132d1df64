use Rattle.std.proofs.Common.{length, ap, arith}
use Rattle.session_start.specs.declared.start.Start.TheInside.{Inside}
use Rattle.session_start.proofs.Accepted.{few_of}
use Rattle.session_start.proofs.start.Start.clients.Goals as goal

pub overflow_cast-result : goal.overflow_cast-result
overflow_cast-result c =
    let few = (few_of c.self.inside.lists c.self.invariant.accepted).clients in
    let same = ap (λ (inside : Inside). length inside.lists.clients) c.self-inside.view_is in
    omega (arith, few, same, c.len.ensures)

use Rattle.std.proofs.Common.{ap, sym}
use Rattle.std.specs.Prelude.{is_some}
use Rattle.dir_mirror.proofs.Kept.{marked}
use Rattle.dir_mirror.proofs.seats.mark.Goals as goal

pub returns-in-Some-clause-marked : goal.returns-in-Some-clause-marked
returns-in-Some-clause-marked c =
    marked (λ key. key.items) c.args.name.now c.args.seats.now (c.get_mut.follows.lender c.args.there) c.args.there (c.get_mut.follows.holds c.args.there)
    (ap is_some (sym c.in-Some.ensures.value))

use Rattle.std.proofs.Common.{ap}
use Rattle.dir_mirror.specs.Seats.{names_of}
use Rattle.dir_mirror.proofs.Copied.{nothing}
use Rattle.dir_mirror.proofs.mirror.Mirror.new.Goals as goal

pub returns-clause-empty : goal.returns-clause-empty
returns-clause-empty c = nothing c.args.endpoint _ (ap (names_of (λ name. name.items)) c.new.ensures.empty)

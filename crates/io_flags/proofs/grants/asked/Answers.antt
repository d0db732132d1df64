-- The asked rights have the explicit ones.
use Rattle.io_flags.specs.Grants.{explicit_rights}
use Rattle.io_flags.proofs.GrantLemmas.{within_self, within_join_left}
use Rattle.io_flags.proofs.grants.asked.Goals as goal

pub returns-then-creates-clause-explicit : goal.returns-then-creates-clause-explicit
returns-then-creates-clause-explicit c =
    rw (c.join.ensures.value, c.explicit-explicit.ensures.value)
    (within_join_left (explicit_rights c.args.flags) c.of.result)

pub returns-else-creates-clause-explicit : goal.returns-else-creates-clause-explicit
returns-else-creates-clause-explicit c =
    rw c.explicit-explicit.ensures.value (within_self (explicit_rights c.args.flags))

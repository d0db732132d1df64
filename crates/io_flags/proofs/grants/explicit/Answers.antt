-- The low nine bits are the PERM flags.
use Rattle.std.proofs.Common.{◌∙◌, ap}
use Rattle.io_rights.specs.Operations.{has as allows}
use Rattle.io_flags.proofs.GrantLemmas.{explicit-low, explicit-each}
use Rattle.io_flags.proofs.grants.explicit.Goals as goal

pub returns-clause-value : goal.returns-clause-value
returns-clause-value c =
    (rw (c.unwrap.ensures, c.word.ensures.word) at c.from_bits.ensures.known) ∙ explicit-low c.args.flags

pub returns-clause-each : goal.returns-clause-each
returns-clause-each c =
    λ operation.
    ap (λ set. allows set operation)
    ((rw (c.unwrap.ensures, c.word.ensures.word) at c.from_bits.ensures.known) ∙ explicit-low c.args.flags)
    ∙ explicit-each c.args.flags operation

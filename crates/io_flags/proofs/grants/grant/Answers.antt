-- The limit decides, and what is granted lies within it.
use Rattle.std.proofs.Common.{sym, ◌∙◌}
use Rattle.io_rights.specs.Operations.{meet}
use Rattle.io_flags.proofs.GrantLemmas.{grant-some, grant-none, grant_within_both}
use Rattle.io_flags.proofs.grants.grant.Goals as goal

pub returns-then-within-clause-value : goal.returns-then-within-clause-value
returns-then-within-clause-value c =
    rw (c.granted_kind.ensures, c.granted.ensures, c.meet-limit.ensures.value)
    (sym
    (grant-some c.args.flags (meet c.args.have c.args.masks)
    (rw (c.explicit.ensures.value, c.meet-limit.ensures.value) at (sym c.within.ensures.value ∙ c.if-within.true))))

pub returns-then-within-clause-within : goal.returns-then-within-clause-within
returns-then-within-clause-within c =
    rw (c.granted_kind.ensures, c.granted.ensures, c.meet-limit.ensures.value)
    (grant_within_both c.args.flags c.args.have c.args.masks
    (rw (c.explicit.ensures.value, c.meet-limit.ensures.value) at (sym c.within.ensures.value ∙ c.if-within.true)))

pub returns-else-within-clause-value : goal.returns-else-within-clause-value
returns-else-within-clause-value c =
    sym
    (grant-none c.args.flags (meet c.args.have c.args.masks)
    (rw (c.explicit.ensures.value, c.meet-limit.ensures.value) at (sym c.within.ensures.value ∙ c.if-within.false)))

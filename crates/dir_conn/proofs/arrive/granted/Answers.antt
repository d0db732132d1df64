-- A limit met with itself is the limit, and has what the flags name.
use Rattle.std.proofs.Common.{◌≡◌, Some, unwrap_or, ap, sym, ◌∙◌}
use Rattle.io_flags.specs.Grants.{explicit_rights, grant_of, granted, granted_kind}
use Rattle.io_flags.proofs.GrantLemmas.{grant-some, within_self}
use Rattle.io_rights.proofs.OperationSets.{meet_from_within, within_meet}
use Rattle.dir_conn.proofs.arrive.granted.Goals as goal

pub unwrap-requires : goal.unwrap-requires
unwrap-requires c = c.grant.ensures.some.1 (within_meet c.args.limit c.args.limit (explicit_rights c.args.flags) c.requires.explicit c.requires.explicit)

pub returns : goal.returns
returns c =
    let whole : c.grant.result ≡ Some (granted_kind c.args.flags (granted c.args.flags c.args.limit)) =
    c.grant.ensures.value
    ∙ ap (grant_of c.args.flags) (meet_from_within c.args.limit c.args.limit (within_self c.args.limit))
    ∙ grant-some c.args.flags c.args.limit c.requires.explicit in
    ap (λ rights. unwrap_or rights c.args.limit) (sym c.unwrap.ensures ∙ whole)

-- A limit met with itself is the limit.
use Rattle.std.proofs.Common.{ap, ◌∙◌}
use Rattle.io_flags.specs.Grants.{onward}
use Rattle.io_flags.proofs.GrantLemmas.{within_self}
use Rattle.io_rights.proofs.OperationSets.{meet_from_within}
use Rattle.dir_conn.proofs.open.onward.Goals as goal

pub returns : goal.returns
returns c =
    c.forwarded.ensures.value
    ∙ ap (onward c.args.flags) (meet_from_within c.args.limit c.args.limit (within_self c.args.limit))

-- What the flags name passes with what a name before the last wants.
use Rattle.std.proofs.Common.{◌≡◌, ◌<◌, ◌+◌, true, Some, length, ap, arith, sym, ◌∙◌, subst}
use Rattle.io_flags.specs.Grants.{explicit_rights}
use Rattle.io_rights.specs.declared.operations.Operation.TheVariants as op
use Rattle.io_rights.specs.Operations.{is_within, join, single}
use Rattle.io_rights.proofs.OperationSets.{within_meet, within_trans}
use Rattle.conn_rules.specs.Walks.{inner_rights}
use Rattle.conn_rules.proofs.EveryWalk.{named_in_inner}
use Rattle.dir_conn.proofs.steps.inner_name.Goals as goal

pub returns-then-within-clause-goes_on : goal.returns-then-within-clause-goes_on
returns-then-within-clause-goes_on c = λ graph kept explicit.
    let wanted : c.join-wanted.result ≡ inner_rights c.args.flags =
    c.join-wanted.ensures.value ∙ ap (λ set. join set c.asked.result) c.of.ensures ∙ ap (join (single op.Traverse)) c.asked.ensures.value in
    let passed : is_within (inner_rights c.args.flags) c.args.found.mask ≡ true =
    subst (λ set. is_within set c.args.found.mask ≡ true) wanted (sym c.if-within.ensures.value) in
    let both =
    within_meet c.args.limit c.args.found.mask (explicit_rights c.args.flags) explicit
    (within_trans (explicit_rights c.args.flags) (inner_rights c.args.flags) c.args.found.mask (named_in_inner c.args.flags) passed) in
    let fewer : length c.args.rest < length c.args.rest + 1 = omega arith in (
      record {
        named = kept.named;
        directory = kept.kind ∙ ap Some c.in-Directory.is;
        explicit = subst (λ set. is_within (explicit_rights c.args.flags) set ≡ true) (sym c.meet-left.ensures.value) both;
      },
      fewer,
    )

-- What is left at a node is met with the mask of its name.
use Rattle.std.proofs.Common.{◌≡◌, ◌∙◌, Bool, true, ap, sym}
use Rattle.std.specs.Prelude.{if◌then◌else◌}
use Rattle.fidl_names.specs.declared.statuses.Status.TheVariants as status
use Rattle.io_flags.specs.Grants.{explicit_rights}
use Rattle.io_rights.specs.Operations.{is_within, meet}
use Rattle.dir_conn.specs.declared.steps.Walked.TheVariants as walked
use Rattle.dir_conn.proofs.steps.arrive.Goals as goal

pub returns-then-within-clause-leads : goal.returns-then-within-clause-leads
returns-then-within-clause-leads c =
    let found = c.args.found in
    let passes : is_within (explicit_rights c.args.flags) found.mask ≡ true =
    ap (λ set. is_within set found.mask) (sym c.explicit.ensures.value) ∙ sym c.if-within.ensures.value in
    ap (λ limit. walked.Arrives found.node found.kind limit) c.meet.ensures.value
    ∙ ap (λ (b : Bool). if b then walked.Arrives found.node found.kind (meet c.args.limit found.mask) else walked.Stops status.AccessDenied) (sym passes)

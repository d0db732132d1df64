-- A mount is passed with what its mask leaves.
use Rattle.std.proofs.Common.{◌≡◌, ◌∙◌, [], Bool, true, false, ℕ, ap, refl, sym}
use Rattle.std.specs.Prelude.{if◌then◌else◌}
use Rattle.fidl_names.specs.declared.statuses.Status.TheVariants as status
use Rattle.io_flags.specs.Grants.{asked_rights}
use Rattle.io_rights.specs.Operations.{OperationSet, is_within, meet}
use Rattle.conn_rules.specs.Walks.{behind, crosses, last_by_kind, stops, reach}
use Rattle.dir_conn.specs.declared.steps.Walked.TheVariants as walked
use Rattle.node_graph.specs.Ends.{end_of}
use Rattle.dir_conn.specs.Reaches.{reached}
use Rattle.dir_conn.proofs.steps.last_name.Goals as goal

crossed : (passes : Bool) (limit mask : OperationSet) (mount : ℕ) →
    reached (if passes then walked.Crosses mount [] (meet limit mask) else walked.Stops status.AccessDenied)
    ≡ reach limit (if passes then behind mask (crosses mount [] []) else stops status.AccessDenied)
crossed true limit mask mount = refl
crossed false limit mask mount = refl

pub returns-in-Mount-clause-leads : goal.returns-in-Mount-clause-leads
returns-in-Mount-clause-leads c =
    let mask = c.args.found.mask in
    ap reached
    (c.cross.ensures
    ∙ ap (λ wanted. if is_within wanted mask then walked.Crosses c.in-Mount.mount c.args.end c.meet-left.result else walked.Stops status.AccessDenied) c.asked.ensures.value
    ∙ ap (λ left. if is_within (asked_rights c.args.flags) mask then walked.Crosses c.in-Mount.mount c.args.end left else walked.Stops status.AccessDenied) c.meet-left.ensures.value
    ∙ ap (λ end. if is_within (asked_rights c.args.flags) mask then walked.Crosses c.in-Mount.mount end (meet c.args.limit mask) else walked.Stops status.AccessDenied) c.requires.end)
    ∙ crossed (is_within (asked_rights c.args.flags) mask) c.args.limit mask c.in-Mount.mount
    ∙ ap (λ kind. reach c.args.limit (last_by_kind c.args.flags (end_of c.args.found) kind)) (sym c.in-Mount.is)

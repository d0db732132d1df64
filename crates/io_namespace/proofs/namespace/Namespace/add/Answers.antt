use Rattle.std.proofs.Common.{◌≡◌, ◌∙◌, ◌<◌, sym, ap, map, length, Some, subst}
use Rattle.std.specs.Prelude.{slice_set}
use Rattle.io_namespace.specs.Cleaning.{clean}
use Rattle.io_namespace.specs.Kept.{Kept, node_behind, table_of}
use Rattle.io_namespace.proofs.TreeLemmas.{Path, ended_with, end_set, end_kept, with_same}
use Rattle.io_namespace.proofs.namespace.Namespace.add.Goals as goal

leads : (c : goal.After-drop-steps-2) → node_behind c.self-2.inside.edges 0 (clean c.args.prefix.now) ≡ Some c.in_ok-node.node
leads c =
    ap (λ (k : Kept). node_behind k.edges 0 (clean c.args.prefix.now)) c.self-2.view_is
    ∙ ap (λ (path : Path). node_behind c.node_at.new.self.edges 0 path) (sym c.in_ok-steps.ensures ∙ ap (map (λ step. step.now)) (sym c.deref.ensures.value))
    ∙ c.in_ok-node.ensures.node

within : (c : goal.After-drop-steps-2) → c.in_ok-node.node < length c.self-2.inside.ends.items
within c = subst (λ (k : Kept). c.in_ok-node.node < length k.ends) (sym c.self-2.view_is) c.in_ok-node.ensures.within

pub returns-clause-added : goal.returns-clause-added
returns-clause-added c =
    with_same (table_of c.args.self.now) (table_of (record { edges = c.self-2.inside.edges; ends = c.self-2.inside.ends.items })) _ (clean c.args.prefix.now) c.args.endpoint
    (λ prefix. ap (λ (k : Kept). table_of k prefix) c.self-2.view_is ∙ c.node_at.ensures.same prefix)
    (ended_with c.self-2.inside.edges c.self-2.inside.ends.items (slice_set c.self-2.inside.ends.items c.in_ok-node.node (Some c.args.endpoint)) c.self-2.invariant
    c.in_ok-node.node c.args.endpoint (clean c.args.prefix.now) (leads c)
    (end_set c.self-2.inside.ends.items c.in_ok-node.node c.args.endpoint (within c))
    (end_kept c.self-2.inside.ends.items c.in_ok-node.node c.args.endpoint))

-- Where no test holds, nothing refuses it.
use Rattle.std.proofs.Common.{◌≡◌, ◌∙◌, ◌∷◌, [], Bool, true, false, nat_le, None, ap, refl, sym}
use Rattle.std.proofs.lemmas.Bool.{lt-leb}
use Rattle.std.specs.FinMap as finite
use Rattle.fidl_names.specs.declared.limits.TheConstants as limit
use Rattle.fidl_names.specs.First.{cause_if, first_of}
use Rattle.node_graph.specs.declared.faults.GraphFault.TheVariants as fault
use Rattle.node_graph.specs.Graph.{number_of}
use Rattle.node_graph.specs.Tree.{is_removed}
use Rattle.dir_conn.proofs.make.absent_fault.Goals as goal

none_holds : (removed many : Bool) → removed ≡ false → many ≡ false →
    None ≡ first_of (cause_if removed fault.Removed ∷ cause_if many fault.NoSpace ∷ [])
none_holds false false a b = refl
none_holds true many a b = absurd (cc)
none_holds false true a b = absurd (cc)

pub returns : goal.returns
returns c =
    none_holds (is_removed c.args.graph.now.edges (number_of c.args.directory)) (nat_le limit.MAX_NAMES (finite.len c.args.graph.now.edges))
    (sym c.removed.ensures ∙ c.if-removed.false)
    (ap (nat_le limit.MAX_NAMES) (sym c.names.ensures) ∙ lt-leb limit.MAX_NAMES c.names.result c.if-names-ge-MAX_NAMES.false)

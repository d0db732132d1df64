-- What an Open that creates is refused with, where the name is missing.
use Rattle.std.proofs.Common.{◌≡◌, ℕ, Bool, true, false, [], ◌∷◌, Option, Some, None, refl, ap}
use Rattle.std.specs.Prelude.{nat_le, not, is_some}
use Rattle.std.specs.FinMap as finite
use Rattle.fidl_names.specs.First.{cause_if, first_of}
use Rattle.fidl_names.specs.declared.limits.TheConstants as limit
use Rattle.fidl_names.specs.declared.statuses.Status.TheVariants as status
use Rattle.io_flags.specs.Words.{creates}
use Rattle.node_graph.specs.declared.faults.GraphFault.{GraphFault}
use Rattle.node_graph.specs.declared.faults.GraphFault.TheVariants as fault
use Rattle.node_graph.specs.Graph.{create_refusal}
use Rattle.node_graph.specs.Tree.{Edges, EdgeKey, Tree, is_removed}
use Rattle.conn_rules.specs.declared.births.Room.{Room}
use Rattle.conn_rules.specs.Opens.{is_full, making_refusals}
use Rattle.conn_rules.specs.Refusals.{as_status}
use Rattle.dir_conn.specs.Opened.{absent_refusal, absent_refusals}

-- at a name that is missing, what the graph refuses doesn't depend on the name
refused_where_absent : (edges : Edges) (key : EdgeKey) → finite.get edges key ≡ None →
    absent_refusal edges key.directory ≡ create_refusal edges key
refused_where_absent edges key absent =
    by_parts (is_removed edges key.directory) (is_some (finite.get edges key)) (nat_le limit.MAX_NAMES (finite.len edges)) (ap is_some absent)
  where
    by_parts : (removed there many : Bool) → there ≡ false →
        first_of (cause_if removed fault.Removed ∷ cause_if many fault.NoSpace ∷ [])
        ≡ first_of (cause_if removed fault.Removed ∷ cause_if there fault.Exists ∷ cause_if many fault.NoSpace ∷ [])
    by_parts true there many free = refl
    by_parts false true many free = absurd (cc)
    by_parts false false many free = refl

pub making_refused_as : (edges : Edges) (tree : Tree) (room : Room) (word : ℕ) (key : EdgeKey) → tree.edges ≡ edges → finite.get edges key ≡ None →
    first_of (absent_refusals edges room word key.directory) ≡ first_of (making_refusals tree room word key)
making_refused_as edges tree room word key same absent =
    rw same
    (ap (λ made. first_of (cause_if (not (creates word)) status.NotFound ∷ as_status made ∷ cause_if (is_full room) status.NoResources ∷ []))
    (refused_where_absent edges key absent))

-- behind these refusals a name that is missing is refused by none of the graph's
pub nothing_refused : (edges : Edges) (room : Room) (word : ℕ) (key : EdgeKey) → finite.get edges key ≡ None →
    None ≡ first_of (absent_refusals edges room word key.directory) → create_refusal edges key ≡ None
nothing_refused edges room word key absent none =
    by_parts (not (creates word)) (is_full room) (absent_refusal edges key.directory) (create_refusal edges key) (refused_where_absent edges key absent) none
  where
    by_parts : (makes full : Bool) (made real : Option GraphFault) → made ≡ real →
        None ≡ first_of (cause_if makes status.NotFound ∷ as_status made ∷ cause_if full status.NoResources ∷ []) → real ≡ None
    by_parts true full made real same none = absurd (cc)
    by_parts false full (Some refused) real same none = absurd (cc)
    by_parts false full None real same none = cc

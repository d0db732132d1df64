-- What an Unlink does by whether it is refused.
use Rattle.std.proofs.Common.{◌≡◌, ℕ, Bool, true, false, List, [], ◌∷◌, Option, Some, None, Result, Ok, Err, refl, sym}
use Rattle.fidl_names.specs.First.{cause_if, first_of}
use Rattle.fidl_names.specs.declared.methods.Method.TheVariants as method
use Rattle.fidl_names.specs.declared.statuses.Status.{Status}
use Rattle.fidl_names.specs.declared.statuses.Status.TheVariants as status
use Rattle.node_graph.specs.declared.faults.GraphFault.{GraphFault}
use Rattle.node_graph.specs.Graph.{Settles}
use Rattle.conn_rules.specs.Answers.{failure_of, only}
use Rattle.conn_rules.specs.Contexts.{Context}
use Rattle.conn_rules.specs.NameRows.{name_in, unlink_act, unlink_refusals, unlinked}
use Rattle.conn_rules.specs.Refusals.{as_status, fault_status}

pub unlink_refused : (context : Context) (name : List ℕ) (flags : ℕ) (status : Status) →
    Some status ≡ first_of (unlink_refusals context.tree (name_in context.birth.node name) flags) →
    unlink_act context name flags ≡ only context.position (failure_of method.Unlink status)
unlink_refused context name flags status is = rw (sym is) refl

pub unlink_done : (context : Context) (name : List ℕ) (flags : ℕ) →
    None ≡ first_of (unlink_refusals context.tree (name_in context.birth.node name) flags) →
    unlink_act context name flags ≡ unlinked context (name_in context.birth.node name)
unlink_done context name flags none = rw (sym none) refl

-- ---- the first refusal, by the name and what the graph answers

pub bad_refuses : (bad : Bool) (refusal : Option GraphFault) → bad ≡ true → Some status.InvalidArgs ≡ first_of (cause_if bad status.InvalidArgs ∷ as_status refusal ∷ [])
bad_refuses true refusal bad = refl
bad_refuses false refusal bad = cc

pub none_refuses : {T : Type 0} (bad : Bool) (result : Result T GraphFault) (value : T) (refusal : Option GraphFault) →
    bad ≡ false → result ≡ Ok value → Settles result refusal → None ≡ first_of (cause_if bad status.InvalidArgs ∷ as_status refusal ∷ [])
none_refuses false result value None fits is settles = refl
none_refuses false result value (Some fault) fits is settles = cc
none_refuses true result value refusal fits is settles = cc

pub graph_refuses : {T : Type 0} (bad : Bool) (result : Result T GraphFault) (fault : GraphFault) (refusal : Option GraphFault) →
    bad ≡ false → result ≡ Err fault → Settles result refusal → Some (fault_status fault) ≡ first_of (cause_if bad status.InvalidArgs ∷ as_status refusal ∷ [])
graph_refuses false (Ok value) fault refusal fits is settles = cc
graph_refuses false (Err given) fault None fits is settles = cc
graph_refuses false (Err given) fault (Some found) fits is settles = cc
graph_refuses true result fault refusal fits is settles = cc

-- Words of steps: what comes of filling a file anew.
use Rattle.std.specs.Prelude.{◌≡◌, ◌≢◌, true, Option, Some, None, Result, Ok, Err}
use Rattle.fidl_names.specs.declared.statuses.Status.{Status}
use Rattle.fidl_names.specs.declared.statuses.Status.TheVariants as status
use Rattle.node_graph.specs.declared.faults.GraphFault.{GraphFault}
use Rattle.node_graph.specs.declared.faults.GraphFault.TheVariants as fault
use Rattle.node_graph.specs.Graph.{Kept, Leads}
use Rattle.node_graph.specs.Tree.{Change}
use Rattle.conn_rules.specs.Served.{takes_memory}
use Rattle.file_conn.specs.declared.filling.Filled.{Filled}
use Rattle.file_conn.specs.declared.filling.Filled.TheVariants as filled

-- what the graph's answer is to a file: it refuses no other way
abbrev pub filled_as : {T : Type 0} → Result T GraphFault → Filled
filled_as (Ok done) = filled.Done
filled_as (Err fault.FileBig) = filled.Refused status.FileBig
filled_as (Err other) = filled.NoMemory

-- the change is made where nothing refuses it and memory is there; else nothing is changed
abbrev pub Comes : Filled → Option Status → Change → Kept → Kept → Type 0
Comes filled.Done refusal change before after = (refusal ≡ None) × Leads before after change
Comes (filled.Refused given) refusal change before after =
    (refusal ≡ Some given) × (given ≢ status.Ok) × (after ≡ before)
Comes filled.NoMemory refusal change before after =
    (refusal ≡ None) × (takes_memory change ≡ true) × (after ≡ before)

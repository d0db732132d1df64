-- What a refusal does to a request.
use Rattle.std.specs.Prelude.{Bool, not, Option, Some, None}
use Rattle.std.specs.Option.{option_map}
use Rattle.fidl_names.specs.declared.methods.Method.{Method}
use Rattle.fidl_names.specs.declared.statuses.Status.{Status}
use Rattle.fidl_names.specs.declared.statuses.Status.TheVariants as status
use Rattle.io_rights.specs.Operations.{OperationSet, is_within}
use Rattle.node_graph.specs.declared.faults.GraphFault.{GraphFault}
use Rattle.node_graph.specs.declared.faults.GraphFault.TheVariants as fault
use Rattle.conn_rules.specs.Births.{Position}
use Rattle.conn_rules.specs.Answers.{Act, only, failure_of}

-- a request of the method fails with the refusal, or is answered by this where there is none
abbrev pub unless : Option Status → Position → Method → Act → Act
unless (Some status) position method act = only position (failure_of method status)
unless None position method act = act

-- some of these rights are wanting
abbrev pub lacks : OperationSet → OperationSet → Bool
lacks have wanted = not (is_within wanted have)

-- what a request fails with where the graph refuses what it asks for
abbrev pub fault_status : GraphFault → Status
fault_status fault.NotFound = status.NotFound
fault_status fault.Exists = status.AlreadyExists
fault_status fault.NotDir = status.NotDir
fault_status fault.NotFile = status.NotFile
fault_status fault.NotEmpty = status.NotEmpty
fault_status fault.Loop = status.InvalidArgs
fault_status fault.Removed = status.BadState
fault_status fault.Unsupported = status.NotSupported
fault_status fault.NoSpace = status.NoSpace
fault_status fault.FileBig = status.FileBig
fault_status fault.NoMemory = status.NoMemory

abbrev pub as_status : Option GraphFault → Option Status
as_status = option_map fault_status

-- The right that each method needs of the connection that it is called on.
use Rattle.std.specs.Prelude.{Option, Some, None}
use Rattle.fidl_names.specs.declared.methods.Method.{Method}
use Rattle.fidl_names.specs.declared.methods.Method.TheVariants as method
use Rattle.io_rights.specs.declared.operations.Operation.TheVariants as op
use Rattle.io_rights.specs.Operations.{OperationSet, single}

-- None where none is needed. Open is None too: what it needs depends on its flags and path.
abbrev pub needed_by : Method → Option OperationSet
needed_by method.Clone = None
needed_by method.Close = None
needed_by method.Query = None
needed_by method.GetAttributes = Some (single op.GetAttributes)
needed_by method.Sync = None
needed_by method.OpenPath = None
needed_by method.ReadDirents = Some (single op.Enumerate)
needed_by method.Rewind = None
needed_by method.GetToken = Some (single op.ModifyDirectory)
needed_by method.Rename = Some (single op.ModifyDirectory)
needed_by method.Link = Some (single op.ModifyDirectory)
needed_by method.Unlink = Some (single op.ModifyDirectory)
needed_by method.Watch = Some (single op.Enumerate)
needed_by method.Read = Some (single op.ReadBytes)
needed_by method.ReadAt = Some (single op.ReadBytes)
needed_by method.Write = Some (single op.WriteBytes)
needed_by method.WriteAt = Some (single op.WriteBytes)
needed_by method.Seek = None
needed_by method.Resize = Some (single op.WriteBytes)
needed_by method.EchoString = Some (single op.Connect)

-- The shape of each method's reply.
use Rattle.std.specs.Prelude.{Bool, Option, Some, None, is_none}
use Rattle.fidl_names.specs.declared.methods.Method.{Method}
use Rattle.fidl_names.specs.declared.methods.Method.TheVariants as method
use Rattle.io_messages.specs.declared.replies.Shape.{Shape}
use Rattle.io_messages.specs.declared.replies.Shape.TheVariants as shape

-- a method without a reply is one-way
abbrev pub shape_of : Method → Option Shape
shape_of method.Clone = None
shape_of method.Close = Some shape.Done
shape_of method.Query = Some shape.Vector
shape_of method.GetAttributes = Some shape.Attributes
shape_of method.Sync = Some shape.Done
shape_of method.OpenPath = None
shape_of method.ReadDirents = Some shape.Listing
shape_of method.Rewind = Some shape.Settled
shape_of method.GetToken = Some shape.Token
shape_of method.Rename = Some shape.Done
shape_of method.Link = Some shape.Settled
shape_of method.Unlink = Some shape.Done
shape_of method.Watch = Some shape.Settled
shape_of method.Read = Some shape.Bytes
shape_of method.ReadAt = Some shape.Bytes
shape_of method.Write = Some shape.Number
shape_of method.WriteAt = Some shape.Number
shape_of method.Seek = Some shape.Number
shape_of method.Resize = Some shape.Done
shape_of method.EchoString = Some shape.Text

abbrev pub is_one_way : Method → Bool
is_one_way m = is_none (shape_of m)

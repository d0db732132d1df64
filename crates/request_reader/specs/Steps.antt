-- Words of steps: the fields of a request, read one by one.
use Rattle.std.specs.Prelude.{◌≡◌, ℕ, ◌≤◌, length, Ok}
use Rattle.fidl_names.specs.declared.methods.Method.{Method}
use Rattle.fidl_names.specs.declared.methods.Method.TheVariants as method
use Rattle.fidl_wire.specs.Cursor.{Cursor}
use Rattle.fidl_wire.specs.Reading.{◌>>=◌, Step, cells_at}
use Rattle.io_messages.specs.Asked.{Asked}
use Rattle.io_messages.specs.Requests.{request_cells, asked_from}

-- what the fields of a method's request say, and where reading goes on
unfoldable pub asked_at : Method → Cursor → Step Asked
asked_at m c = cells_at (request_cells m) c >>= λ r. Ok (asked_from m r.0, r.1)

-- what stands out of line begins at this place, within the message
pub record Begins (place : ℕ) (c : Cursor) : Type 0 where
  pub out : c.out ≡ place
  pub within : c.out ≤ length c.message

-- before the fields of a method's request that lends parts of the message
abbrev pub IsBefore : Method → Cursor → Type 0
IsBefore method.OpenPath c = Begins 64 c
IsBefore method.Rename c = Begins 56 c
IsBefore method.Link c = Begins 56 c
IsBefore method.Unlink c = Begins 48 c
IsBefore method.Write c = Begins 32 c
IsBefore method.WriteAt c = Begins 40 c
IsBefore method.EchoString c = Begins 32 c
IsBefore _ c = Unit {0}

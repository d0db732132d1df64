-- Where the reading of a message stands.
use Rattle.std.specs.Prelude.{ℕ, ◌+◌, List, length, Option, None, Result, Ok, Err, nat_lt, if◌then◌else◌}
use Rattle.fidl_names.specs.declared.methods.Handle.{Handle}
use Rattle.fidl_wire.specs.declared.reading.Opened.{Opened}
use Rattle.fidl_wire.specs.declared.reading.Outside.{Outside}
use Rattle.fidl_wire.specs.declared.faults.WireFault.{WireFault}
use Rattle.fidl_wire.specs.declared.faults.WireWhat.TheVariants.{Short}
use Rattle.fidl_wire.specs.Numbers.{padded}
use Rattle.fidl_wire.specs.Headers.{fault}

pub record Cursor : Type 0 where
  pub message : List ℕ
  -- the handles that no field took yet
  pub handles : List Handle
  -- the next byte of the object that is read, and that object's end
  pub place : ℕ
  pub end : ℕ
  -- where the next out-of-line object begins
  pub out : ℕ
  -- the envelope of the branch that is read
  pub opened : Option Opened

abbrev pub outside_of : Cursor → Outside
outside_of c = record { out = c.out; left = length c.handles }

-- behind the header, before a primary object of so many bytes
abbrev pub start : List ℕ → List Handle → ℕ → Cursor
start message handles size =
    record { message = message; handles = handles; place = 16; end = 16 + size; out = 16 + padded size; opened = None }

abbrev pub start_of : List ℕ → List Handle → ℕ → Result Cursor WireFault
start_of message handles size =
    if nat_lt (length message) (16 + padded size) then Err (fault (length message) Short)
    else Ok (start message handles size)

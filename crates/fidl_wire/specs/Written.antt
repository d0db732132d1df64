-- What stands in an output: the bytes of a message, and its handles.
use Rattle.std.specs.Prelude.{◌≡◌, ℕ, ◌+◌, ◌≤◌, List, ◌++◌, length, replicate}
use Rattle.fidl_names.specs.declared.limits.TheConstants as limit
use Rattle.fidl_names.specs.declared.methods.Handle.{Handle}
use Rattle.fidl_wire.specs.Numbers.{padding_after}

pub record Written : Type 0 where
  pub bytes : List ℕ
  pub handles : List Handle

-- bytes and the zeros up to a multiple of eight
abbrev pub padded_bytes : List ℕ → List ℕ
padded_bytes bytes = bytes ++ replicate (padding_after (length bytes)) 0

-- an output has no more than a message may have, and room for all of it and for eight zeros behind: its bytes, their room, its handles, their capacity
pub record HasRoom (bytes bytes_room handles handles_capacity : ℕ) : Type 0 where
  pub bytes_fit : bytes ≤ limit.MAX_BYTES
  pub bytes_have : bytes_room ≡ limit.MAX_BYTES + 8
  pub handles_fit : handles ≤ limit.MAX_HANDLES
  pub handles_room : limit.MAX_HANDLES ≤ handles_capacity

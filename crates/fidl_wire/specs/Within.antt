-- What a cursor stands on, and what it lends, lies within its message.
use Rattle.std.specs.Prelude.{◌≡◌, ℕ, ◌+◌, ◌%◌, ◌≤◌, List, length, slice_range}
use Rattle.fidl_wire.specs.declared.reading.Outside.{Outside}
use Rattle.fidl_wire.specs.Cursor.{Cursor}
use Rattle.fidl_wire.specs.Numbers.{padded}

-- what was read out of line lies within a message of this length, in steps of eight
pub record IsPlaced (length : ℕ) (o : Outside) : Type 0 where
  pub within : o.out ≤ length
  pub aligned : o.out % 8 ≡ 0

-- the object that is read and its padding lie within the message, and what was read out of line too, in steps of eight
pub record IsWithin (c : Cursor) : Type 0 where
  pub place : c.place ≤ c.end
  pub end : padded c.end ≤ length c.message
  pub out : c.out ≤ length c.message
  pub aligned : c.out % 8 ≡ 0

-- the bytes are those of the message where the next out-of-line object stands
abbrev pub IsPart : List ℕ → Cursor → Type 0
IsPart bytes c = bytes ≡ slice_range c.message c.out (c.out + length bytes)

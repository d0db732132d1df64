-- How the fields that are written are spelled.
use Rattle.std.specs.Prelude.{ℕ, ◌+◌, List, [], ◌∷◌, length, replicate, Option, Some, None}
use Rattle.fidl_wire.specs.Grammar.{Part, nothing, join}
use Rattle.fidl_names.specs.Numbers.{number_bytes}
use Rattle.fidl_wire.specs.Layout.{Member, a_number, a_vector}
use Rattle.fidl_wire.specs.Numbers.{padded}
use Rattle.fidl_wire.specs.Told.{all_told}
use Rattle.fidl_wire.specs.Spelling.{inline_part, handle_part, list_part_of, object_bytes, table_part}
use Rattle.io_messages.specs.declared.fields.Field.{Field}
use Rattle.io_messages.specs.declared.fields.Field.TheVariants.{Word, Long, Blank, Held, Absent, Bytes, Table}

abbrev pub part_of : Field → Part
part_of (Word x) = inline_part (number_bytes 4 x)
part_of (Long x) = inline_part (number_bytes 8 x)
part_of Blank = inline_part (replicate 4 0)
part_of (Held h) = handle_part (Some h)
part_of Absent = handle_part None
part_of (Bytes bytes) = list_part_of bytes.now
part_of (Table members) = table_part (all_told members.now)

-- one behind another
abbrev pub parts_of : List Field → Part
parts_of [] = nothing
parts_of (f ∷ fs) = join (part_of f) (parts_of fs)

-- their bytes, without the padding behind them
abbrev pub part_size : Field → ℕ
part_size f = length (part_of f).inline + length (part_of f).outside

abbrev pub parts_size : List Field → ℕ
parts_size fs = length (parts_of fs).inline + length (parts_of fs).outside

-- the bytes of members' envelopes, and of what they hold
abbrev pub slot_of : Option Member → ℕ
slot_of None = 8
slot_of (Some (a_number x)) = 16
slot_of (Some (a_vector xs)) = 24 + padded (length xs)

abbrev pub slots_of : List (Option Member) → ℕ
slots_of [] = 0
slots_of (v ∷ vs) = slot_of v + slots_of vs

-- an object that is a list of bytes
abbrev pub list_object : List ℕ → List ℕ
list_object xs = object_bytes (join (list_part_of xs) nothing)

-- and one that is two tables
abbrev pub tables_object : List (Option Member) → List (Option Member) → List ℕ
tables_object first second = object_bytes (join (table_part first) (join (table_part second) nothing))

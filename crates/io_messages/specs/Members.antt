-- Members of tables that are numbers.
use Rattle.std.specs.Prelude.{ℕ, List, map, Option, Some, None}
use Rattle.std.specs.Option.{option_map}
use Rattle.fidl_wire.specs.Layout.{Member, a_number, a_vector}

-- members that are numbers
abbrev pub numbers : List (Option ℕ) → List (Option Member)
numbers values = map (option_map a_number) values

-- the number that a member is
abbrev pub number_of : Option Member → Option ℕ
number_of (Some (a_number x)) = Some x
number_of (Some (a_vector xs)) = None
number_of None = None

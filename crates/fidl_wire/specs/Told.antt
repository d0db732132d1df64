-- What a member of a table has, without where its bytes lie in memory.
use Rattle.std.specs.Prelude.{List, map, Option}
use Rattle.std.specs.Option.{option_map}
use Rattle.fidl_wire.specs.declared.kinds.Member.{Member as MemberNow}
use Rattle.fidl_wire.specs.declared.kinds.Member.TheVariants as member
use Rattle.fidl_wire.specs.Layout.{Member, a_number, a_vector}

abbrev pub told : MemberNow → Member
told (member.Number x) = a_number x
told (member.Bytes bytes) = a_vector bytes.now

abbrev pub all_told : List (Option MemberNow) → List (Option Member)
all_told values = map (option_map told) values

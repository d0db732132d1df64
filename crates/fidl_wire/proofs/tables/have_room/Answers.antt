use Rattle.std.proofs.Common.{◌≡◌, ℕ, ◌+◌, ◌-◌, ◌*◌, ◌/◌, ◌≤◌, nat_le, refl, arith}
use Rattle.std.proofs.lemmas.Bool.Decides.{nat_tests}
use Rattle.fidl_wire.proofs.tables.have_room.Goals as goal

room_is : (first count length room : ℕ) → first ≤ length → room ≡ (length - first) / 8 → nat_le count room ≡ nat_le (first + 8 * count) length
room_is first count length room within is = grind (arith, nat_tests)

pub returns : goal.returns
returns c = room_is c.args.first c.args.count c.args.length _ c.requires refl

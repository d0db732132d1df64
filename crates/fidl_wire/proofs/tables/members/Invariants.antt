use Rattle.std.proofs.Common.{◌≡◌, ◌+◌, ◌-◌, ◌*◌, ◌≤◌, take, drop, length, None, replicate}
use Rattle.fidl_wire.specs.Within.{IsPlaced}
use Rattle.fidl_wire.specs.Reading.{members_at}
use Rattle.fidl_wire.specs.Told.{all_told}
use Rattle.fidl_wire.proofs.Members.{behind}
use Rattle.fidl_wire.proofs.tables.members.Given as goal

-- the members of all envelopes are those so far, and behind them those of the envelopes that are left
abbrev pub invariant-loop-i : goal.invariant-loop-i
invariant-loop-i l = record {
  placed : IsPlaced (length l.message) l.outside;
  left : l.outside.left ≤ l.fn.start.left;
  same : length (all_told l.values) ≡ length l.kinds;
  none : drop l.i (all_told l.values) ≡ replicate (length (all_told l.values) - l.i) None;
  so_far :
      members_at l.kinds l.first l.count l.message l.fn.start
      ≡ behind (take l.i (all_told l.values)) (members_at (drop l.i l.kinds) (l.first + 8 * l.i) (l.count - l.i) l.message l.outside);
}

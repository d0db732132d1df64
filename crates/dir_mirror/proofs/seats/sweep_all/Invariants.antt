use Rattle.std.proofs.Common.{◌≡◌}
use Rattle.std.specs.BTreeMap.{IsOrdered}
use Rattle.std.specs.Cmp.Lexicographic.{slice_cmp}
use Rattle.std.specs.Ordering.{nat_cmp}
use Rattle.dir_mirror.specs.Seats.{names_of}
use Rattle.dir_mirror.proofs.seats.sweep_all.Given as goal

abbrev pub invariant-loop-one : goal.invariant-loop-one
invariant-loop-one l = record {
  ordered : IsOrdered (λ a b. slice_cmp nat_cmp a.items b.items) l.seats;
  names : names_of (λ key. key.items) l.seats.entries ≡ names_of (λ key. key.items) l.initial.seats.entries;
}

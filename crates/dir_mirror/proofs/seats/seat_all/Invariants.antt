use Rattle.std.proofs.Common.{◌≡◌, ℕ, List, Some, true}
use Rattle.std.specs.Prelude.{All, IsTrue, is_some}
use Rattle.std.specs.BTreeMap.{IsOrdered}
use Rattle.std.specs.Cmp.Lexicographic.{slice_cmp}
use Rattle.std.specs.Ordering.{nat_cmp}
use Rattle.watch_events.specs.Events.{AreEvents, Event, left}
use Rattle.dir_mirror.specs.Seats.{change_of, is_there, names_of, seat_of}
use Rattle.dir_mirror.proofs.Walked.{Walked}
use Rattle.dir_mirror.proofs.seats.seat_all.Given as goal

abbrev pub invariant-loop-one : goal.invariant-loop-one
invariant-loop-one l = record {
  ordered : IsOrdered (λ a b. slice_cmp nat_cmp a.items b.items) l.seats;
  names : names_of (λ key. key.items) l.seats.entries ≡ names_of (λ key. key.items) l.initial.seats.entries;
  there : (name : List ℕ) → is_there (λ key. key.items) l.seats name ≡ is_there (λ key. key.items) l.initial.seats name;
  seated : (events : List Event) (rest : List ℕ) → AreEvents l.bytes events rest → Walked (left l.one-iterator) events rest
      (λ given. All (λ one. change_of one ≡ Some true → IsTrue (is_some (seat_of (λ key. key.items) l.seats one.name))) given);
}

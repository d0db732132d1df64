use Rattle.std.proofs.Common.{◌≡◌, ℕ, List}
use Rattle.std.specs.Prelude.{is_some}
use Rattle.std.specs.BTreeMap.{IsOrdered}
use Rattle.std.specs.Cmp.Lexicographic.{slice_cmp}
use Rattle.std.specs.Ordering.{nat_cmp}
use Rattle.watch_events.specs.Events.{AreEvents, Event, left}
use Rattle.dir_mirror.specs.Seats.{after_events, is_there, seat_of}
use Rattle.dir_mirror.proofs.Walked.{Walked}
use Rattle.dir_mirror.proofs.seats.mark_all.Given as goal

abbrev pub invariant-loop-one : goal.invariant-loop-one
invariant-loop-one l = record {
  ordered : IsOrdered (λ a b. slice_cmp nat_cmp a.items b.items) l.seats;
  seats : (name : List ℕ) → is_some (seat_of (λ key. key.items) l.seats name) ≡ is_some (seat_of (λ key. key.items) l.initial.seats name);
  told : (events : List Event) (rest : List ℕ) → AreEvents l.bytes events rest → Walked (left l.one-iterator) events rest
      (λ given. (name : List ℕ) → is_there (λ key. key.items) l.seats name ≡ after_events (is_there (λ key. key.items) l.initial.seats name) given name);
}

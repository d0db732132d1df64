-- What the events of one message make of a copy. No public clause needs this.
use Rattle.std.specs.Prelude.{◌≡◌, ◌||◌, ◌↔◌, ℕ, Bool, IsTrue, Contains, List}
use Rattle.std.specs.Cmp.Lexicographic.{slice_cmp}
use Rattle.std.specs.List.{list_any}
use Rattle.std.specs.List.Sorted.{IsStrictlySortedBy}
use Rattle.std.specs.Ordering.{nat_cmp}
use Rattle.watch_events.specs.Events.{Event}
use Rattle.dir_mirror.specs.Copies.{Copy, is_deletion}
use Rattle.dir_mirror.specs.Seats.{after_events}

-- the names are those behind the events, in the order of their bytes
pub record TakesEvents (old : Copy) (events : List Event) (new : Copy) : Type 0 where
  pub ascending : IsStrictlySortedBy (slice_cmp nat_cmp) new.names
  pub named : (was : Bool) (name : List ℕ) → (Contains old.names name ↔ IsTrue was) → Contains new.names name ↔ IsTrue (after_events was events name)
  pub ended : new.ended ≡ (list_any is_deletion events || old.ended)

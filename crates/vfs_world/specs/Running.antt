-- What a session keeps, as a world that isn't spent; and that it runs.
use Rattle.std.specs.Prelude.{◌≡◌, ◌≤◌, ◌+◌, ◌*◌, ℕ, Bool, false, OnOk, Result}
use Rattle.fidl_names.specs.declared.limits.TheConstants as limit
use Rattle.fidl_wire.specs.Names.{AreDistinct}
use Rattle.vfs_journal.specs.Entries.{Journal}
use Rattle.vfs_journal.specs.Starts.{Start}
use Rattle.journal_laws.specs.Viewing.{view_behind}
use Rattle.vfs_world.specs.declared.session.Session.{Session}
use Rattle.vfs_world.specs.Places.{places_left}
use Rattle.vfs_world.specs.World.{StandsFor, World}

abbrev pub whole : Session → World
whole session = record {
  servers = session.servers.items;
  queues = session.queues;
  known = session.endpoints;
  places = session.places;
  spent = false;
  frames = 0;
}

-- names are told apart, and it stands for a journal whose places, with those that what waits can still take, are no more than so many
pub record IsRunning (most : ℕ) (world : World) : Type 0 where
  pub apart : AreDistinct
  pub start : Start
  pub journal : Journal
  pub stands : StandsFor start world journal
  pub few : (view_behind start journal).places + places_left (view_behind start journal) ≤ most

-- what is done keeps it running in as many places
abbrev pub RunsOn : {A E : Type 0} → Result A E → World → World → Type 0
RunsOn result old new = (most : ℕ) → IsRunning most old → OnOk result (IsRunning most new)

-- what accepts a frame keeps it running in those of a frame more
abbrev pub RunsOnByAFrame : {A E : Type 0} → Result A E → World → World → Type 0
RunsOnByAFrame result old new = (most : ℕ) → IsRunning most old → OnOk result (IsRunning (most + limit.FRAME_PLACES) new)

-- each accepted frame takes so many places at most, its own and those of its servings, so that places don't run out
abbrev pub IsWithin : World → Bool → ℕ → Type 0
IsWithin world spent frames = spent ≡ false → IsRunning (limit.FRAME_PLACES * frames) world × (frames ≤ limit.MAX_FRAMES)

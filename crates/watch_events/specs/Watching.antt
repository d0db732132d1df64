-- Who watches which directory of a server.
use Rattle.std.specs.Prelude.{◌≡◌, ℕ, ◌==◌, Bool, not, if◌then◌else◌, List, [], ◌∷◌, ◌++◌, filter}
use Rattle.std.specs.FinMap as finite
use Rattle.std.specs.List.{list_any}
use Rattle.std.specs.Option.{option_map_or}
use Rattle.std.specs.Ordering.{nat_cmp}
use Rattle.watch_events.specs.Messages.{Watcher}

-- by a directory's number its watchers, in order of registration
abbrev pub Watching : Type 0
Watching = finite.FinMap nat_cmp (List Watcher)

abbrev pub watchers_of : Watching → ℕ → List Watcher
watchers_of watching directory = option_map_or (λ watchers. watchers) (finite.get watching directory) []

abbrev pub is_among : ℕ → List Watcher → Bool
is_among endpoint watchers = list_any (λ watcher. watcher.endpoint == endpoint) watchers

-- a watcher comes last at a directory, and nothing else changes
abbrev pub Adds : Watching → ℕ → Watcher → Watching → Type 0
Adds old directory watcher new =
    (other : ℕ) → watchers_of new other ≡ (if other == directory then watchers_of old other ++ watcher ∷ [] else watchers_of old other)

-- an endpoint watches a directory no more, and nothing else changes
abbrev pub Removes : Watching → ℕ → ℕ → Watching → Type 0
Removes old directory endpoint new =
    (other : ℕ) → watchers_of new other ≡
    (if other == directory then filter (λ watcher. not (watcher.endpoint == endpoint)) (watchers_of old other) else watchers_of old other)

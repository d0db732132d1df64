-- How the watchers of a server are kept. No public clause needs this.
use Rattle.std.specs.Prelude.{◌≡◌, ◌≤◌, ℕ, List, length, Some}
use Rattle.std.specs.BTreeMap as tree
use Rattle.std.specs.FinMap as finite
use Rattle.std.specs.Ordering.{nat_cmp}
use Rattle.fidl_names.specs.declared.limits.TheConstants as limit
use Rattle.watch_events.specs.Messages.{Watcher}
use Rattle.watch_events.specs.Watching.{Watching}

abbrev pub watcher_of : ℕ × ℕ → Watcher
watcher_of entry = record { endpoint = entry.0; mask = entry.1 }

unfoldable pub watching_of : tree.BTreeMap ℕ (List Watcher) → Watching
watching_of rows = finite.from_entries rows.entries

-- each directory that is there has a watcher, and no more than it may have
abbrev pub AreKept : tree.BTreeMap ℕ (List Watcher) → Type 0
AreKept rows = (directory : ℕ) (row : List Watcher) → tree.get nat_cmp rows directory ≡ Some row → (1 ≤ length row) × (length row ≤ limit.MAX_WATCHERS)

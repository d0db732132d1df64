-- The code by which the watchers of a server are told apart.
use Rattle.std.specs.Prelude.{ℕ, refl}
use Rattle.std.specs.Coded.{Coded, code_by, coded×, coded_ℕ, coded_list}
use Rattle.std.specs.FinMap as finite
use Rattle.watch_events.specs.Messages.{Watcher}
use Rattle.watch_events.specs.Watching.{Watching}

abbrev pub watcher_code : Coded Watcher
watcher_code = code_by (ℕ × ℕ) (coded× coded_ℕ coded_ℕ) (λ w. (w.endpoint, w.mask)) (λ p. record { endpoint = p.0; mask = p.1 }) (λ _. refl)

abbrev pub watching_code : Coded Watching
watching_code = finite.code coded_ℕ (coded_list watcher_code)

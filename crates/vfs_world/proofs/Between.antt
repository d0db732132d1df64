-- The view between the steps of a serving.
use Rattle.std.proofs.Common.{ℕ, ◌++◌, map, option_to_list, Option}
use Rattle.conn_rules.specs.Births.{fresh}
use Rattle.vfs_journal.specs.History.{changed}
use Rattle.vfs_journal.specs.Outcomes.{Given, Outcome}
use Rattle.vfs_journal.specs.Starts.{Bound}
use Rattle.vfs_journal.specs.View.{View, moved}

-- the endpoint that was served has its new position, and the tree its change
abbrev pub answered_in : View → ℕ → Outcome → View
answered_in view endpoint outcome =
    record view { living = map (moved endpoint outcome.position) view.living; trees = changed view.trees outcome.server outcome.change }

-- what is bound is the newest
abbrev pub bound_in : View → Option Bound → View
bound_in view bound = record view { living = view.living ++ map (λ one. (one, fresh)) (option_to_list bound) }

-- the clients hold the token that is given
abbrev pub given_in : View → Option Given → View
given_in view token = record view { given = view.given ++ option_to_list token; held = view.held ++ option_to_list token }

use Rattle.std.proofs.Common.{◌≡◌, List, [], take, drop}
use Rattle.session_start.specs.RulesOnLists.{Place, first_failing, client_fits}
use Rattle.tree_file.specs.Kept.{Stands}
use Rattle.tree_file.proofs.rules.misplaced_client.Given as goal

abbrev pub invariant-loop-item : goal.invariant-loop-item
invariant-loop-item l =
    (listed : List Place) → Stands l.places listed
    → first_failing (client_fits listed) [] l.clients ≡ first_failing (client_fits listed) (take l.item l.clients) (drop l.item l.clients)

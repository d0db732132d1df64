use Rattle.std.proofs.Common.{◌≡◌, [], take, drop}
use Rattle.session_start.specs.RulesOnLists.{first_failing, names_fit}
use Rattle.tree_file.proofs.rules.crowded_server.Given as goal

abbrev pub invariant-loop-server : goal.invariant-loop-server
invariant-loop-server l = first_failing (names_fit l.nodes l.mounts) [] l.names ≡ first_failing (names_fit l.nodes l.mounts) (take l.server l.names) (drop l.server l.names)

use Rattle.std.proofs.Common.{◌≡◌, [], take, drop}
use Rattle.session_start.specs.RulesOnLists.{first_failing, connections_fit}
use Rattle.tree_file.proofs.rules.busy_server.Given as goal

abbrev pub invariant-loop-server : goal.invariant-loop-server
invariant-loop-server l = first_failing (connections_fit l.mounts l.clients) [] l.names ≡ first_failing (connections_fit l.mounts l.clients) (take l.server l.names) (drop l.server l.names)

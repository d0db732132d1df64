use Rattle.vfs_server.specs.Beginning.{HoldsJust, bound_among}
use Rattle.vfs_server.proofs.firsts.bind_ends.Given as goal

abbrev pub invariant-loop-item : goal.invariant-loop-item
invariant-loop-item l = HoldsJust l.start l.index (bound_among l.start l.index l.item) l.server l.places

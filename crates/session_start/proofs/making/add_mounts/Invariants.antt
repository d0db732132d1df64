use Rattle.session_start.specs.Growing.{named_with}
use Rattle.session_start.specs.Places.{Stands}
use Rattle.session_start.proofs.making.add_mounts.Given as goal

abbrev pub invariant-loop-item : goal.invariant-loop-item
invariant-loop-item l = Stands (named_with l.start l.server l.item) l.graph l.places

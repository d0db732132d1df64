use Rattle.std.proofs.Common.{◌≡◌, length}
use Rattle.dir_mirror.specs.Seats.{names_of}
use Rattle.dir_mirror.proofs.mirror.MirrorNamesIterator.next.Given as goal

abbrev pub invariant-loop-name : goal.invariant-loop-name
invariant-loop-name l = names_of (λ name. name.items) l.self-inside.seats ≡ names_of (λ name. name.items) l.initial.self-inside.seats

abbrev pub decreases-loop-name : goal.decreases-loop-name
decreases-loop-name l = length l.self-inside.seats

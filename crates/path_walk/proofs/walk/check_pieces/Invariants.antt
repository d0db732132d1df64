use Rattle.std.proofs.Common.{◌≡◌, false, length}
use Rattle.path_walk.specs.Names.{holds}
use Rattle.path_walk.proofs.PathLemmas.{piece_fault}
use Rattle.path_walk.proofs.walk.check_pieces.Given as goal

abbrev pub invariant-loop-rest : goal.invariant-loop-rest
invariant-loop-rest l =
    record {
      to_come : piece_fault l.text ≡ piece_fault l.rest;
      no_zero : holds 0 l.rest ≡ false;
    }

abbrev pub decreases-loop-rest : goal.decreases-loop-rest
decreases-loop-rest l = length l.rest

use Rattle.std.proofs.Common.{◌≡◌, length}
use Rattle.vfs_script.specs.Words.{numbers_of}
use Rattle.vfs_script.proofs.NumberLemmas.{so_far}
use Rattle.vfs_script.proofs.numbers.numbers.Given as goal

abbrev pub invariant-loop-piece : goal.invariant-loop-piece
invariant-loop-piece l = numbers_of l.fn.word ≡ so_far l.numbers.items l.pieces

abbrev pub decreases-loop-piece : goal.decreases-loop-piece
decreases-loop-piece l = length l.pieces

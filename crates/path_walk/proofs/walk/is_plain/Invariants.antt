use Rattle.std.proofs.Common.{ℕ, ◌<◌, get_or}
use Rattle.path_walk.proofs.PathLemmas.{IsPlain}
use Rattle.path_walk.proofs.walk.is_plain.Given as goal

abbrev pub invariant-loop-i : goal.invariant-loop-i
invariant-loop-i l = (k : ℕ) → k < l.i → IsPlain (get_or l.text k 0)

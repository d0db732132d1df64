use Rattle.memchr.specs.Find.{Nowhere, Passes, is_byte}
use Rattle.text_pieces.proofs.pieces.place_of.Given as goal

abbrev pub invariant-loop-i : goal.invariant-loop-i
invariant-loop-i l = Nowhere (Passes (is_byte l.by) l.text) 0 l.i

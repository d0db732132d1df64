use Rattle.dirents.specs.Steps.{TakesOn}
use Rattle.dirents.proofs.packing.measure.Given as goal

abbrev pub invariant-loop-entry : goal.invariant-loop-entry
invariant-loop-entry l = TakesOn l.initial.entry-iterator l.max l.entry-iterator l.tally

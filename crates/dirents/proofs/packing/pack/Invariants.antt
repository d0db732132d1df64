use Rattle.dirents.specs.Steps.{PacksOn}
use Rattle.dirents.proofs.packing.pack.Given as goal

abbrev pub invariant-loop-entry : goal.invariant-loop-entry
invariant-loop-entry l = PacksOn l.initial.entry-iterator l.max l.entry-iterator l.tally l.initial.to l.to

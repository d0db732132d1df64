use Rattle.std.proofs.Common.{refl, arith}
use Rattle.dirents.specs.Reading.{entry_of}
use Rattle.dirents.proofs.Taking.{taken_more}
use Rattle.dirents.proofs.packing.Tally.take.Goals as goal

pub returns-clause-taken : goal.returns-clause-taken
returns-clause-taken c = λ entries max taken took.
    let fits = c.if-size-self.false in
    taken_more entries max c.args.self.now (entry_of c.args.entry.now) c.args.entry.now.name c.size-size.result taken refl c.size-size.ensures (omega (arith, fits)) c.requires.some c.requires.named

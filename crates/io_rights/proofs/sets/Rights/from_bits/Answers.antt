-- A number below 512 is the bits of its set.
use Rattle.io_rights.specs.EachNumber.{bits_of-set_of_bits}
use Rattle.io_rights.proofs.sets.Rights.from_bits.Goals as goal

pub returns-then-bits-clause-back : goal.returns-then-bits-clause-back
returns-then-bits-clause-back c = bits_of-set_of_bits c.args.bits c.if-bits.true

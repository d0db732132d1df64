-- The bits are those of the set that they stand for.
use Rattle.std.proofs.Common.{ap, ◌∙◌, sym}
use Rattle.io_rights.specs.Operations.{bits_of}
use Rattle.io_rights.specs.EachNumber.{bits_of-set_of_bits}
use Rattle.io_rights.proofs.sets.Rights.bits.Goals as goal

pub returns-clause-value : goal.returns-clause-value
returns-clause-value c = sym (bits_of-set_of_bits c.self.inside.bits c.self.invariant) ∙ ap bits_of c.self.view_is

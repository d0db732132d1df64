-- The test of one bit is the test of the operation.
use Rattle.std.proofs.Common.{ap, ◌∙◌, sym}
use Rattle.std.proofs.lemmas.Nat.Bits.{shr_and_one}
use Rattle.io_rights.specs.Operations.{has, bit_of}
use Rattle.io_rights.proofs.OperationSets.{has-set_of_bits}
use Rattle.io_rights.proofs.sets.Rights.allows.Goals as goal

pub returns : goal.returns
returns c =
    rw (c.bit.ensures, shr_and_one c.self.inside.bits (bit_of c.args.operation))
    (sym (has-set_of_bits c.self.inside.bits c.args.operation) ∙ ap (λ set. has set c.args.operation) c.self.view_is)

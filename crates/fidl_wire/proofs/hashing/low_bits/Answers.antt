use Rattle.std.proofs.lemmas.Nat.{and_mask}
use Rattle.fidl_wire.proofs.hashing.low_bits.Goals as goal

pub returns : goal.returns
returns c = and_mask c.args.number 63

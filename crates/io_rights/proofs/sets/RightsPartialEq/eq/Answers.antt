-- The bits are equal exactly where the sets are.
use Rattle.std.proofs.Common.{ap, ◌∙◌, sym, eqb-true, eq-eqb}
use Rattle.io_rights.specs.Operations.{bits_of, set_of_bits}
use Rattle.io_rights.specs.EachNumber.{bits_of-set_of_bits}
use Rattle.io_rights.proofs.sets.RightsPartialEq.eq.Goals as goal

pub returns-clause-value : goal.returns-clause-value
returns-clause-value c =
    rw (← c.self.view_is, ← c.other.view_is, bits_of-set_of_bits c.self.inside.bits c.self.invariant, bits_of-set_of_bits c.other.inside.bits c.other.invariant)

pub returns-clause-same : goal.returns-clause-same
returns-clause-same c = (
  λ equal. sym c.self.view_is ∙ ap set_of_bits (eqb-true _ _ equal) ∙ c.other.view_is,
  λ same.
      eq-eqb _ _
      (sym (bits_of-set_of_bits c.self.inside.bits c.self.invariant)
      ∙ ap bits_of (c.self.view_is ∙ same ∙ sym c.other.view_is)
      ∙ bits_of-set_of_bits c.other.inside.bits c.other.invariant),
)

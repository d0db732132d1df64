-- Each bit of the result is that operation's.
use Rattle.std.proofs.Common.{◌≡◌, ℕ, ap, ◌∙◌, bit_or}
use Rattle.std.proofs.lemmas.Nat.{or_lt}
use Rattle.io_rights.specs.Operations.{OperationSet, has, join, set_of_bits}
use Rattle.io_rights.proofs.OperationSets.{set_of_bits-or, has-join}
use Rattle.io_rights.proofs.sets.Rights.join.Goals as goal

of_views : (m n : ℕ) (a b : OperationSet) → set_of_bits m ≡ a → set_of_bits n ≡ b → set_of_bits (bit_or m n) ≡ join a b
of_views m n a b p q = rw (set_of_bits-or m n, p, q)

pub invariant_of-result : goal.invariant_of-result
invariant_of-result c = or_lt 9 c.self.inside.bits c.other.inside.bits c.self.invariant c.other.invariant

pub returns-clause-value : goal.returns-clause-value
returns-clause-value c = of_views _ _ _ _ c.self.view_is c.other.view_is

pub returns-clause-either : goal.returns-clause-either
returns-clause-either c =
    λ operation.
    ap (λ set. has set operation) (of_views _ _ _ _ c.self.view_is c.other.view_is)
    ∙ has-join c.args.self c.args.other operation

-- Each bit of the result is that operation's.
use Rattle.std.proofs.Common.{◌≡◌, ℕ, ap, ◌∙◌, bit_and}
use Rattle.io_rights.specs.Operations.{OperationSet, has, meet, set_of_bits}
use Rattle.io_rights.proofs.OperationSets.{set_of_bits-and, has-meet, meet_within_left, meet_within_right}
use Rattle.io_rights.proofs.sets.Rights.meet.Goals as goal

of_views : (m n : ℕ) (a b : OperationSet) → set_of_bits m ≡ a → set_of_bits n ≡ b → set_of_bits (bit_and m n) ≡ meet a b
of_views m n a b p q = rw (set_of_bits-and m n, p, q)

pub returns-clause-value : goal.returns-clause-value
returns-clause-value c = of_views _ _ _ _ c.self.view_is c.other.view_is

pub returns-clause-both : goal.returns-clause-both
returns-clause-both c =
    λ operation.
    ap (λ set. has set operation) (of_views _ _ _ _ c.self.view_is c.other.view_is)
    ∙ has-meet c.args.self c.args.other operation

pub returns-clause-narrower : goal.returns-clause-narrower
returns-clause-narrower c =
    let same = of_views _ _ _ _ c.self.view_is c.other.view_is in
    (rw same (meet_within_left c.args.self c.args.other), rw same (meet_within_right c.args.self c.args.other))

-- To lie within a set is to be kept by the meet with it.
use Rattle.std.proofs.Common.{◌≡◌, Bool, true, ◌∙◌, sym}
use Rattle.io_rights.specs.Operations.{OperationSet, meet, is_within}
use Rattle.io_rights.proofs.OperationSets.{within_each, within_from_each, meet_from_within, within_from_meet, same_tests}
use Rattle.io_rights.proofs.sets.Rights.within.Goals as goal

tested : (kept : OperationSet) (a b : OperationSet) (r : Bool) → kept ≡ meet a b → (r ≡ true → kept ≡ a) → (kept ≡ a → r ≡ true) → r ≡ is_within a b
tested kept a b r e there back =
    same_tests r (is_within a b)
    (λ h. within_from_meet a b (sym e ∙ there h))
    (λ h. back (e ∙ meet_from_within a b h))

pub returns-clause-value : goal.returns-clause-value
returns-clause-value c =
    tested _ _ _ _ c.meet.ensures.value c.eq.ensures.same.0 c.eq.ensures.same.1

pub returns-clause-each : goal.returns-clause-each
returns-clause-each c =
    let e : c.eq.result ≡ is_within c.args.self c.args.other =
    tested _ _ _ _ c.meet.ensures.value c.eq.ensures.same.0 c.eq.ensures.same.1 in
    (λ h. within_each c.args.self c.args.other (sym e ∙ h), λ h. e ∙ within_from_each c.args.self c.args.other h)

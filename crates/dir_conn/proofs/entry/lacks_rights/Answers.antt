-- Behind the first test nothing is wanting for the walk.
use Rattle.std.proofs.Common.{◌≡◌, ◌∙◌, ◌&&◌, ◌||◌, Bool, true, false, not, ap, refl, sym}
use Rattle.std.specs.Str.{bytes_eq}
use Rattle.io_flags.specs.Grants.{asked_rights}
use Rattle.io_rights.specs.declared.operations.Operation.TheVariants as op
use Rattle.io_rights.specs.Operations.{OperationSet, is_within, single}
use Rattle.path_walk.specs.Names.{dot}
use Rattle.conn_rules.specs.Refusals.{lacks}
use Rattle.dir_conn.proofs.entry.lacks_rights.Goals.{else-not-is_dot-via-then-not-is_dot+else-not-within, else-not-is_dot-via-else-not-is_dot}
use Rattle.dir_conn.proofs.entry.lacks_rights.Goals as goal

has_it : (other within : Bool) → within ≡ true → (other && not within) ≡ false
has_it true true is = refl
has_it true false is = cc
has_it false within is = refl

is_here : (dotted lacking : Bool) → dotted ≡ true → (not dotted && lacking) ≡ false
is_here true lacking is = refl
is_here false lacking is = cc

pub returns-clause-lacks : goal.returns-clause-lacks
returns-clause-lacks c =
    let dotted = bytes_eq c.args.text.now dot in
    let passes = is_within (single op.Traverse) c.args.have in
    let none : (not dotted && not passes) ≡ false = elim c.else-not-is_dot.branch [
      | else-not-is_dot-via-then-not-is_dot+else-not-within w ↦
          has_it (not dotted) passes (ap (λ (set : OperationSet). is_within set c.args.have) (sym w.of.ensures) ∙ sym w.within.ensures.value ∙ w.if-not-within.false)
      | else-not-is_dot-via-else-not-is_dot w ↦ is_here dotted (not passes) (sym c.is_dot.ensures ∙ w.if-not-is_dot.false)
    ] in
    ap not (c.within-2.ensures.value ∙ ap (λ (set : OperationSet). is_within set c.args.have) c.asked.ensures.value)
    ∙ ap (λ (walk : Bool). walk || lacks c.args.have (asked_rights c.args.flags)) (sym none)

use Rattle.std.proofs.Common.{◌∷◌, ℕ, subst, sym}
use Rattle.link_frames.proofs.Words.{are_bytes}
use Rattle.link_audit.specs.Fronts.{Shows}
use Rattle.link_audit.specs.declared.records.Record.TheVariants as lent
use Rattle.link_audit.proofs.Lent.{shows_served}
use Rattle.link_audit.proofs.Tags.{no_served}
use Rattle.link_audit.proofs.records.served_front.Goals as goal

pub returns-then-body-lt4-clause-none : goal.returns-then-body-lt4-clause-none
returns-then-body-lt4-clause-none c = λ is. no_served c.args.body.now c.if-body-lt4.true

pub returns-clause-shown : goal.returns-clause-shown
returns-clause-shown c =
    subst (λ (n : ℕ). Shows (1 ∷ c.args.body.now) (record { one = lent.Served n; size = 5 })) (sym c.word_in.ensures)
    (shows_served c.args.body.now (are_bytes c.args.body.now c.type_inv.body) c.if-body-lt4.false)

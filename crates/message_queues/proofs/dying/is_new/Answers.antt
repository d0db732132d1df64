use Rattle.std.proofs.Common.{◌∙◌, List, ℕ, ap, sym}
use Rattle.std.specs.Prelude.{slice_get}
use Rattle.message_queues.proofs.Listed.{apart, listed_new, listed_told}
use Rattle.message_queues.proofs.dying.is_new.Goals as goal

pub returns-in-None-clause-listed : goal.returns-in-None-clause-listed
returns-in-None-clause-listed c =
    listed_new c.args.found.now.items c.args.later.now.keys c.args.endpoint (ap (λ (items : List ℕ). slice_get items 0) (sym c.deref.ensures.value) ∙ sym c.in-None.ensures.value) c.requires c.ranges.endpoint.fits

pub returns-in_ok-insert-in-Some-2-clause-listed : goal.returns-in_ok-insert-in-Some-2-clause-listed
returns-in_ok-insert-in-Some-2-clause-listed c =
    listed_told c.args.found.now.items c.args.later.now.keys c.insert.new.self.keys c.in-Some.first.now c.args.endpoint c.in_ok-insert-in-Some-2.field-0
    (ap (λ (items : List ℕ). slice_get items 0) (sym c.deref.ensures.value) ∙ sym c.in-Some.ensures.value) c.requires c.ranges.endpoint.fits (apart _ _ c.if-first-endpoint.false)
    c.in_ok-insert-in-Some-2.ensures.added c.in_ok-insert-in-Some-2.ensures.unchanged c.in_ok-insert-in-Some-2.ensures.updates.0

use Rattle.std.proofs.Common.{◌≡◌, ◌∙◌, List, ◌∷◌, nat_le, subst, sym, refl, false}
use Rattle.dirents.specs.declared.packing.Tally.{Tally}
use Rattle.dirents.specs.Listings.{Dirent, dirent_size}
use Rattle.dirents.specs.Packing.{TellsOf}
use Rattle.dirents.specs.Reading.{entry_of}
use Rattle.dirents.specs.Steps.{TakesOn}
use Rattle.dirents.proofs.Taking.{fitting_none, some_left, takes_on, told}
use Rattle.dirents.proofs.packing.measure.Goals as goal

pub loop-entry-preserved : goal.loop-entry-preserved
loop-entry-preserved c =
    takes_on c.into_iter-entry-iterator.result c.args.max (entry_of c.in-Some.entry) c.next.new.self c.loop-entry.tally c.take.new.self
    (subst (λ (rest : List Dirent). TakesOn c.into_iter-entry-iterator.result c.args.max rest c.loop-entry.tally) c.in-Some.ensures.steps c.loop-entry.invariant)
    (sym c.if-not-take.ensures.fits) (λ es taken. c.if-not-take.ensures.taken es c.args.max taken refl)

pub returns-then-not-take-clause-tells : goal.returns-then-not-take-clause-tells
returns-then-not-take-clause-tells c = λ tree stands.
    let e = entry_of c.in-Some.entry in
    let rest = c.next.new.self in
    let kept : c.take.new.self ≡ c.loop-entry.tally = c.if-not-take.ensures.kept refl in
    let steps = subst (λ (tally : Tally). TakesOn c.into_iter-entry-iterator.result c.args.max (e ∷ rest) tally) (sym kept)
    (subst (λ (rest : List Dirent). TakesOn c.into_iter-entry-iterator.result c.args.max rest c.loop-entry.tally) c.in-Some.ensures.steps c.loop-entry.invariant) in
    let none = fitting_none e rest c.take.new.self.free (subst (λ (tally : Tally). nat_le (dirent_size e) tally.free ≡ false) (sym kept) (sym c.if-not-take.ensures.fits)) in
    subst (λ (listed : List Dirent). TellsOf listed c.args.place.now c.args.max c.packed.result) (c.into_iter-entry-iterator.ensures.into_iter_gives ∙ c.list_from-entry-items.ensures.entries tree stands)
    (told c.into_iter-entry-iterator.result c.args.place.now c.args.max (e ∷ rest) c.take.new.self c.packed.result steps none c.packed.ensures.count c.packed.ensures.bytes (c.packed.ensures.more ∙ some_left _)
    (λ es taken. c.packed.ensures.next es c.args.max taken))

use Rattle.std.proofs.Common.{◌≡◌, ◌∙◌, ℕ, ◌+◌, List, [], ◌∷◌, ◌++◌, length, ap, nat_le, subst, sym, refl, false}
use Rattle.dirents.specs.declared.packing.Tally.{Tally}
use Rattle.dirents.specs.Listings.{Dirent, dirent_size, fitting}
use Rattle.dirents.specs.Packing.{TellsOf, fitting_bytes}
use Rattle.dirents.specs.Reading.{entry_of}
use Rattle.dirents.specs.Steps.{PacksOn}
use Rattle.dirents.proofs.Taking.{fitting_none, le_of, packs_none, some_left, packs_on, room_left, appended, length_now, told}
use Rattle.dirents.proofs.packing.pack.Goals as goal

left_over : (c : goal.After-packed) → PacksOn c.into_iter-entry-iterator.result c.args.max (entry_of c.in-Some.entry ∷ c.next.new.self) c.take.new.self c.args.to.now c.loop-entry.to
left_over c =
    subst (λ (tally : Tally). PacksOn c.into_iter-entry-iterator.result c.args.max (entry_of c.in-Some.entry ∷ c.next.new.self) tally c.args.to.now c.loop-entry.to) (sym (c.if-not-take.ensures.kept refl))
    (subst (λ (rest : List Dirent). PacksOn c.into_iter-entry-iterator.result c.args.max rest c.loop-entry.tally c.args.to.now c.loop-entry.to) c.in-Some.ensures.steps c.loop-entry.invariant)

none_fits : (c : goal.After-packed) → fitting (entry_of c.in-Some.entry ∷ c.next.new.self) c.take.new.self.free ≡ []
none_fits c =
    fitting_none (entry_of c.in-Some.entry) c.next.new.self c.take.new.self.free
    (subst (λ (tally : Tally). nat_le (dirent_size (entry_of c.in-Some.entry)) tally.free ≡ false) (sym (c.if-not-take.ensures.kept refl)) (sym c.if-not-take.ensures.fits))

pub loop-entry-init : goal.loop-entry-init
loop-entry-init c = packs_none c.into_iter-entry-iterator.result c.args.max c.new-tally.result c.args.to.now c.new-tally.ensures

pub put-requires-clause-room : goal.put-requires-clause-room
put-requires-clause-room c =
    room_left c.into_iter-entry-iterator.result c.args.max c.loop-entry.entry-iterator c.loop-entry.tally c.args.to.now c.loop-entry.to _ c.loop-entry.invariant c.requires.room
    (le_of _ _ c.if-not-take.ensures.fits)

pub loop-entry-preserved : goal.loop-entry-preserved
loop-entry-preserved c =
    packs_on c.into_iter-entry-iterator.result c.args.max (entry_of c.in-Some.entry) c.next.new.self c.loop-entry.tally c.take.new.self c.args.to.now c.loop-entry.to c.put.new.to
    (subst (λ (rest : List Dirent). PacksOn c.into_iter-entry-iterator.result c.args.max rest c.loop-entry.tally c.args.to.now c.loop-entry.to) c.in-Some.ensures.steps c.loop-entry.invariant)
    (sym c.if-not-take.ensures.fits) (λ es taken. c.if-not-take.ensures.taken es c.args.max taken refl) c.put.ensures.bytes c.put.ensures.handles

pub returns-then-not-take-clause-tells : goal.returns-then-not-take-clause-tells
returns-then-not-take-clause-tells c = λ tree stands.
    subst (λ (listed : List Dirent). TellsOf listed c.args.place.now c.args.max c.packed.result) (c.into_iter-entry-iterator.ensures.into_iter_gives ∙ c.list_from-entry-items.ensures.entries tree stands)
    (told c.into_iter-entry-iterator.result c.args.place.now c.args.max (entry_of c.in-Some.entry ∷ c.next.new.self) c.take.new.self c.packed.result (left_over c).steps (none_fits c) c.packed.ensures.count c.packed.ensures.bytes
    (c.packed.ensures.more ∙ some_left _) (λ es taken. c.packed.ensures.next es c.args.max taken))

pub returns-then-not-take-clause-bytes : goal.returns-then-not-take-clause-bytes
returns-then-not-take-clause-bytes c = λ tree stands.
    subst (λ (listed : List Dirent). c.loop-entry.to.bytes ≡ c.args.to.now.bytes ++ fitting_bytes listed c.args.max) (c.into_iter-entry-iterator.ensures.into_iter_gives ∙ c.list_from-entry-items.ensures.entries tree stands)
    (appended c.into_iter-entry-iterator.result c.args.max _ c.take.new.self c.args.to.now c.loop-entry.to (left_over c) (none_fits c))

pub returns-then-not-take-clause-len : goal.returns-then-not-take-clause-len
returns-then-not-take-clause-len c = length_now _ _ _ c.take.new.self c.args.to.now c.loop-entry.to (left_over c) ∙ ap (λ (n : ℕ). length c.args.to.now.bytes + n) (sym c.packed.ensures.bytes)

pub returns-then-not-take-clause-handles : goal.returns-then-not-take-clause-handles
returns-then-not-take-clause-handles c = c.loop-entry.invariant.handles

pub returns-clause-bytes : goal.returns-clause-bytes
returns-clause-bytes c = λ tree stands.
    subst (λ (listed : List Dirent). c.loop-entry.to.bytes ≡ c.args.to.now.bytes ++ fitting_bytes listed c.args.max) (c.into_iter-entry-iterator.ensures.into_iter_gives ∙ c.list_from-entry-items.ensures.entries tree stands)
    (appended c.into_iter-entry-iterator.result c.args.max [] c.loop-entry.tally c.args.to.now c.loop-entry.to
    (subst (λ (rest : List Dirent). PacksOn c.into_iter-entry-iterator.result c.args.max rest c.loop-entry.tally c.args.to.now c.loop-entry.to) c.in-None.ensures.steps.0 c.loop-entry.invariant) refl)

pub returns-clause-len : goal.returns-clause-len
returns-clause-len c = length_now _ _ _ c.loop-entry.tally c.args.to.now c.loop-entry.to c.loop-entry.invariant ∙ ap (λ (n : ℕ). length c.args.to.now.bytes + n) (sym c.packed-2.ensures.bytes)

pub returns-clause-handles : goal.returns-clause-handles
returns-clause-handles c = c.loop-entry.invariant.handles

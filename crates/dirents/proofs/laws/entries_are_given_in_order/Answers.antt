use Rattle.std.proofs.Common.{◌≡◌, [], sym, subst}
use Rattle.dirents.proofs.Found.{in_front, no_entry}
use Rattle.dirents.specs.Reading.{AreEntries, entry_of, left}
use Rattle.dirents.proofs.laws.entries_are_given_in_order.Goals as goal

pub returns-clause-first : goal.returns-clause-first
returns-clause-first c = λ old new found entries rest gives others.
    in_front (left old) (left new) (entry_of found) entries rest gives.0 gives.1 others

pub returns-clause-none : goal.returns-clause-none
returns-clause-none c = λ old new gives.
    subst (λ e. AreEntries (left old) [] (left e)) (sym gives.1) (no_entry (left old) gives.0)

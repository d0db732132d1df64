-- What goes on has the word's other flags, and so its faults and its rights.
use Rattle.std.proofs.Common.{◌≡◌, ◌∙◌, ap}
use Rattle.io_rights.specs.Operations.{meet}
use Rattle.io_flags.specs.Words.{holds, flags_of}
use Rattle.io_flags.specs.Grants.{explicit_rights, asked_rights, going_on, onward}
use Rattle.io_flags.proofs.GrantLemmas.{same_fault, went_on, goes_on, onward-explicit, onward-asked}
use Rattle.io_flags.proofs.grants.forwarded.Goals as goal

pub of_checked-requires : goal.of_checked-requires
of_checked-requires c =
    same_fault c.word.result c.going_on.result c.meet.result c.going_on.ensures.unnamed c.going_on.ensures.set ∙ c.word.ensures.checked

-- the word that goes on, by the one that came
word_on : (c : goal.After-of_checked) → c.of_checked.result ≡ onward c.args.flags (meet c.args.have c.args.masks)
word_on c =
    c.of_checked.ensures
    ∙ went_on c.word.result c.going_on.result c.meet.result c.going_on.type_inv c.word.ensures.checked c.going_on.ensures.unnamed c.going_on.ensures.set
    ∙ ap (λ word. onward word c.meet.result) c.word.ensures.word
    ∙ ap (onward c.args.flags) c.meet.ensures.value

set_on : (c : goal.After-of_checked) → flags_of c.of_checked.result ≡ going_on (flags_of c.args.flags) (meet c.args.have c.args.masks)
set_on c =
    ap flags_of c.of_checked.ensures
    ∙ c.going_on.ensures.set
    ∙ ap (λ word. going_on (flags_of word) c.meet.result) c.word.ensures.word
    ∙ ap (going_on (flags_of c.args.flags)) c.meet.ensures.value

pub returns-clause-value : goal.returns-clause-value
returns-clause-value c = word_on c

pub returns-clause-set : goal.returns-clause-set
returns-clause-set c = set_on c

pub returns-clause-flags : goal.returns-clause-flags
returns-clause-flags c =
    λ one. ap (λ set. holds set one) (set_on c) ∙ goes_on (flags_of c.args.flags) (meet c.args.have c.args.masks) one

pub returns-clause-explicit : goal.returns-clause-explicit
returns-clause-explicit c = ap explicit_rights (word_on c) ∙ onward-explicit c.args.flags (meet c.args.have c.args.masks)

pub returns-clause-asked : goal.returns-clause-asked
returns-clause-asked c = ap asked_rights (word_on c) ∙ onward-asked c.args.flags (meet c.args.have c.args.masks)

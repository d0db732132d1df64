-- What holds of the first cause of a list.
use Rattle.std.proofs.Common.{◌≡◌, Bool, true, false, List, [], ◌∷◌, ◌++◌, Option, Some, None, refl}
use Rattle.std.specs.Option.{option_or}
use Rattle.fidl_names.specs.First.{cause_if, first_of}

-- where no cause of a list holds, its first doesn't, and none of the others does
pub first_of-none : {A : Type 0} (first : Option A) (rest : List (Option A)) → first_of (first ∷ rest) ≡ None → (first ≡ None) × (first_of rest ≡ None)
first_of-none None rest e = (refl, e)
first_of-none (Some cause) rest e = cc

-- a cause that doesn't hold is one whose test fails
pub cause_if-none : {A : Type 0} (test : Bool) (cause : A) → cause_if test cause ≡ None → test ≡ false
cause_if-none true cause e = cc
cause_if-none false cause e = refl

-- causes behind others count where none of those holds
pub first_of-append : {A : Type 0} (causes more : List (Option A)) → first_of (causes ++ more) ≡ option_or (first_of causes) (first_of more)
first_of-append [] more = refl
first_of-append (None ∷ causes) more = first_of-append causes more
first_of-append (Some cause ∷ causes) more = refl

-- a cause at the head is the first, if it holds
pub first_of-head : {A : Type 0} (first : Option A) (rest : List (Option A)) → first_of (first ∷ rest) ≡ option_or first (first_of rest)
first_of-head None rest = refl
first_of-head (Some cause) rest = refl

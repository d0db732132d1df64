-- The first fault of a name, part by part.
use Rattle.std.proofs.Common.{◌≡◌, ℕ, ◌<◌, true, false, List, [], ◌∷◌, length, Option, Some, None, refl, sym, ◌∙◌, arith}
use Rattle.std.specs.Option.{option_or}
use Rattle.fidl_names.specs.First.{cause_if, first_of}
use Rattle.fidl_names.proofs.FirstLaws.{first_of-append, first_of-none, cause_if-none}
use Rattle.path_walk.specs.declared.faults.PathFault.{PathFault}
use Rattle.path_walk.specs.declared.faults.PathFault.TheVariants as fault
use Rattle.path_walk.specs.Names.{slash, dot, holds, length_faults, dot_fault, name_fault, IsName}

pub or_at_some : {X : Type 0} (a b : Option X) (x : X) → a ≡ Some x → option_or a b ≡ Some x
or_at_some a b x e = rw e refl

pub or_at_none : {X : Type 0} (a b : Option X) → a ≡ None → option_or a b ≡ b
or_at_none a b e = rw e refl

pub or_none_left : {X : Type 0} (a b : Option X) → option_or a b ≡ None → a ≡ None
or_none_left None b e = refl
or_none_left (Some x) b e = e

pub or_none_right : {X : Type 0} (a b : Option X) → option_or a b ≡ None → b ≡ None
or_none_right None b e = e
or_none_right (Some x) b e = cc

abbrev pub later_faults : List ℕ → List (Option PathFault)
later_faults name = cause_if (holds 0 name) fault.ZeroByte ∷ cause_if (holds slash name) fault.Slash ∷ dot_fault name ∷ []

pub name_fault-parts : (name : List ℕ) → name_fault name ≡ option_or (first_of (length_faults name)) (first_of (later_faults name))
unfolding name_fault
name_fault-parts name = first_of-append (length_faults name) (later_faults name)

-- where the lengths are right, the others decide
pub name_fault-long : (name : List ℕ) (found : PathFault) → first_of (length_faults name) ≡ Some found → name_fault name ≡ Some found
name_fault-long name found e = name_fault-parts name ∙ or_at_some _ _ found e

pub name_fault-later : (name : List ℕ) → first_of (length_faults name) ≡ None → name_fault name ≡ first_of (later_faults name)
name_fault-later name e = name_fault-parts name ∙ or_at_none _ _ e

pub later-zero : (name : List ℕ) → holds 0 name ≡ true → first_of (later_faults name) ≡ Some fault.ZeroByte
later-zero name e = rw e refl

pub later-slash : (name : List ℕ) → holds 0 name ≡ false → holds slash name ≡ true → first_of (later_faults name) ≡ Some fault.Slash
later-slash name e f = rw (e, f) refl

alone : (found : Option PathFault) → first_of (found ∷ []) ≡ found
alone None = refl
alone (Some found) = refl

pub later-dot : (name : List ℕ) → holds 0 name ≡ false → holds slash name ≡ false → first_of (later_faults name) ≡ dot_fault name
later-dot name e f = rw (e, f) (alone (dot_fault name))

-- what is no name
pub empty_is_no_name : IsName [] → ⊥
unfolding name_fault
empty_is_no_name h = cc

pub dot_is_no_name : IsName dot → ⊥
unfolding name_fault
dot_is_no_name h = cc

-- what a name is
pub name-some : (name : List ℕ) → IsName name → 0 < length name
name-some [] h = absurd (empty_is_no_name h)
name-some (byte ∷ name) h = omega arith

abbrev pub zero_fault : List ℕ → Option PathFault
zero_fault name = cause_if (holds 0 name) fault.ZeroByte

abbrev pub slash_fault : List ℕ → Option PathFault
slash_fault name = cause_if (holds slash name) fault.Slash

-- a name has none of the later faults
none_later : (name : List ℕ) → IsName name → first_of (later_faults name) ≡ None
none_later name h = or_none_right _ _ (sym (name_fault-parts name) ∙ h)

pub name-no_zero : (name : List ℕ) → IsName name → holds 0 name ≡ false
name-no_zero name h =
    cause_if-none (holds 0 name) fault.ZeroByte
    (first_of-none (zero_fault name) (slash_fault name ∷ dot_fault name ∷ []) (none_later name h)).0

pub name-no_slash : (name : List ℕ) → IsName name → holds slash name ≡ false
name-no_slash name h =
    cause_if-none (holds slash name) fault.Slash
    (first_of-none (slash_fault name) (dot_fault name ∷ [])
    (first_of-none (zero_fault name) (slash_fault name ∷ dot_fault name ∷ []) (none_later name h)).1).0

-- Single names, and the first rule that one breaks.
use Rattle.std.specs.Prelude.{◌≡◌, ℕ, ◌==◌, nat_lt, Bool, ◌||◌, List, [], ◌∷◌, ◌++◌, length, Option, None}
use Rattle.std.specs.List.{list_any}
use Rattle.std.specs.Str.{bytes_eq}
use Rattle.fidl_names.specs.First.{cause_if, first_of}
use Rattle.fidl_names.specs.declared.limits.TheConstants as limit
use Rattle.path_walk.specs.declared.faults.PathFault.{PathFault}
use Rattle.path_walk.specs.declared.faults.PathFault.TheVariants as fault

-- the byte `/`
abbrev pub slash : ℕ
slash = 47

-- the texts `.` and `..`
abbrev pub dot : List ℕ
dot = 46 ∷ []

abbrev pub dots : List ℕ
dots = 46 ∷ 46 ∷ []

-- whether the byte stands somewhere in the text
abbrev pub holds : ℕ → List ℕ → Bool
holds byte text = list_any (λ b. b == byte) text

-- a name has a byte, and no more than a name may have
abbrev pub length_faults : List ℕ → List (Option PathFault)
length_faults name =
    cause_if (length name == 0) fault.EmptyName ∷ cause_if (nat_lt limit.MAX_NAME (length name)) fault.NameTooLong ∷ []

-- it is neither of the two texts that stand for directories
abbrev pub dot_fault : List ℕ → Option PathFault
dot_fault name = cause_if (bytes_eq name dot || bytes_eq name dots) fault.DotName

-- what is wrong with a name first, if anything
unfoldable pub name_fault : List ℕ → Option PathFault
name_fault name =
    first_of
    (length_faults name
    ++ cause_if (holds 0 name) fault.ZeroByte
    ∷ cause_if (holds slash name) fault.Slash
    ∷ dot_fault name
    ∷ [])

-- a name that breaks no rule
abbrev pub IsName : List ℕ → Type 0
IsName name = name_fault name ≡ None

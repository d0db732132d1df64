-- What a refusal says.
use Rattle.std.specs.Prelude.{◌≡◌, ℕ, ⊤, Option, Some}
use Rattle.tree_file.specs.declared.faults.TreeFault.{TreeFault}
use Rattle.tree_file.specs.declared.faults.TreeFault.TheVariants.{Rule, NoMemory}

-- this rule is broken first at this item; want of memory says nothing
abbrev pub Breaks : ℕ → Option ℕ → TreeFault → Type 0
Breaks rule found (Rule told item) = (told ≡ rule) × (found ≡ Some item)
Breaks rule found NoMemory = ⊤

-- the first rule that is broken, with its first failing item
abbrev pub IsFirst : Option (ℕ × ℕ) → TreeFault → Type 0
IsFirst first (Rule told item) = first ≡ Some (told, item)
IsFirst first NoMemory = ⊤

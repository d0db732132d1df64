-- Words of steps: how one line is read, and one is rewritten.
use Rattle.std.specs.Prelude.{◌≡◌, ⊤, ℕ, Bool, true, false, List, ◌++◌, IsSome, None}
use Rattle.io_namespace.specs.Cleaning.{clean}
use Rattle.io_namespace.specs.Entries.{Table, IsWith, Same}
use Rattle.io_namespace.specs.Faults.{add_fault}
use Rattle.io_namespace.specs.Faults.{resolve_fault}
use Rattle.ns_program.specs.Rewriting.{Becomes, Opens}
use Rattle.ns_program.specs.Tables.{IsEntry, is_skipped}
use Rattle.ns_program.specs.declared.tables.Refusal.{Refusal}
use Rattle.ns_program.specs.declared.tables.Refusal.TheVariants as refusal

-- why a text is refused: the first line that is; want of memory says nothing
abbrev pub IsRefusal : (ℕ → Type 0) → Refusal → Type 0
IsRefusal at (refusal.Line number) = at number
IsRefusal at refusal.NoMemory = ⊤

-- the line adds an entry
pub record Adds (table : Table) (line : List ℕ) (after : Table) : Type 0 where
  pub other : is_skipped line ≡ false
  pub prefix : List ℕ
  pub endpoint : ℕ
  pub entry : IsEntry line prefix endpoint
  pub good : add_fault table prefix ≡ None
  pub change : IsWith table (clean prefix) endpoint after

-- the line is skipped
pub record Skips (table : Table) (line : List ℕ) (after : Table) : Type 0 where
  pub is : is_skipped line ≡ true
  pub same : Same table after

-- the line is refused
pub record Refuses (table : Table) (line : List ℕ) : Type 0 where
  pub other : is_skipped line ≡ false
  pub refused : (prefix : List ℕ) (endpoint : ℕ) → IsEntry line prefix endpoint → IsSome (add_fault table prefix)

-- how a line is read, by whether it is good
pub data Reads (table : Table) (line : List ℕ) (after : Table) : Type 0 where
  adds : Adds table line after → Reads table line after
  skips : Skips table line after → Reads table line after

abbrev pub ReadsLine : Table → List ℕ → Table → Bool → Type 0
ReadsLine table line after true = Reads table line after
ReadsLine table line after false = Refuses table line

-- how a line is put behind a text, by whether it is good
pub record Puts (table : Table) (line before after : List ℕ) : Type 0 where
  pub out : List ℕ
  pub becomes : Becomes table line out
  pub put : after ≡ before ++ out

pub record Loses (table : Table) (line : List ℕ) : Type 0 where
  pub path : List ℕ
  pub flags : List ℕ
  pub object : List ℕ
  pub opens : Opens line path flags object
  pub lost : IsSome (resolve_fault table path)

abbrev pub PutsLine : Table → List ℕ → List ℕ → List ℕ → Bool → Type 0
PutsLine table line before after true = Puts table line before after
PutsLine table line before after false = Loses table line

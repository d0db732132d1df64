-- What a table's file says.
use Rattle.std.specs.Prelude.{◌≡◌, ◌≤◌, ◌<◌, ℕ, ◌+◌, ◌==◌, ◌||◌, Bool, true, false, List, [], ◌∷◌, ◌++◌, length, slice_index, decimal, IsSome, None}
use Rattle.fidl_names.specs.declared.limits.TheConstants as limit
use Rattle.host_io.specs.Told.{Told}
use Rattle.run_status.specs.Files.{IsWithin}
use Rattle.text_pieces.specs.Pieces.{pieces}
use Rattle.io_namespace.specs.Cleaning.{clean}
use Rattle.io_namespace.specs.Entries.{Table, IsWith, Same}
use Rattle.io_namespace.specs.Faults.{add_fault}

-- the lines of a text, which its newlines part, and the words of a line, which its spaces part
abbrev pub lines_of : List ℕ → List (List ℕ)
lines_of text = pieces 10 text

abbrev pub words_of : List ℕ → List (List ℕ)
words_of line = pieces 32 line

-- an empty line, or one with `#` in front
abbrev pub is_skipped : List ℕ → Bool
is_skipped line = (length line == 0) || (slice_index line 0 == 35)

-- the number of a client's own endpoint
abbrev pub IsClients : ℕ → Type 0
IsClients endpoint = (1 ≤ endpoint) × (endpoint < limit.FIRST_MOUNT_END)

-- the line has a prefix and an endpoint, in decimal without a zero in front
pub record IsEntry (line prefix : List ℕ) (endpoint : ℕ) : Type 0 where
  pub words : words_of line ≡ prefix ∷ decimal endpoint ∷ []
  pub clients : IsClients endpoint

-- the table that some lines say, each of which is skipped or adds an entry to those before it
pub data Says : List (List ℕ) → Table → Type 0 where
  nothing : (table : Table) → ((prefix : List (List ℕ)) → table prefix ≡ None) → Says [] table
  skipped : (lines : List (List ℕ)) (line : List ℕ) (table after : Table) → Says lines table → is_skipped line ≡ true → Same table after → Says (lines ++ line ∷ []) after
  added : (lines : List (List ℕ)) (line prefix : List ℕ) (endpoint : ℕ) (table after : Table) → Says lines table → is_skipped line ≡ false → IsEntry line prefix endpoint →
      add_fault table prefix ≡ None → IsWith table (clean prefix) endpoint after → Says (lines ++ line ∷ []) after

-- the first line that is neither, counted from 1
pub record IsRefusedAt (lines : List (List ℕ)) (number : ℕ) : Type 0 where
  pub before : List (List ℕ)
  pub line : List ℕ
  pub behind : List (List ℕ)
  pub parts : lines ≡ before ++ line ∷ behind
  pub counted : number ≡ length before + 1
  pub table : Table
  pub says : Says before table
  pub other : is_skipped line ≡ false
  pub refused : (prefix : List ℕ) (endpoint : ℕ) → IsEntry line prefix endpoint → IsSome (add_fault table prefix)

-- the file is told, within its limit, and says this table; or is refused at this line
pub record IsTable (told : Told) (table : Table) : Type 0 where
  pub text : List ℕ
  pub within : IsWithin limit.MAX_TEXT told text
  pub says : Says (lines_of text) table

pub record IsBadTable (told : Told) (number : ℕ) : Type 0 where
  pub text : List ℕ
  pub within : IsWithin limit.MAX_TEXT told text
  pub refused : IsRefusedAt (lines_of text) number

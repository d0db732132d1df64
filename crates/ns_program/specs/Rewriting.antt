-- What becomes of a script over a table.
use Rattle.std.specs.Prelude.{◌≡◌, ℕ, ◌+◌, List, [], ◌∷◌, ◌++◌, length, codes, decimal, IsSome, Some, true}
use Rattle.std.specs.List.{join_with_byte}
use Rattle.fidl_names.specs.declared.limits.TheConstants as limit
use Rattle.host_io.specs.Told.{Told}
use Rattle.run_status.specs.Files.{IsWithin}
use Rattle.io_namespace.specs.Cleaning.{clean}
use Rattle.io_namespace.specs.Entries.{Table, resolved}
use Rattle.io_namespace.specs.Faults.{is_absolute, resolve_fault}
use Rattle.ns_program.specs.Tables.{lines_of, words_of}

-- the line opens an absolute path: it has four words, the first of which is `open`
pub record Opens (line path flags object : List ℕ) : Type 0 where
  pub words : words_of line ≡ codes "open" ∷ path ∷ flags ∷ object ∷ []
  pub absolute : is_absolute path ≡ true

-- a word behind a space
abbrev pub spaced : List ℕ → List ℕ
spaced word = 32 ∷ word

-- the line over an endpoint, with the path from there
abbrev pub opening : ℕ → List ℕ → List ℕ → List ℕ → List ℕ
opening endpoint rest flags object = codes "open " ++ decimal endpoint ++ spaced rest ++ spaced flags ++ spaced object

-- what a line becomes: where it opens an absolute path, that is replaced by where it leads; every other line stays
pub data Becomes (table : Table) (line out : List ℕ) : Type 0 where
  opened : (path flags object rest : List ℕ) (endpoint : ℕ) → Opens line path flags object → resolved table (clean path) ≡ Some (endpoint, rest) → out ≡ opening endpoint rest flags object → Becomes table line out
  copied : ((path flags object : List ℕ) → Opens line path flags object → ⊥) → out ≡ line → Becomes table line out

pub data Become (table : Table) : List (List ℕ) → List (List ℕ) → Type 0 where
  nothing : Become table [] []
  one_more : (lines outs : List (List ℕ)) (line out : List ℕ) → Become table lines outs → Becomes table line out → Become table (lines ++ line ∷ []) (outs ++ out ∷ [])

-- the first line that opens a path which isn't resolved, counted from 1
pub record IsLostAt (table : Table) (lines : List (List ℕ)) (number : ℕ) : Type 0 where
  pub before : List (List ℕ)
  pub line : List ℕ
  pub behind : List (List ℕ)
  pub parts : lines ≡ before ++ line ∷ behind
  pub counted : number ≡ length before + 1
  pub outs : List (List ℕ)
  pub become : Become table before outs
  pub path : List ℕ
  pub flags : List ℕ
  pub object : List ℕ
  pub opens : Opens line path flags object
  pub lost : IsSome (resolve_fault table path)

-- the text that the lines of another become
pub record IsRewritten (table : Table) (lines : List (List ℕ)) (out : List ℕ) : Type 0 where
  pub outs : List (List ℕ)
  pub become : Become table lines outs
  pub joined : out ≡ join_with_byte 10 outs

-- the file is told, within its limit, and becomes this text; or is refused at this line
pub record IsScript (table : Table) (told : Told) (out : List ℕ) : Type 0 where
  pub text : List ℕ
  pub within : IsWithin limit.MAX_TEXT told text
  pub rewritten : IsRewritten table (lines_of text) out

pub record IsLostScript (table : Table) (told : Told) (number : ℕ) : Type 0 where
  pub text : List ℕ
  pub within : IsWithin limit.MAX_TEXT told text
  pub lost : IsLostAt table (lines_of text) number

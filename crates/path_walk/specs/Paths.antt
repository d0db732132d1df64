-- Paths: the texts of lists of names, and what is wrong with another text first.
use Rattle.std.specs.Prelude.{◌≡◌, ℕ, ◌==◌, ◌≤◌, nat_lt, not, if◌then◌else◌, List, [], ◌∷◌, ◌++◌, length, map, All, IsUtf8, Option}
use Rattle.std.specs.List.{slice_split, join_with_byte}
use Rattle.std.specs.Str.{bytes_eq, is_utf8}
use Rattle.fidl_names.specs.First.{cause_if, first_of}
use Rattle.fidl_names.specs.declared.limits.TheConstants as limit
use Rattle.path_walk.specs.declared.faults.PathFault.{PathFault}
use Rattle.path_walk.specs.declared.faults.PathFault.TheVariants as fault
use Rattle.path_walk.specs.Names.{slash, dot, holds, name_fault, IsName}

-- the text of a list of names: `.` for none, else the names joined by `/`
unfoldable pub text_of : List (List ℕ) → List ℕ
text_of [] = dot
text_of (name ∷ names) = join_with_byte slash (name ∷ names)

-- a text is the path of these names
pub record IsPath (text : List ℕ) (names : List (List ℕ)) : Type 0 where
  pub spelled : text ≡ text_of names
  pub valid : All IsName names
  pub short : length text ≤ limit.MAX_PATH
  pub utf8 : IsUtf8 text

-- the names that a text has: none for `.`, else what stands between its slashes
unfoldable pub names_of : List ℕ → List (List ℕ)
names_of text = if bytes_eq text dot then [] else slice_split (λ byte. byte == slash) text

-- what is wrong with the whole text
abbrev pub text_faults : List ℕ → List (Option PathFault)
text_faults text =
    cause_if (length text == 0) fault.Empty
    ∷ cause_if (nat_lt limit.MAX_PATH (length text)) fault.TooLong
    ∷ cause_if (not (is_utf8 text)) fault.NotUtf8
    ∷ cause_if (holds 0 text) fault.ZeroByte
    ∷ []

-- what is wrong with each name
abbrev pub name_faults : List (List ℕ) → List (Option PathFault)
name_faults names = map name_fault names

-- what is wrong with a path first: with the whole text, or else with a name
unfoldable pub path_fault : List ℕ → Option PathFault
path_fault text = first_of (text_faults text ++ name_faults (names_of text))

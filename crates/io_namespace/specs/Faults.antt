-- What is wrong with a prefix or a path first.
use Rattle.std.specs.Prelude.{◌≡◌, ℕ, ⊤, ◌==◌, ◌||◌, nat_lt, not, ◌&&◌, Bool, List, [], ◌∷◌, ◌++◌, length, slice_index, Option, Some, is_none, is_some}
use Rattle.std.specs.List.{list_any}
use Rattle.std.specs.Str.{is_utf8}
use Rattle.fidl_names.specs.First.{cause_if, first_of}
use Rattle.fidl_names.specs.declared.limits.TheConstants as limit
use Rattle.path_walk.specs.Names.{slash, holds}
use Rattle.io_namespace.specs.Cleaning.{clean, parts}
use Rattle.io_namespace.specs.Entries.{Table, reached}
use Rattle.io_namespace.specs.declared.faults.NameFault.{NameFault}
use Rattle.io_namespace.specs.declared.faults.NameFault.TheVariants as fault

-- the text begins with a slash
abbrev pub is_absolute : List ℕ → Bool
is_absolute text = not (length text == 0) && (slice_index text 0 == slash)

-- a part is no name, whatever becomes of it: it has too many bytes, or a zero byte
abbrev pub is_bad_part : List ℕ → Bool
is_bad_part part = nat_lt limit.MAX_NAME (length part) || holds 0 part

-- what may be wrong with a text, in this order
abbrev pub text_causes : List ℕ → List (Option NameFault)
text_causes text =
    cause_if (not (is_absolute text)) fault.Relative
    ∷ cause_if (nat_lt limit.MAX_PATH (length text)) fault.TooLong
    ∷ cause_if (not (is_utf8 text)) fault.NotUtf8
    ∷ cause_if (list_any is_bad_part (parts text)) fault.BadName
    ∷ []

-- and behind that with a prefix that is to be added, or with a path that is to be resolved
abbrev pub add_fault : Table → List ℕ → Option NameFault
add_fault table prefix = first_of (text_causes prefix ++ cause_if (is_some (table (clean prefix))) fault.Exists ∷ [])

abbrev pub resolve_fault : Table → List ℕ → Option NameFault
resolve_fault table path = first_of (text_causes path ++ cause_if (is_none (reached table (clean path))) fault.Unreachable ∷ [])

-- the fault is the first; want of memory says nothing
abbrev pub IsFirst : Option NameFault → NameFault → Type 0
IsFirst found fault.NoMemory = ⊤
IsFirst found told = found ≡ Some told

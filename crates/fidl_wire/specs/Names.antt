-- The numbers by which a message names its method.
use Rattle.std.specs.Prelude.{◌≡◌, ◌≢◌, ℕ, ◌%◌, ◌^◌, ◌<◌, List, [], ◌∷◌, slice_index_or, codes}
use Rattle.sha2.specs.Sha256.{sha256}
use Rattle.fidl_names.specs.declared.methods.Method.{Method}
use Rattle.fidl_names.specs.declared.methods.Method.TheVariants as method
use Rattle.fidl_names.specs.Numbers.{number_at}

-- the first eight bytes of the name's SHA-256, with the top bit cleared
abbrev pub ordinal_of : List ℕ → ℕ
ordinal_of name = number_at 8 0 (sha256 name) % 2 ^ 63

-- the row of each method
abbrev pub row_of : Method → ℕ
row_of method.Clone = 0
row_of method.Close = 1
row_of method.Query = 2
row_of method.GetAttributes = 3
row_of method.Sync = 4
row_of method.OpenPath = 5
row_of method.ReadDirents = 6
row_of method.Rewind = 7
row_of method.GetToken = 8
row_of method.Rename = 9
row_of method.Link = 10
row_of method.Unlink = 11
row_of method.Watch = 12
row_of method.Read = 13
row_of method.ReadAt = 14
row_of method.Write = 15
row_of method.WriteAt = 16
row_of method.Seek = 17
row_of method.Resize = 18
row_of method.EchoString = 19

-- the full names by their rows: those of the methods, and the event OnRepresentation
unfoldable pub full_names : List (List ℕ)
full_names =
    codes "fuchsia.unknown/Cloneable.Clone" ∷
    codes "fuchsia.unknown/Closeable.Close" ∷
    codes "fuchsia.unknown/Queryable.Query" ∷
    codes "fuchsia.io/Node.GetAttributes" ∷
    codes "fuchsia.io/Node.Sync" ∷
    codes "fuchsia.io/Directory.Open" ∷
    codes "fuchsia.io/Directory.ReadDirents" ∷
    codes "fuchsia.io/Directory.Rewind" ∷
    codes "fuchsia.io/Directory.GetToken" ∷
    codes "fuchsia.io/Directory.Rename" ∷
    codes "fuchsia.io/Directory.Link" ∷
    codes "fuchsia.io/Directory.Unlink" ∷
    codes "fuchsia.io/Directory.Watch" ∷
    codes "fuchsia.io/Readable.Read" ∷
    codes "fuchsia.io/File.ReadAt" ∷
    codes "fuchsia.io/Writable.Write" ∷
    codes "fuchsia.io/File.WriteAt" ∷
    codes "fuchsia.io/File.Seek" ∷
    codes "fuchsia.io/File.Resize" ∷
    codes "fuchsia.examples/Echo.EchoString" ∷
    codes "fuchsia.io/Node.OnRepresentation" ∷ []

-- the event's row, which is no method's, and how many rows there are
abbrev pub event_row : ℕ
event_row = 20

abbrev pub row_count : ℕ
row_count = 21

abbrev pub name_at : ℕ → List ℕ
name_at row = slice_index_or full_names row []

abbrev pub ordinal_at : ℕ → ℕ
ordinal_at row = ordinal_of (name_at row)

-- the ordinals of a method and of the event
abbrev pub method_ordinal : Method → ℕ
method_ordinal m = ordinal_at (row_of m)

abbrev pub event_ordinal : ℕ
event_ordinal = ordinal_at event_row

-- no two rows have equal ordinals
abbrev pub AreDistinct : Type 0
AreDistinct = (i j : ℕ) → i < j → j < row_count → ordinal_at i ≢ ordinal_at j

-- each method has an ordinal of its own
abbrev pub MethodsHaveTheirOwn : Type 0
MethodsHaveTheirOwn = (m n : Method) → method_ordinal m ≡ method_ordinal n → m ≡ n

-- no method has the event's
abbrev pub EventHasItsOwn : Type 0
EventHasItsOwn = (m : Method) → method_ordinal m ≢ event_ordinal

-- rows i and j are the first that have equal ordinals: no earlier second row has such a first one, and this one no earlier first
pub record IsFirstCollision (i j : ℕ) : Type 0 where
  pub order : i < j
  pub row : j < row_count
  pub equal : ordinal_at i ≡ ordinal_at j
  pub second : (a b : ℕ) → a < b → b < j → ordinal_at a ≢ ordinal_at b
  pub first : (a : ℕ) → a < i → ordinal_at a ≢ ordinal_at j

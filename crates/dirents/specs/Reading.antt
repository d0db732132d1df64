-- Reading: the entries that bytes are.
use Rattle.std.specs.Prelude.{◌≡◌, ℕ, ◌+◌, ◌^◌, ◌<◌, ◌⊎◌, List, [], ◌∷◌, ◌++◌, length, slice_index, All, Option, Some, None}
use Rattle.std.specs.List.{flat_map}
use Rattle.fidl_names.specs.Numbers.{AreBytes}
use Rattle.dirents.specs.declared.entries.Entries.{Entries}
use Rattle.dirents.specs.declared.dirent.Dirent as code
use Rattle.dirents.specs.Listings.{Dirent, dirent_bytes}

-- no whole entry stands in front: the ninth byte is the length of its name
abbrev pub IsCut : List ℕ → Type 0
IsCut bytes = (length bytes < 10) ⊎ (length bytes < 10 + slice_index bytes 8)

-- each number of an entry has the size of its field
pub record FitsFields (entry : Dirent) : Type 0 where
  pub ino : entry.ino < 2 ^ 64
  pub type : entry.type < 256
  pub named : length entry.name < 256

-- the bytes are these entries, and then a rest in front of which no whole entry stands
pub record AreEntries (bytes : List ℕ) (entries : List Dirent) (rest : List ℕ) : Type 0 where
  pub split : bytes ≡ flat_map dirent_bytes entries ++ rest
  pub fit : All FitsFields entries
  pub cut : IsCut rest

-- an entry as it was read
abbrev pub entry_of : code.Dirent → Dirent
entry_of found = record { ino = found.ino; type = found.kind; name = found.name.now }

-- the bytes behind the entries that were given
abbrev pub left : Entries → List ℕ
left entries = entries.bytes.now

-- the next entry is the one in front, and it is taken off; where none stands in front nothing changes
abbrev pub Gives : Entries → Option code.Dirent → Entries → Type 0
Gives old (Some found) new = (left old ≡ dirent_bytes (entry_of found) ++ left new) × FitsFields (entry_of found)
Gives old None new = IsCut (left old) × (new ≡ old)

-- what bytes are as entries
pub record HasEntries (bytes : List ℕ) : Type 0 where
  pub entries : List Dirent
  pub rest : List ℕ
  pub are : AreEntries bytes entries rest

-- any bytes are entries and a rest
abbrev pub BytesHaveEntries : Type 0
BytesHaveEntries = (bytes : List ℕ) → AreBytes bytes → HasEntries bytes

-- the entry that is given is the first of those that the bytes are, and the others are those of the bytes left then
abbrev pub FirstIsGiven : Type 0
FirstIsGiven =
    (old new : Entries) (found : code.Dirent) (entries : List Dirent) (rest : List ℕ) → Gives old (Some found) new → AreEntries (left new) entries rest →
    AreEntries (left old) (entry_of found ∷ entries) rest

-- where none is given the bytes are no entries, and all of them are the rest
abbrev pub NoneIsGiven : Type 0
NoneIsGiven = (old new : Entries) → Gives old None new → AreEntries (left old) [] (left new)

-- bytes are one list of entries and one rest
abbrev pub EntriesAreReadOnce : Type 0
EntriesAreReadOnce =
    (bytes rest rest' : List ℕ) (entries entries' : List Dirent) → AreEntries bytes entries rest → AreEntries bytes entries' rest' →
    (entries ≡ entries') × (rest ≡ rest')

-- entries as they are written are these entries, and nothing is left
abbrev pub WrittenEntriesAreRead : Type 0
WrittenEntriesAreRead = (entries : List Dirent) → All FitsFields entries → AreEntries (flat_map dirent_bytes entries) entries []

-- Listings: what is in a directory from a place on, and how much of it fits.
use Rattle.std.specs.Prelude.{ℕ, ◌+◌, ◌-◌, ◌==◌, ◌&&◌, Bool, not, nat_le, if◌then◌else◌, List, [], ◌∷◌, ◌++◌, length, map, Option, Some, None, unwrap_or}
use Rattle.std.specs.Str.{bytes_eq}
use Rattle.fidl_names.specs.Numbers.{number_bytes}
use Rattle.node_graph.specs.declared.nodes.NodeKind.{NodeKind}
use Rattle.node_graph.specs.declared.nodes.NodeKind.TheVariants.{Directory, File, Service, Mount}
use Rattle.node_graph.specs.Graph.{Listed, listed_after}
use Rattle.node_graph.specs.Tree.{Tree, kind_of}
use Rattle.path_walk.specs.Names.{dot}
use Rattle.dirents.specs.declared.place.Place.{Place}
use Rattle.dirents.specs.declared.place.Place.TheVariants.{Start, AfterDot, After}

-- an entry: a node's number, the type of its kind, and a name
pub record Dirent : Type 0 where
  pub ino : ℕ
  pub type : ℕ
  pub name : List ℕ

abbrev pub type_of : NodeKind → ℕ
type_of Directory = 4
type_of File = 8
type_of Service = 16
type_of (Mount index) = 4

-- as it is written: the number in eight bytes, the name's length, the type, the name
abbrev pub dirent_bytes : Dirent → List ℕ
dirent_bytes entry = number_bytes 8 entry.ino ++ length entry.name ∷ entry.type ∷ entry.name

abbrev pub dirent_size : Dirent → ℕ
dirent_size entry = 10 + length entry.name

-- what a node is; a number without a row, which is no node's, stands as a directory
abbrev pub kind_here : Tree → ℕ → NodeKind
kind_here tree number = unwrap_or (kind_of tree number) Directory

-- the directory itself, under the name `.`
abbrev pub dot_entry : ℕ → Dirent
dot_entry directory = record { ino = directory; type = type_of Directory; name = dot }

-- the names after one, in the order of their bytes
abbrev pub name_entries : Tree → ℕ → Option (List ℕ) → List Dirent
name_entries tree directory after =
    map (λ listed. record { ino = listed.1; type = type_of (kind_here tree listed.1); name = listed.0 }) (listed_after tree.edges directory after)

-- the entry that a name of a listing is
abbrev pub listed_entry : Listed → Dirent
listed_entry listed = record { ino = listed.number; type = type_of listed.kind; name = listed.name }

-- the listing of a directory from a place on: `.`, then the names
abbrev pub listing : Tree → ℕ → Place → List Dirent
listing tree directory Start = dot_entry directory ∷ name_entries tree directory None
listing tree directory AfterDot = name_entries tree directory None
listing tree directory (After name) = name_entries tree directory (Some name)

-- the longest beginning of a list that fits into so many bytes
abbrev pub fitting : List Dirent → ℕ → List Dirent
fitting [] room = []
fitting (entry ∷ entries) room = if nat_le (dirent_size entry) room then entry ∷ fitting entries (room - dirent_size entry) else []

-- the place behind an entry, and behind the last of a list
abbrev pub behind_name : List ℕ → Place
behind_name name = if bytes_eq name dot then AfterDot else After name

abbrev pub place_behind : Dirent → Place
place_behind entry = behind_name entry.name

abbrev pub place_after : Place → List Dirent → Place
place_after place [] = place
place_after place (entry ∷ entries) = place_after (place_behind entry) entries

-- there is a next entry, and it doesn't fit
abbrev pub fits_none : List Dirent → ℕ → Bool
fits_none entries room = not (length entries == 0) && (length (fitting entries room) == 0)

-- Words of the steps in which the entries that fit are taken.
use Rattle.std.specs.Prelude.{◌≡◌, ℕ, ◌+◌, ◌*◌, ◌≤◌, List, ◌++◌, length, Option, Some, None, IfSome}
use Rattle.std.specs.List.{flat_map}
use Rattle.std.specs.Borrow.{Bor}
use Rattle.fidl_wire.specs.Written.{Written}
use Rattle.node_graph.specs.Tree.{HasNameLength}
use Rattle.dirents.specs.declared.packing.Tally.{Tally}
use Rattle.dirents.specs.declared.place.Place.{Place}
use Rattle.dirents.specs.declared.place.Place.TheVariants.{Start, After}
use Rattle.dirents.specs.Listings.{Dirent, behind_name, dirent_bytes, fitting, place_after}

-- the two parts of a listing: the directory's own entry, where it is behind the place, and the names behind a name
abbrev pub dot_at : ℕ → Place → Option ℕ
dot_at directory Start = Some directory
dot_at directory _ = None

abbrev pub name_at : Place → Option (List ℕ)
name_at (After name) = Some name
name_at _ = None

-- the name of an entry is as long as a name may be
abbrev pub HasEntryName : Dirent → Type 0
HasEntryName entry = HasNameLength entry.name

-- the name of the last entry is one that an entry can have
abbrev pub HasName : Option (Bor (List ℕ)) → Type 0
HasName last = IfSome last (λ name. HasNameLength name.now)

-- the place behind the last entry, if there is one
abbrev pub behind_last : Place → Option (Bor (List ℕ)) → Place
behind_last place None = place
behind_last place (Some name) = behind_name name.now

-- these entries were taken, of so many bytes
pub record HasTaken (entries : List Dirent) (room : ℕ) (tally : Tally) : Type 0 where
  pub count : tally.count ≡ length entries
  pub bytes : tally.bytes ≡ length (flat_map dirent_bytes entries)
  pub free : tally.bytes + tally.free ≡ room
  pub last : (place : Place) → place_after place entries ≡ behind_last place tally.last
  pub named : HasName tally.last
  -- an entry has at most 265 bytes
  pub small : tally.bytes ≤ 265 * tally.count

-- of a listing some entries were taken, and these are left: what fits of the listing is what was taken and what fits of the rest
pub record TakesOn (listed : List Dirent) (room : ℕ) (rest : List Dirent) (tally : Tally) : Type 0 where
  pub entries : List Dirent
  pub taken : HasTaken entries room tally
  pub split : listed ≡ entries ++ rest
  pub fits : fitting listed room ≡ entries ++ fitting rest tally.free

-- so, and the entries that were taken stand behind what the output had
pub record PacksOn (listed : List Dirent) (room : ℕ) (rest : List Dirent) (tally : Tally) (old new : Written) : Type 0 where
  pub steps : TakesOn listed room rest tally
  pub bytes : new.bytes ≡ old.bytes ++ flat_map dirent_bytes steps.entries
  pub handles : new.handles ≡ old.handles

-- Packing: what is told of the entries that fit into so many bytes.
use Rattle.std.specs.Prelude.{◌≡◌, ℕ, ◌&&◌, ◌==◌, Bool, nat_lt, List, ◌++◌, length}
use Rattle.std.specs.List.{flat_map}
use Rattle.node_graph.specs.Graph.{Kept, StandsFor}
use Rattle.node_graph.specs.Tree.{Tree}
use Rattle.dirents.specs.declared.packing.Packed as code
use Rattle.dirents.specs.declared.place.Place.{Place}
use Rattle.dirents.specs.Listings.{Dirent, dirent_bytes, fits_none, fitting, listing, place_after}

-- the bytes of the entries that fit
abbrev pub fitting_bytes : List Dirent → ℕ → List ℕ
fitting_bytes entries room = flat_map dirent_bytes (fitting entries room)

-- more entries follow than fit
abbrev pub leaves_some : List Dirent → ℕ → Bool
leaves_some entries room = nat_lt (length (fitting entries room)) (length entries)

-- of the entries behind a place, so many fit, with so many bytes; whether more follow; and the place behind those that fit
pub record TellsOf (entries : List Dirent) (place : Place) (room : ℕ) (found : code.Packed) : Type 0 where
  pub count : found.count ≡ length (fitting entries room)
  pub bytes : found.bytes ≡ length (fitting_bytes entries room)
  pub more : found.more ≡ leaves_some entries room
  pub next : found.next ≡ place_after place (fitting entries room)
  -- more follow, and none fits
  pub stuck : fits_none entries room ≡ (found.more && (found.count == 0))

-- so of the listing of a directory from a place on, in every tree that the graph stands for
abbrev pub Tells : Kept → ℕ → Place → ℕ → code.Packed → Type 0
Tells graph directory place room found =
    (tree : Tree) → StandsFor graph tree → TellsOf (listing tree directory place) place room found

-- the output has the entries that fit behind what it had
abbrev pub Appends : Kept → ℕ → Place → ℕ → List ℕ → List ℕ → Type 0
Appends graph directory place room old new =
    (tree : Tree) → StandsFor graph tree → new ≡ old ++ fitting_bytes (listing tree directory place) room

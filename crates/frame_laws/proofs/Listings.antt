-- That listings are bytes, and no more of them than was asked for.
use Rattle.std.proofs.Common.{◌≡◌, ℕ, ◌-◌, ◌≤◌, ◌<◌, Bool, true, false, cond, nat_le, List, [], ◌∷◌, length, Option, Some, None, refl, All, lit<, arith, length-append}
use Rattle.std.specs.List.{flat_map}
use Rattle.std.proofs.lemmas.Bool.{leb-true}
use Rattle.std.proofs.lemmas.List.Elements.{All-cons, All-head, All-tail, All-map, All-weaker}
use Rattle.dirents.specs.Listings.{Dirent, dirent_bytes, dirent_size, dot_entry, fitting, kind_here, listing, name_entries, type_of}
use Rattle.dirents.specs.declared.place.Place.{Place}
use Rattle.dirents.specs.declared.place.Place.TheVariants.{Start, AfterDot, After}
use Rattle.fidl_names.specs.Numbers.{AreBytes, number_bytes}
use Rattle.node_graph.specs.declared.nodes.NodeKind.{NodeKind}
use Rattle.node_graph.specs.declared.nodes.NodeKind.TheVariants.{Directory, File, Service, Mount}
use Rattle.node_graph.specs.Graph.{listed_after}
use Rattle.node_graph.specs.Tree.{IsSound, Tree}
use Rattle.journal_laws.proofs.Texts.{IsShortName, both_written, first_written, none_written}
use Rattle.frame_laws.proofs.Trees.{short_listed}
use Rattle.frame_laws.proofs.Written.{length-number, number_written}
use Rattle.journal_laws.specs.Contents.{HasBytes}

-- the name and the type of an entry can be written
record IsListed (entry : Dirent) : Type 0 where
  name : IsShortName entry.name
  type : entry.type < 256

small_type : (kind : NodeKind) → type_of kind < 256
small_type Directory = lit< tt
small_type File = lit< tt
small_type Service = lit< tt
small_type (Mount index) = lit< tt

named_entries : (tree : Tree) (directory : ℕ) (place : Option (List ℕ)) → IsSound tree → HasBytes tree → All IsListed (name_entries tree directory place)
named_entries tree directory place sound bytes =
    All-map IsListed (λ (listed : List ℕ × ℕ). record { ino = listed.1; type = type_of (kind_here tree listed.1); name = listed.0 }) (listed_after tree.edges directory place)
    (All-weaker (λ (listed : List ℕ × ℕ). IsShortName listed.0) (λ (listed : List ℕ × ℕ). IsListed (record { ino = listed.1; type = type_of (kind_here tree listed.1); name = listed.0 }))
    (λ listed is. record { name = is; type = small_type (kind_here tree listed.1) }) (listed_after tree.edges directory place) (short_listed tree directory place sound bytes))

all_listed : (tree : Tree) (directory : ℕ) (place : Place) → IsSound tree → HasBytes tree → All IsListed (listing tree directory place)
all_listed tree directory Start sound bytes =
    All-cons IsListed (dot_entry directory) (name_entries tree directory None)
    (record { name = record { bytes = first_written 46 [] (lit< tt) none_written; short = omega arith }; type = lit< tt })
    (named_entries tree directory None sound bytes)
all_listed tree directory AfterDot sound bytes = named_entries tree directory None sound bytes
all_listed tree directory (After name) sound bytes = named_entries tree directory (Some name) sound bytes

entry_written : (entry : Dirent) → IsListed entry → AreBytes (dirent_bytes entry)
entry_written entry h =
    let short = h.name.short in
    both_written (number_bytes 8 entry.ino) (length entry.name ∷ entry.type ∷ entry.name) (number_written 8 entry.ino)
    (first_written (length entry.name) (entry.type ∷ entry.name) (omega (arith, short)) (first_written entry.type entry.name h.type h.name.bytes))

entry_size : (entry : Dirent) → length (dirent_bytes entry) ≡ dirent_size entry
entry_size entry = omega (arith, length-append (number_bytes 8 entry.ino) (length entry.name ∷ entry.type ∷ entry.name), length-number 8 entry.ino)

-- bytes, at most so many
pub record AreAtMost (listed : List ℕ) (most : ℕ) : Type 0 where
  pub bytes : AreBytes listed
  pub few : length listed ≤ most

fitting_written : (entries : List Dirent) (room : ℕ) → All IsListed entries → AreAtMost (flat_map dirent_bytes (fitting entries room)) room
fitting_written [] room h = record { bytes = none_written; few = omega arith }
fitting_written (entry ∷ entries) room h =
    by_test (nat_le (dirent_size entry) room) refl (fitting_written entries (room - dirent_size entry) (All-tail IsListed entry entries h)) where
      by_test : (b : Bool) → nat_le (dirent_size entry) room ≡ b → AreAtMost (flat_map dirent_bytes (fitting entries (room - dirent_size entry))) (room - dirent_size entry) →
          AreAtMost (flat_map dirent_bytes (cond b (entry ∷ fitting entries (room - dirent_size entry)) [])) room
      by_test true fits rest =
          let here = leb-true (dirent_size entry) room fits in
          let later = rest.few in
          record {
            bytes = both_written (dirent_bytes entry) (flat_map dirent_bytes (fitting entries (room - dirent_size entry))) (entry_written entry (All-head IsListed entry entries h)) rest.bytes;
            few = omega (arith, here, later, entry_size entry, length-append (dirent_bytes entry) (flat_map dirent_bytes (fitting entries (room - dirent_size entry))));
          }
      by_test false fits rest = record { bytes = none_written; few = omega arith }

-- what is listed of a directory from a place on
pub listing_written : (tree : Tree) (directory : ℕ) (place : Place) (room : ℕ) → IsSound tree → HasBytes tree → AreAtMost (flat_map dirent_bytes (fitting (listing tree directory place) room)) room
listing_written tree directory place room sound bytes = fitting_written (listing tree directory place) room (all_listed tree directory place sound bytes)

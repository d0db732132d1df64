-- How many bytes entries have, and where one of them ends.
use Rattle.std.proofs.Common.{◌≡◌, ℕ, ◌+◌, List, [], ◌∷◌, ◌++◌, length, refl, ap, length-append, arith}
use Rattle.std.proofs.lemmas.Grind.{flat_map-append}
use Rattle.std.proofs.lemmas.List.{append-nil}
use Rattle.std.specs.List.{flat_map}
use Rattle.byteorder.specs.Numbers.{length-bytes_low_first}
use Rattle.fidl_names.specs.Numbers.{number_bytes}
use Rattle.dirents.specs.declared.place.Place.{Place}
use Rattle.dirents.specs.Listings.{Dirent, dirent_bytes, dirent_size, place_after, place_behind}

pub length-number : (x : ℕ) → length (number_bytes 8 x) ≡ 8
unfolding number_bytes
length-number x = length-bytes_low_first 0 8 x

pub length-dirent : (e : Dirent) → length (dirent_bytes e) ≡ dirent_size e
length-dirent e = omega (arith, length-append (number_bytes 8 e.ino) (length e.name ∷ e.type ∷ e.name), length-number e.ino)

pub length-more : (es : List Dirent) (e : Dirent) → length (flat_map dirent_bytes (es ++ e ∷ [])) ≡ length (flat_map dirent_bytes es) + dirent_size e
length-more es e =
    let joined = ap length (flat_map-append dirent_bytes es (e ∷ [])) in
    let both = length-append (flat_map dirent_bytes es) (flat_map dirent_bytes (e ∷ [])) in
    let one : flat_map dirent_bytes (e ∷ []) ≡ dirent_bytes e = append-nil (dirent_bytes e) in
    omega (arith, joined, both, ap length one, length-dirent e)

pub behind-more : (es : List Dirent) (place : Place) (e : Dirent) → place_after place (es ++ e ∷ []) ≡ place_behind e
behind-more [] place e = refl
behind-more (x ∷ es) place e = behind-more es (place_behind x) e

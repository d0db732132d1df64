-- Any bytes are entries and a rest, and the entries that are given one by one are these.
use Rattle.std.proofs.Common.{◌≡◌, ℕ, zero, suc, ◌+◌, ◌<◌, ◌≤◌, ◌⊎◌, List, [], ◌∷◌, ◌++◌, length, take, drop, get_or, Option, Some, None, refl, sym, ap, ◌∙◌, arith, append_assoc, length-append, take-append-drop, inl, inr}
use Rattle.std.specs.Prelude.{All}
use Rattle.std.specs.List.{flat_map}
use Rattle.std.proofs.lemmas.Bool.{cases_lt}
use Rattle.std.proofs.lemmas.List.{length-take-le, get_or-take}
use Rattle.std.proofs.lemmas.List.Elements.{All-nil, All-cons, All-head, All-tail, All-drop}
use Rattle.byteorder.specs.Endian.{little_number}
use Rattle.fidl_names.specs.Numbers.{AreBytes}
use Rattle.dirents.specs.declared.entries.Entries.{Entries}
use Rattle.dirents.specs.declared.dirent.Dirent as code
use Rattle.dirents.specs.Listings.{Dirent, dirent_bytes}
use Rattle.dirents.specs.Reading.{AreEntries, BytesHaveEntries, FitsFields, Gives, HasEntries, IsCut, entry_of, left}
use Rattle.dirents.proofs.Numbers.{below_front, entry_read, entry_fits}

-- a byte of bytes, or 0 past their end
byte_below : (bytes : List ℕ) → AreBytes bytes → (k : ℕ) → get_or bytes k 0 < 256
byte_below [] are k = omega arith
byte_below (x ∷ xs) are zero = All-head (λ y. y < 256) x xs are
byte_below (x ∷ xs) are (suc k) = byte_below xs (All-tail (λ y. y < 256) x xs are) k

-- an entry in front of entries
pub in_front : (bytes more : List ℕ) (first : Dirent) (entries : List Dirent) (rest : List ℕ) → bytes ≡ dirent_bytes first ++ more → FitsFields first → AreEntries more entries rest
    → AreEntries bytes (first ∷ entries) rest
in_front bytes more first entries rest is fits others = record {
  split = is ∙ ap (λ (xs : List ℕ). dirent_bytes first ++ xs) others.split ∙ sym (append_assoc (dirent_bytes first) (flat_map dirent_bytes entries) rest);
  fit = All-cons FitsFields first entries fits others.fit;
  cut = others.cut;
}

pub no_entry : (bytes : List ℕ) → IsCut bytes → AreEntries bytes [] bytes
no_entry bytes cut = record { split = refl; fit = All-nil FitsFields; cut = cut }

alone : (bytes : List ℕ) → IsCut bytes → HasEntries bytes
alone bytes cut = record { entries = []; rest = bytes; are = no_entry bytes cut }

-- the name's length, and the entry in front where all of it is there
abbrev named : List ℕ → ℕ
named bytes = get_or (take 10 bytes) 8 0

abbrev first_of : List ℕ → Dirent
first_of bytes = record { ino = little_number 8 (take 10 bytes); type = get_or (take 10 bytes) 9 0; name = take (named bytes) (drop 10 bytes) }

abbrev behind : List ℕ → List ℕ
behind bytes = drop (named bytes) (drop 10 bytes)

parts : (bytes : List ℕ) → bytes ≡ take 10 bytes ++ (take (named bytes) (drop 10 bytes) ++ behind bytes)
parts bytes =
    sym (take-append-drop 10 bytes)
    ∙ ap (λ (xs : List ℕ). take 10 bytes ++ xs) (sym (take-append-drop (named bytes) (drop 10 bytes)))

length_parts : (bytes : List ℕ) → 10 ≤ length bytes → length (drop 10 bytes) + 10 ≡ length bytes
length_parts bytes long =
    let sum = ap length (take-append-drop 10 bytes) in
    omega (arith, sum, length-append (take 10 bytes) (drop 10 bytes), length-take-le 10 bytes long)

stands : (bytes : List ℕ) → AreBytes bytes → 10 ≤ length bytes → 10 + named bytes ≤ length bytes → (bytes ≡ dirent_bytes (first_of bytes) ++ behind bytes) × FitsFields (first_of bytes)
stands bytes are long whole =
    let head = take 10 bytes in
    let name = take (named bytes) (drop 10 bytes) in
    let small : (k : ℕ) → get_or head k 0 < 256 = below_front 10 bytes (byte_below bytes are) in
    let few : named bytes ≤ length (drop 10 bytes) = omega (arith, whole, length_parts bytes long) in
    let same : length name ≡ get_or head 8 0 = length-take-le (named bytes) (drop 10 bytes) few in (
      parts bytes ∙ entry_read head name (behind bytes) (little_number 8 head) refl small (length-take-le 10 bytes long) same,
      entry_fits head name (little_number 8 head) refl small same,
    )

shorter : (bytes : List ℕ) → 10 ≤ length bytes → length (behind bytes) < length bytes
shorter bytes long =
    let sum = ap length (take-append-drop (named bytes) (drop 10 bytes)) in
    omega (arith, sum, length-append (take (named bytes) (drop 10 bytes)) (behind bytes), length_parts bytes long)

with_first : (bytes : List ℕ) → AreBytes bytes → 10 ≤ length bytes → 10 + named bytes ≤ length bytes → HasEntries (behind bytes) → HasEntries bytes
with_first bytes are long whole others =
    let first = stands bytes are long whole in
    record {
      entries = first_of bytes ∷ others.entries;
      rest = others.rest;
      are = in_front bytes (behind bytes) (first_of bytes) others.entries others.rest first.0 first.1 others.are;
    }

behind_bytes : (bytes : List ℕ) → AreBytes bytes → AreBytes (behind bytes)
behind_bytes bytes are = All-drop (λ x. x < 256) (named bytes) (drop 10 bytes) (All-drop (λ x. x < 256) 10 bytes are)

found_in : (fuel : ℕ) (bytes : List ℕ) → length bytes ≤ fuel → AreBytes bytes → HasEntries bytes
found_in zero bytes few are = alone bytes (inl (omega (arith, few)))
found_in (suc fuel) bytes few are =
    elim (cases_lt (length bytes) 10) [
      | inl short ↦ alone bytes (inl short)
      | inr long ↦
          elim (cases_lt (length bytes) (10 + named bytes)) [
            | inl cut ↦ alone bytes (inr (omega (arith, cut, get_or-take 10 bytes 8 0 (omega arith))))
            | inr whole ↦ with_first bytes are long whole (found_in fuel (behind bytes) (omega (arith, few, shorter bytes long)) (behind_bytes bytes are))
          ]
    ]

pub bytes_have : BytesHaveEntries
bytes_have bytes are = found_in (length bytes) bytes (omega arith) are

-- What was read in front of bytes is written there.
use Rattle.std.proofs.Common.{◌≡◌, ℕ, zero, suc, ◌<◌, ◌^◌, List, [], ◌∷◌, ◌++◌, length, take, get_or, refl, sym, ap, subst, ◌∙◌, arith}
use Rattle.std.proofs.lemmas.Nat.{le_bytes_8}
use Rattle.byteorder.specs.Endian.{little_number}
use Rattle.byteorder.specs.Numbers.{little_from-lt}
use Rattle.fidl_names.specs.Numbers.{number_bytes}
use Rattle.dirents.specs.Listings.{dirent_bytes}
use Rattle.dirents.specs.Reading.{FitsFields}

-- the bytes in front are bytes
pub below_front : (n : ℕ) (xs : List ℕ) → ((k : ℕ) → get_or xs k 0 < 256) → (k : ℕ) → get_or (take n xs) k 0 < 256
below_front zero xs are k = omega arith
below_front (suc n) [] are k = omega arith
below_front (suc n) (x ∷ xs) are zero = are zero
below_front (suc n) (x ∷ xs) are (suc k) = below_front n xs (λ k. are (suc k)) k

-- ten bytes are the number in the first eight, and two more
head_is : (bytes : List ℕ) → ((k : ℕ) → get_or bytes k 0 < 256) → length bytes ≡ 10 → number_bytes 8 (little_number 8 bytes) ++ get_or bytes 8 0 ∷ get_or bytes 9 0 ∷ [] ≡ bytes
unfolding number_bytes
head_is (a ∷ b ∷ c ∷ d ∷ e ∷ f ∷ g ∷ h ∷ i ∷ j ∷ []) are size =
    let front : List ℕ = a ∷ b ∷ c ∷ d ∷ e ∷ f ∷ g ∷ h ∷ [] in
    ap (λ (xs : List ℕ). xs ++ i ∷ j ∷ []) (le_bytes_8 front (little_number 8 front) refl (below_front 8 (a ∷ b ∷ c ∷ d ∷ e ∷ f ∷ g ∷ h ∷ i ∷ j ∷ []) are) (omega arith))
head_is _ are size = absurd (omega (arith, size))

-- an entry's head, its name and others are the entry and others
pub entry_read : (head name others : List ℕ) (ino : ℕ) → ino ≡ little_number 8 head → ((k : ℕ) → get_or head k 0 < 256) → length head ≡ 10 → length name ≡ get_or head 8 0
    → head ++ (name ++ others) ≡ dirent_bytes (record { ino = ino; type = get_or head 9 0; name = name }) ++ others
unfolding number_bytes
entry_read head name others ino is are size same =
    ap (λ (front : List ℕ). front ++ (name ++ others)) (sym (head_is head are size))
    ∙ ap (λ (n : ℕ). number_bytes 8 (little_number 8 head) ++ n ∷ get_or head 9 0 ∷ (name ++ others)) (sym same)
    ∙ ap (λ (n : ℕ). number_bytes 8 n ++ length name ∷ get_or head 9 0 ∷ (name ++ others)) (sym is)

pub entry_fits : (head name : List ℕ) (ino : ℕ) → ino ≡ little_number 8 head → ((k : ℕ) → get_or head k 0 < 256) → length name ≡ get_or head 8 0
    → FitsFields (record { ino = ino; type = get_or head 9 0; name = name })
entry_fits head name ino is are same = record {
  ino = subst (λ (n : ℕ). n < 2 ^ 64) (sym is) (little_from-lt 0 8 head are);
  type = are 9;
  named = omega (arith, same, are 8);
}

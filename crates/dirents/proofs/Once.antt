-- Bytes are one list of entries and one rest.
use Rattle.std.proofs.Common.{◌≡◌, ℕ, zero, suc, ◌<◌, ◌^◌, List, [], ◌∷◌, ◌++◌, length, take, drop, get_or, sym, ap, ◌∙◌, arith, refl, append_assoc, length-append, inl, inr}
use Rattle.std.proofs.Math.Seq.{take-append_seam}
use Rattle.std.proofs.lemmas.List.{append_cancel_left}
use Rattle.std.specs.List.{flat_map}
use Rattle.std.specs.Prelude.{All}
use Rattle.byteorder.specs.Endian.{little_number}
use Rattle.byteorder.specs.Numbers.{little_number-reads_back}
use Rattle.fidl_names.specs.Numbers.{number_bytes}
use Rattle.dirents.specs.Listings.{Dirent, dirent_bytes}
use Rattle.dirents.specs.Reading.{EntriesAreReadOnce, FitsFields, IsCut}

abbrev spells : List Dirent → List ℕ
spells entries = flat_map dirent_bytes entries

abbrev front_of : List ℕ → Dirent
front_of bytes = record { ino = little_number 8 bytes; type = get_or bytes 9 0; name = take (get_or bytes 8 0) (drop 10 bytes) }

front_of-dirent_bytes : (e : Dirent) (more : List ℕ) → e.ino < 2 ^ 64 → front_of (dirent_bytes e ++ more) ≡ e
unfolding number_bytes
front_of-dirent_bytes e more small =
    let number : little_number 8 (dirent_bytes e ++ more) ≡ e.ino =
    ap (little_number 8) (append_assoc (number_bytes 8 e.ino) (length e.name ∷ e.type ∷ e.name) more) ∙ little_number-reads_back 8 e.ino (length e.name ∷ e.type ∷ (e.name ++ more)) small in
    let name : take (length e.name) (e.name ++ more) ≡ e.name = take-append_seam e.name more in
    ap (λ (ino : ℕ). record { ino = ino; type = e.type; name = take (length e.name) (e.name ++ more) }) number
    ∙ ap (λ (name : List ℕ). record { ino = e.ino; type = e.type; name = name }) name

-- a rest in front of which no entry stands is none of these
cut_off : (e : Dirent) (more rest : List ℕ) → IsCut rest → dirent_bytes e ++ more ≡ rest → ⊥
unfolding number_bytes
cut_off e more rest (inl short) is = let n = ap length is in omega (arith, n, short, length-append e.name more)
cut_off e more rest (inr short) is =
    let n = ap length is in
    let s = ap (λ (bytes : List ℕ). get_or bytes 8 0) is in
    omega (arith, n, s, short, length-append e.name more)

one_split : (es fs : List Dirent) (r q : List ℕ) → All FitsFields es → All FitsFields fs → IsCut r → IsCut q → spells es ++ r ≡ spells fs ++ q → (es ≡ fs) × (r ≡ q)
one_split [] [] r q fe ff cr cq e = (refl, e)
one_split [] (f ∷ fs) r q fe ff cr cq e =
    absurd (cut_off f (spells fs ++ q) r cr (sym (e ∙ append_assoc (dirent_bytes f) (spells fs) q)))
one_split (e ∷ es) [] r q fe ff cr cq is =
    absurd (cut_off e (spells es ++ r) q cq (sym (append_assoc (dirent_bytes e) (spells es) r) ∙ is))
one_split (e ∷ es) (f ∷ fs) r q fe ff cr cq is =
    let joined = sym (append_assoc (dirent_bytes e) (spells es) r) ∙ (is ∙ append_assoc (dirent_bytes f) (spells fs) q) in
    let first : e ≡ f = sym (front_of-dirent_bytes e (spells es ++ r) (fe zero e (omega arith)).ino) ∙ (ap front_of joined ∙ front_of-dirent_bytes f (spells fs ++ q) (ff zero f (omega arith)).ino) in
    let others = append_cancel_left (dirent_bytes e) (spells es ++ r) (spells fs ++ q) (joined ∙ ap (λ (x : Dirent). dirent_bytes x ++ (spells fs ++ q)) (sym first)) in
    let rest = one_split es fs r q (λ k d within. fe (suc k) d (omega (arith, within))) (λ k d within. ff (suc k) d (omega (arith, within))) cr cq others in
    (cc, rest.1)

pub entries_once : EntriesAreReadOnce
entries_once bytes rest rest' entries entries' h k = one_split entries entries' rest rest' h.fit k.fit h.cut k.cut (sym h.split ∙ k.split)

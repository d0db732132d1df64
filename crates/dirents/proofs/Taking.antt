-- One more entry is taken.
use Rattle.std.proofs.Common.{◌≡◌, ℕ, zero, suc, Bool, true, false, cond, not, ◌&&◌, nat_eq, nat_lt, nat_le, append_assoc, ◌+◌, ◌-◌, ◌≤◌, List, [], ◌∷◌, ◌++◌, length, Some, refl, ap, sym, ◌∙◌, length-append, arith}
use Rattle.std.proofs.lemmas.Bool.Decides.{nat_tests}
use Rattle.std.proofs.lemmas.List.{append-nil, flat_map_more}
use Rattle.std.specs.Borrow.{Bor}
use Rattle.std.specs.List.{flat_map}
use Rattle.fidl_names.specs.declared.limits.TheConstants as limit
use Rattle.fidl_wire.specs.Written.{Written}
use Rattle.dirents.specs.declared.packing.Packed as code
use Rattle.dirents.specs.declared.packing.Tally.{Tally}
use Rattle.dirents.specs.declared.place.Place.{Place}
use Rattle.dirents.specs.Listings.{Dirent, behind_name, dirent_bytes, dirent_size, fitting, place_after}
use Rattle.dirents.specs.Packing.{TellsOf, fitting_bytes}
use Rattle.dirents.specs.Steps.{HasTaken, PacksOn, TakesOn}
use Rattle.dirents.proofs.Lengths.{length-more, behind-more}

pub taken_more : (es : List Dirent) (room : ℕ) (old : Tally) (e : Dirent) (name : Bor (List ℕ)) (size : ℕ) → HasTaken es room old → name.now ≡ e.name → size ≡ dirent_size e → size ≤ old.free
    → 1 ≤ length e.name → length e.name ≤ limit.MAX_NAME
    → HasTaken (es ++ e ∷ []) room (record { count = old.count + 1; bytes = old.bytes + size; free = old.free - size; last = Some name })
taken_more es room old e name size taken same is fits some few = record {
  count = omega (arith, taken.count, length-append es (e ∷ []));
  bytes = omega (arith, taken.bytes, is, length-more es e);
  free = omega (arith, taken.free, fits);
  last = λ place. behind-more es place e ∙ ap behind_name (sym same);
  named = (omega (arith, ap length same, some), omega (arith, ap length same, few));
  small = omega (arith, taken.small, is, few);
}

-- where the first entry that is left fits, what fits of the rest begins with it
fitting_first : (e : Dirent) (rest : List Dirent) (free free' : ℕ) → nat_le (dirent_size e) free ≡ true → free' ≡ free - dirent_size e → fitting (e ∷ rest) free ≡ e ∷ fitting rest free'
fitting_first e rest free free' fits less =
    ap (λ (b : Bool). cond b (e ∷ fitting rest (free - dirent_size e)) []) fits ∙ ap (λ (left : ℕ). e ∷ fitting rest left) (sym less)

-- the bytes that are free behind one more entry
free_behind : (es : List Dirent) (room : ℕ) (e : Dirent) (old new : Tally) → HasTaken es room old → HasTaken (es ++ e ∷ []) room new → new.free ≡ old.free - dirent_size e
free_behind es room e old new was is = omega (arith, was.bytes, was.free, is.bytes, is.free, length-more es e)

pub takes_on : (listed : List Dirent) (room : ℕ) (e : Dirent) (rest : List Dirent) (old new : Tally) → TakesOn listed room (e ∷ rest) old → nat_le (dirent_size e) old.free ≡ true
    → ((es : List Dirent) → HasTaken es room old → HasTaken (es ++ e ∷ []) room new) → TakesOn listed room rest new
takes_on listed room e rest old new was fits takes =
    let taken = takes was.entries was.taken in
    record {
      entries = was.entries ++ e ∷ [];
      taken = taken;
      split = was.split ∙ sym (append_assoc was.entries (e ∷ []) rest);
      fits =
          was.fits ∙ ap (λ (es : List Dirent). was.entries ++ es) (fitting_first e rest old.free new.free fits (free_behind was.entries room e old new was.taken taken))
          ∙ sym (append_assoc was.entries (e ∷ []) (fitting rest new.free));
    }

pub packs_on : (listed : List Dirent) (room : ℕ) (e : Dirent) (rest : List Dirent) (old new : Tally) (first before behind : Written) → PacksOn listed room (e ∷ rest) old first before
    → nat_le (dirent_size e) old.free ≡ true → ((es : List Dirent) → HasTaken es room old → HasTaken (es ++ e ∷ []) room new)
    → behind.bytes ≡ before.bytes ++ dirent_bytes e → behind.handles ≡ before.handles → PacksOn listed room rest new first behind
packs_on listed room e rest old new first before behind was fits takes put same =
    let taken = takes was.steps.entries was.steps.taken in
    record {
      steps = record {
        entries = was.steps.entries ++ e ∷ [];
        taken = taken;
        split = was.steps.split ∙ sym (append_assoc was.steps.entries (e ∷ []) rest);
        fits =
            was.steps.fits ∙ ap (λ (es : List Dirent). was.steps.entries ++ es) (fitting_first e rest old.free new.free fits (free_behind was.steps.entries room e old new was.steps.taken taken))
            ∙ sym (append_assoc was.steps.entries (e ∷ []) (fitting rest new.free));
      };
      bytes = put ∙ ap (λ (bs : List ℕ). bs ++ dirent_bytes e) was.bytes ∙ flat_map_more dirent_bytes first.bytes was.steps.entries e;
      handles = same ∙ was.handles;
    }

-- nothing is taken at first
pub packs_none : (listed : List Dirent) (room : ℕ) (tally : Tally) (first : Written) → HasTaken [] room tally → PacksOn listed room listed tally first first
packs_none listed room tally first taken =
    let free : tally.free ≡ room = omega (arith, taken.bytes, taken.free) in
    record {
      steps = record { entries = []; taken = taken; split = refl; fits = ap (fitting listed) (sym free) };
      bytes = sym (append-nil first.bytes);
      handles = refl;
    }

-- there is room for an entry that fits
pub room_left : (listed : List Dirent) (room : ℕ) (rest : List Dirent) (tally : Tally) (first now : Written) (size : ℕ) → PacksOn listed room rest tally first now
    → length first.bytes + room ≤ limit.MAX_BYTES → size ≤ tally.free → length now.bytes + size ≤ limit.MAX_BYTES
room_left listed room rest tally first now size was fits small =
    omega (arith, ap length was.bytes, length-append first.bytes (flat_map dirent_bytes was.steps.entries), was.steps.taken.bytes, was.steps.taken.free, fits, small)

-- ---- the end

-- an entry that doesn't fit
pub fitting_none : (e : Dirent) (rest : List Dirent) (free : ℕ) → nat_le (dirent_size e) free ≡ false → fitting (e ∷ rest) free ≡ []
fitting_none e rest free fits = ap (λ (b : Bool). cond b (e ∷ fitting rest (free - dirent_size e)) []) fits

more_left : (n m : ℕ) → nat_lt 0 m ≡ nat_lt n (n + m)
more_left n m = grind (arith, nat_tests)

none_taken : (n m : ℕ) → (not (nat_eq (n + m) 0) && nat_eq n 0) ≡ (nat_lt 0 m && nat_eq n 0)
none_taken zero zero = refl
none_taken zero (suc m) = grind (arith, nat_tests)
none_taken (suc n) m = grind (arith, nat_tests)

pub some_left : (m : ℕ) → true ≡ nat_lt 0 (suc m)
some_left m = grind (arith, nat_tests)

-- what is told where nothing fits of what is left
pub told : (listed : List Dirent) (place : Place) (room : ℕ) (rest : List Dirent) (tally : Tally) (found : code.Packed) → TakesOn listed room rest tally → fitting rest tally.free ≡ []
    → found.count ≡ tally.count → found.bytes ≡ tally.bytes → found.more ≡ nat_lt 0 (length rest) → ((es : List Dirent) → HasTaken es room tally → found.next ≡ place_after place es)
    → TellsOf listed place room found
told listed place room rest tally found was none count bytes more next =
    let all : fitting listed room ≡ was.entries = was.fits ∙ ap (λ (es : List Dirent). was.entries ++ es) none ∙ append-nil was.entries in
    let n = length was.entries in
    let m = length rest in
    let whole : length listed ≡ n + m = ap length was.split ∙ length-append was.entries rest in
    let counted : found.count ≡ n = count ∙ was.taken.count in
    record {
      count = counted ∙ ap length (sym all);
      bytes = bytes ∙ was.taken.bytes ∙ ap (λ (es : List Dirent). length (flat_map dirent_bytes es)) (sym all);
      more =
          more ∙ more_left n m ∙ ap (λ (k : ℕ). nat_lt n k) (sym whole) ∙ ap (λ (es : List Dirent). nat_lt (length es) (length listed)) (sym all);
      next = next was.entries was.taken ∙ ap (place_after place) (sym all);
      stuck =
          ap (λ (k : ℕ). not (nat_eq k 0) && nat_eq (length (fitting listed room)) 0) whole
          ∙ ap (λ (es : List Dirent). not (nat_eq (n + m) 0) && nat_eq (length es) 0) all
          ∙ none_taken n m
          ∙ ap (λ (b : Bool). b && nat_eq n 0) (sym more)
          ∙ ap (λ (k : ℕ). found.more && nat_eq k 0) (sym counted);
    }

-- and the entries that fit stand in the output
pub appended : (listed : List Dirent) (room : ℕ) (rest : List Dirent) (tally : Tally) (first now : Written) → PacksOn listed room rest tally first now → fitting rest tally.free ≡ []
    → now.bytes ≡ first.bytes ++ fitting_bytes listed room
appended listed room rest tally first now was none =
    let all : fitting listed room ≡ was.steps.entries = was.steps.fits ∙ ap (λ (es : List Dirent). was.steps.entries ++ es) none ∙ append-nil was.steps.entries in
    was.bytes ∙ ap (λ (es : List Dirent). first.bytes ++ flat_map dirent_bytes es) (sym all)

pub length_now : (listed : List Dirent) (room : ℕ) (rest : List Dirent) (tally : Tally) (first now : Written) → PacksOn listed room rest tally first now
    → length now.bytes ≡ length first.bytes + tally.bytes
length_now listed room rest tally first now was =
    omega (arith, ap length was.bytes, length-append first.bytes (flat_map dirent_bytes was.steps.entries), was.steps.taken.bytes)

pub le_of : (a b : ℕ) → true ≡ nat_le a b → a ≤ b
le_of a b h = grind (arith, nat_tests)

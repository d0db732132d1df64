-- A handle has the number that it was made from.
use Rattle.std.proofs.Common.{◌≡◌, ◌≤◌, ◌<◌, ◌+◌, ◌++◌, ℕ, Bool, true, false, List, [], ◌∷◌, map, take, length, nat_le, refl, sym, ap, ◌∙◌}
use Rattle.std.proofs.lemmas.List.{map-append, take_all, take_more}
use Rattle.std.specs.Prelude.{if◌then◌else◌, slice_index}
use Rattle.fidl_names.specs.declared.methods.Handle.{Handle}
use Rattle.fidl_names.specs.declared.methods.Handle.TheVariants.{Endpoint, Token}
use Rattle.fidl_names.specs.HandleNumber.{number_of_handle}
use Rattle.fidl_names.specs.HandleNumber.{handle_with}
use Rattle.vfs_journal.specs.Handles.{AreByNumber, numbers_of}

either_number : (b : Bool) (n : ℕ) → number_of_handle (if b then Token n else Endpoint n) ≡ n
either_number true n = refl
either_number false n = refl

number_back : (n : ℕ) → number_of_handle (handle_with n) ≡ n
number_back n = either_number (nat_le 0x80000000 n) n

pub numbers_back : (ns : List ℕ) → numbers_of (map handle_with ns) ≡ ns
numbers_back [] = refl
numbers_back (n ∷ ns) = rw (number_back n, numbers_back ns) refl

pub are_by_number : (handles : List Handle) (ns : List ℕ) → handles ≡ map handle_with ns → AreByNumber handles
are_by_number handles ns e = rw e (ap (map handle_with) (numbers_back ns))

-- all of the numbers were taken
pub taken_all : (handles : List Handle) (ns : List ℕ) (place : ℕ) → length ns ≤ place → handles ≡ map handle_with (take place ns) → handles ≡ map handle_with ns
taken_all handles ns place over is = is ∙ ap (map handle_with) (take_all place ns over)

-- one more of the numbers was taken
pub taken_more : (handles new : List Handle) (handle : Handle) (ns : List ℕ) (place number : ℕ) → place < length ns → handles ≡ map handle_with (take place ns) → new ≡ handles ++ handle ∷ [] → handle ≡ handle_with number → number ≡ slice_index ns place
    → new ≡ map handle_with (take (place + 1) ns)
taken_more handles new handle ns place number low is now made at =
    now
    ∙ ap (λ (hs : List Handle). hs ++ handle ∷ []) is
    ∙ ap (λ (h : Handle). map handle_with (take place ns) ++ h ∷ []) (made ∙ ap handle_with at)
    ∙ sym (map-append handle_with (take place ns) (slice_index ns place ∷ []))
    ∙ ap (map handle_with) (sym (take_more ns place 0 low))

-- The numbers of the rows.
use Rattle.std.proofs.Common.{◌≡◌, ◌≢◌, [], ◌∷◌, refl, ap, inl, inr, ℕ, ◌%◌, ◌^◌, ◌<◌, List, get_or, length, sym, ◌∙◌, arith}
use Rattle.std.proofs.lemmas.Bool.{cases_lt}
use Rattle.fidl_names.specs.declared.methods.Method.{Method}
use Rattle.fidl_names.specs.declared.methods.Method.TheVariants as method
use Rattle.fidl_wire.specs.Names.{row_of, row_count, event_row, ordinal_at, method_ordinal, event_ordinal, AreDistinct, IsFirstCollision}
use Rattle.fidl_wire.specs.Collisions.{IsEarlier, IsFirstEqual}

-- a rest by 2^63 is a number of eight bytes, and so is each ordinal
pub small_rest : (n : ℕ) → n % 2 ^ 63 < 256 ^ 8
small_rest n = omega arith

pub small_ordinal : (m : Method) → method_ordinal m < 256 ^ 8
small_ordinal m = small_rest _

-- each method has a row, which isn't the event's
pub row_of-lt : (m : Method) → row_of m < row_count
row_of-lt method.Clone = omega arith
row_of-lt _ = omega arith

pub row_of-no_event : (m : Method) → row_of m ≢ event_row
row_of-no_event method.Clone = λ e. omega arith
row_of-no_event _ = λ e. omega arith

-- what is found in a row is the ordinal of the row's name
pub found_row : (numbers : List ℕ) (number row : ℕ) → ((k : ℕ) → k < row_count → get_or numbers k 0 ≡ ordinal_at k) → length numbers ≡ row_count →
    IsEarlier numbers number row → (row < row_count) × (ordinal_at row ≡ number)
found_row numbers number row named size found =
    let below : row < row_count = omega (arith, size, found.within) in (below, sym (named row below) ∙ found.equal)

-- what is in no place is in no row
pub no_row : (numbers : List ℕ) (number : ℕ) → ((k : ℕ) → k < row_count → get_or numbers k 0 ≡ ordinal_at k) → length numbers ≡ row_count →
    ((k : ℕ) → k < length numbers → get_or numbers k 0 ≢ number) → (row : ℕ) → row < row_count → ordinal_at row ≢ number
no_row numbers number named size none row below e = none row (omega arith) (named row below ∙ e)

-- the first two places of equal ordinals are the first collision
pub first_collision : (numbers : List ℕ) (i j : ℕ) → length numbers ≡ row_count → ((k : ℕ) → k < row_count → get_or numbers k 0 ≡ ordinal_at k) → IsFirstEqual numbers i j → IsFirstCollision i j
first_collision numbers i j size named found =
    let order : i < j = found.order in
    let row : j < row_count = omega (arith, size, found.within) in
    record {
      order = order;
      row = row;
      equal = sym (named i (omega arith)) ∙ found.equal ∙ named j row;
      second = λ a b less below e. found.second a b less below (named a (omega arith) ∙ e ∙ sym (named b (omega arith)));
      first = λ a less e. found.first a less (named a (omega arith) ∙ e ∙ sym (named j row));
    }

-- the methods in the order of their rows
abbrev methods : List Method
methods =
    method.Clone ∷ method.Close ∷ method.Query ∷ method.GetAttributes ∷ method.Sync ∷ method.OpenPath ∷ method.ReadDirents ∷ method.Rewind ∷ method.GetToken ∷ method.Rename ∷ method.Link ∷ method.Unlink ∷ method.Watch ∷ method.Read ∷ method.ReadAt ∷ method.Write ∷ method.WriteAt ∷ method.Seek ∷ method.Resize ∷ method.EchoString ∷ []

method_in : (m : Method) → get_or methods (row_of m) method.Clone ≡ m
method_in method.Clone = refl
method_in method.Close = refl
method_in method.Query = refl
method_in method.GetAttributes = refl
method_in method.Sync = refl
method_in method.OpenPath = refl
method_in method.ReadDirents = refl
method_in method.Rewind = refl
method_in method.GetToken = refl
method_in method.Rename = refl
method_in method.Link = refl
method_in method.Unlink = refl
method_in method.Watch = refl
method_in method.Read = refl
method_in method.ReadAt = refl
method_in method.Write = refl
method_in method.WriteAt = refl
method_in method.Seek = refl
method_in method.Resize = refl
method_in method.EchoString = refl

-- a row is one method's
row_of-injective : (m n : Method) → row_of m ≡ row_of n → m ≡ n
row_of-injective m n e = sym (method_in m) ∙ ap (λ (row : ℕ). get_or methods row method.Clone) e ∙ method_in n

-- where ordinals are distinct, a row is known by its ordinal
pub row_once : AreDistinct → (i j : ℕ) → i < row_count → j < row_count → ordinal_at i ≡ ordinal_at j → i ≡ j
row_once apart i j first second e =
    elim (cases_lt i j) [
      | inl below ↦ absurd (apart i j below second e)
      | inr above ↦ elim (cases_lt j i) [
        | inl below ↦ absurd (apart j i below first (sym e))
        | inr equal ↦ omega arith
      ]
    ]

-- methods with equal ordinals are one
pub method_ordinal-injective : AreDistinct → (m n : Method) → method_ordinal m ≡ method_ordinal n → m ≡ n
method_ordinal-injective apart m n e = row_of-injective m n (row_once apart (row_of m) (row_of n) (row_of-lt m) (row_of-lt n) e)

-- no method has the event's ordinal
pub event_apart : AreDistinct → (m : Method) → method_ordinal m ≢ event_ordinal
event_apart apart m e = row_of-no_event m (row_once apart (row_of m) event_row (row_of-lt m) (omega arith) e)

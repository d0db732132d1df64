-- Short names as numbers, and the index of a server's names by them.
use Rattle.std.specs.Prelude.{◌≡◌, ℕ, ◌≤◌, ◌==◌, ◌&&◌, Bool, false, if◌then◌else◌, ◌⊎◌, List, Option, Some, None, length}
use Rattle.std.specs.FinMap as finite
use Rattle.std.specs.Int.Digits.{AllBelowBase, number_from_digits_after}
use Rattle.std.specs.Map.{lookup}
use Rattle.node_graph.specs.declared.nodes.Entry.{Entry}
use Rattle.node_graph.specs.declared.short.ShortName.{ShortName}
use Rattle.node_graph.specs.declared.short.TheConstants as limit
use Rattle.node_graph.specs.Ends.{Ends, name_in}

-- the bytes of a name behind a one, as the digits of a number
abbrev pub packed : List ℕ → ℕ
packed name = number_from_digits_after 256 1 name

abbrev pub key_of : ℕ → List ℕ → ShortName
key_of directory name = record { directory = directory; packed = packed name }

abbrev pub is_same_key : ShortName → ShortName → Bool
is_same_key a b = (a.directory == b.directory) && (a.packed == b.packed)

-- a name of bytes that is short
pub record IsShort (name : List ℕ) : Type 0 where
  pub few : length name ≤ limit.SHORT
  pub bytes : AllBelowBase 256 name

-- the key of a short name in a directory
pub record IsKeyOf (key : ShortName) (directory : ℕ) (name : List ℕ) : Type 0 where
  pub short : IsShort name
  pub is : key ≡ key_of directory name

-- from each key the same is found
abbrev pub FindsAlike : List (ShortName × Entry) → List (ShortName × Entry) → Type 0
FindsAlike old new = (key : ShortName) → lookup (is_same_key key) new ≡ lookup (is_same_key key) old

-- from one key this is found now, and from each other what was
abbrev pub FindsNow : ShortName → Option Entry → List (ShortName × Entry) → List (ShortName × Entry) → Type 0
FindsNow key found old new = (other : ShortName) → lookup (is_same_key other) new ≡ (if is_same_key key other then found else lookup (is_same_key other) old)

-- what is put is found from its key, or left out where nothing was; then the index isn't whole
abbrev pub IsPut : ShortName → Entry → List (ShortName × Entry) → List (ShortName × Entry) → Bool → Bool → Type 0
IsPut key to old new was is = (FindsNow key (Some to) old new × (is ≡ was)) ⊎ ((lookup (is_same_key key) old ≡ None) × (new ≡ old) × (is ≡ false))

-- the index leads from a short name where the names do; one that isn't whole may lack it
abbrev pub LeadsAs : List (ShortName × Entry) → Bool → ShortName → Option Entry → Type 0
LeadsAs index whole key to = (lookup (is_same_key key) index ≡ to) ⊎ ((lookup (is_same_key key) index ≡ None) × (whole ≡ false))

pub record IsIndex (index : List (ShortName × Entry)) (whole : Bool) (names : Ends) : Type 0 where
  pub leads : (directory : ℕ) (name : List ℕ) → IsShort name → LeadsAs index whole (key_of directory name) (finite.get names (name_in directory name))

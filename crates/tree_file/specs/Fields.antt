-- What stands at a key of a table, and which keys it has.
use Rattle.std.specs.Prelude.{ℕ, Bool, false, List, [], ◌∷◌, Option, is_some}
use Rattle.std.specs.List.{list_any, list_all}
use Rattle.std.specs.Option.{option_and_then, option_map_or}
use Rattle.std.specs.Str.{bytes_eq}
use Rattle.toml.specs.Data.{Data, Items, no_items, item, Members, no_members, member, get, as_str, as_table}

-- the second step, with what the first gave
infixl 10 ◌>>=◌
abbrev pub ◌>>=◌ : {A B : Type 0} → Option A → (A → Option B) → Option B
found >>= step = option_and_then step found

-- the keys of some members, and the items of an array
abbrev pub keys_of : Members → List (List ℕ)
keys_of no_members = []
keys_of (member key value rest) = key ∷ keys_of rest

abbrev pub list_of : Items → List Data
list_of no_items = []
list_of (item value rest) = value ∷ list_of rest

-- whether the text is one of these
abbrev pub is_among : List (List ℕ) → List ℕ → Bool
is_among known text = list_any (λ one. bytes_eq one text) known

-- a table with no other keys than these
unfoldable pub has_only : List (List ℕ) → Data → Bool
has_only known value = option_map_or (λ members. list_all (is_among known) (keys_of members)) (as_table value) false

abbrev pub is_table : Data → Bool
is_table value = is_some (as_table value)

-- the string at a key of a table
unfoldable pub text_at : List ℕ → Data → Option (List ℕ)
text_at key value = get key value >>= as_str

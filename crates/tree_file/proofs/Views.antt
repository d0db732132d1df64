-- Lists of keys and of items, as the code and the definitions see them.
use Rattle.std.proofs.Common.{◌≡◌, ℕ, Bool, true, false, Option, Some, None, ◌&&◌, ◌||◌, List, [], ◌∷◌, map, String, Global, string_bytes, refl, ap}
use Rattle.std.specs.List.{list_any, list_all}
use Rattle.std.specs.Map.{keys_of}
use Rattle.toml.specs.Data.{Data, Members, table, as_array}
use Rattle.toml.specs.Parse.{parse_document}
use Rattle.toml.specs.View.{view, members_view, items_view}
use Rattle.toml.specs.declared.value.Value.{Value}
use Rattle.std.specs.Str.{is_utf8, IsUtf8}
use Rattle.std.proofs.lemmas.Str.{is_utf8-from_IsUtf8, IsUtf8-from_is_utf8}
use Rattle.tree_file.specs.Fields as fields
use Rattle.tree_file.specs.Rules.{are_tables, items_from, document_of, first_failure}

pub any_map : {X Y : Type 0} (f : X → Y) (p : Y → Bool) (xs : List X) → list_any p (map f xs) ≡ list_any (λ x. p (f x)) xs
any_map f p [] = refl
any_map f p (x ∷ xs) = ap (λ b. p (f x) || b) (any_map f p xs)

pub all_keys : (p q : List ℕ → Bool) (same : (key : List ℕ) → p key ≡ q key) (es : List (String Global × Value)) → list_all (λ key. p (string_bytes key)) (keys_of es) ≡ list_all q (fields.keys_of (members_view es))
all_keys p q same [] = refl
all_keys p q same (e ∷ es) = rw (same (string_bytes e.0), all_keys p q same es)

pub list_of_view : (vs : List Value) → fields.list_of (items_view vs) ≡ map view vs
list_of_view [] = refl
list_of_view (v ∷ vs) = ap (λ more. view v ∷ more) (list_of_view vs)

all_map : {X Y : Type 0} (f : X → Y) (p : Y → Bool) (xs : List X) → list_all (λ x. p (f x)) xs ≡ list_all p (map f xs)
all_map f p [] = refl
all_map f p (x ∷ xs) = ap (λ b. p (f x) && b) (all_map f p xs)

-- what stands at a key, where it is an array
pub tables-found : (found : Option Data) (value : Data) (vs : List Value) → Some value ≡ found → Some (items_view vs) ≡ as_array value → list_all (λ v. fields.is_table (view v)) vs ≡ are_tables found
tables-found found value vs f a = rw (← f, ← a, list_of_view vs) (all_map view fields.is_table vs)

pub items-found : (found : Option Data) (value : Data) (vs : List Value) → Some value ≡ found → Some (items_view vs) ≡ as_array value → map view vs ≡ items_from found
items-found found value vs f a = rw (← f, ← a, list_of_view vs)

-- the document of a text
pub document-read : (text : List ℕ) (ms : Members) → IsUtf8 text → parse_document text ≡ Some ms → document_of text ≡ Some (table ms)
document-read text ms utf8 parsed = let so : is_utf8 text ≡ true = is_utf8-from_IsUtf8 text utf8 in rw (so, parsed)

by_utf8 : (text : List ℕ) (b : Bool) → is_utf8 text ≡ b → (IsUtf8 text → parse_document text ≡ None) → first_failure text ≡ Some (1, 0)
unfolding first_failure
by_utf8 text true is refused = rw (is, refused (IsUtf8-from_is_utf8 text is))
by_utf8 text false is refused = rw is

pub document-refused : (text : List ℕ) → (IsUtf8 text → parse_document text ≡ None) → first_failure text ≡ Some (1, 0)
document-refused text refused = by_utf8 text (is_utf8 text) refl refused

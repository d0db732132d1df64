-- Which entry of a table a clean path belongs to. A table is the function from clean prefixes to their endpoints.
use Rattle.std.specs.Prelude.{◌≡◌, ◌<◌, ℕ, List, [], ◌∷◌, ◌++◌, length, Option, Some, None}
use Rattle.std.specs.Option.{option_or, option_map}
use Rattle.path_walk.specs.Paths.{text_of}

abbrev pub Table : Type 0
Table = List (List ℕ) → Option ℕ

-- one table has this entry more than another
pub record IsWith (before : Table) (prefix : List (List ℕ)) (endpoint : ℕ) (after : Table) : Type 0 where
  pub has : after prefix ≡ Some endpoint
  pub others : (other : List (List ℕ)) → (other ≡ prefix → ⊥) → after other ≡ before other

-- two tables have the same entries
abbrev pub Same : Table → Table → Type 0
Same before after = (prefix : List (List ℕ)) → after prefix ≡ before prefix

-- the entry of the longest prefix of a path that has one, and the steps behind that prefix: one that goes on over the first step, else that of
-- no step
abbrev pub reached : Table → List (List ℕ) → Option (ℕ × List (List ℕ))
reached table [] = option_map (λ endpoint. (endpoint, [])) (table [])
reached table (step ∷ steps) =
    option_or (reached (λ prefix. table (step ∷ prefix)) steps) (option_map (λ endpoint. (endpoint, step ∷ steps)) (table []))

-- where a path leads: over which endpoint, and by which text from there
abbrev pub resolved : Table → List (List ℕ) → Option (ℕ × List ℕ)
resolved table path = option_map (λ found. (found.0, text_of found.1)) (reached table path)

-- the same as a relation: the prefix has this entry, and no longer one has any
pub record IsLongest (table : Table) (path : List (List ℕ)) (endpoint : ℕ) (rest : List (List ℕ)) : Type 0 where
  pub prefix : List (List ℕ)
  pub parts : path ≡ prefix ++ rest
  pub has : table prefix ≡ Some endpoint
  pub longest : (longer behind : List (List ℕ)) → path ≡ longer ++ behind → length prefix < length longer → table longer ≡ None

-- How a table is kept: as a tree, whose nodes are numbered from 0, the root. By a node's number and a step the next node is found.
use Rattle.std.specs.Prelude.{◌≡◌, ◌<◌, ℕ, List, [], ◌∷◌, ◌++◌, length, slice_get, Option, Some, None, refl}
use Rattle.std.specs.Coded.{Coded, code_by, coded×, coded_ℕ, coded_list, coded_option}
use Rattle.std.specs.Cmp.Lexicographic.{slice_cmp}
use Rattle.std.specs.FinMap as finite
use Rattle.std.specs.Ordering.{nat_cmp, ordering_then}
use Rattle.std.specs.declared.cmp.Ordering.{Ordering}
use Rattle.io_namespace.specs.Entries.{Table}

abbrev pub EdgeKey : Type 0
EdgeKey = ℕ × List ℕ

abbrev pub edge_cmp : EdgeKey → EdgeKey → Ordering
edge_cmp a b = ordering_then (nat_cmp a.0 b.0) (slice_cmp nat_cmp a.1 b.1)

abbrev pub EdgeMap : Type 0
EdgeMap = finite.FinMap edge_cmp ℕ

abbrev pub edges_code : Coded EdgeMap
edges_code = finite.code (coded× coded_ℕ (coded_list coded_ℕ)) coded_ℕ

-- the edges of the tree, and the endpoint of each node, if an entry ends there
pub record Kept : Type 0 where
  pub edges : EdgeMap
  pub ends : List (Option ℕ)

abbrev pub kept_code : Coded Kept
kept_code =
    code_by (EdgeMap × List (Option ℕ)) (coded× edges_code (coded_list (coded_option coded_ℕ)))
    (λ k. (k.edges, k.ends)) (λ p. record { edges = p.0; ends = p.1 }) (λ _. refl)

-- the second step where the first one has a value
abbrev pub and_then : {A B : Type 0} → Option A → (A → Option B) → Option B
and_then None f = None
and_then (Some a) f = f a

-- the node to which steps lead from another, and the endpoint of a node
abbrev pub node_behind : EdgeMap → ℕ → List (List ℕ) → Option ℕ
node_behind edges node [] = Some node
node_behind edges node (step ∷ steps) = and_then (finite.get edges (node, step)) (λ next. node_behind edges next steps)

abbrev pub end_of : List (Option ℕ) → ℕ → Option ℕ
end_of ends node = and_then (slice_get ends node) (λ endpoint. endpoint)

-- the table that the tree below a node stands for
abbrev pub table_below : Kept → ℕ → Table
table_below kept node prefix = and_then (node_behind kept.edges node prefix) (end_of kept.ends)

-- the table that a tree stands for
abbrev pub table_of : Kept → Table
table_of kept = table_below kept 0

-- each edge leads from a node to a node, and one step on from where its node stands, so that no two paths lead to one node
pub record IsTree (edges : EdgeMap) (ends : List (Option ℕ)) : Type 0 where
  pub home : ℕ → List (List ℕ)
  pub root : home 0 ≡ []
  pub from : (node next : ℕ) (step : List ℕ) → finite.get edges (node, step) ≡ Some next → node < length ends
  pub to : (node next : ℕ) (step : List ℕ) → finite.get edges (node, step) ≡ Some next → next < length ends
  pub on : (node next : ℕ) (step : List ℕ) → finite.get edges (node, step) ≡ Some next → home next ≡ home node ++ step ∷ []

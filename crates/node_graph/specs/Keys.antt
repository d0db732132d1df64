-- How edges are ordered: keys that compare alike are one.
use Rattle.std.specs.Prelude.{◌≡◌, ℕ, ◌<◌, List, slice_index}
use Rattle.std.specs.Int.{w64, from_be_bytes}
use Rattle.std.specs.Cmp.{IsTotalOrder, nat_cmp_total}
use Rattle.std.specs.Cmp.Lexicographic.{nat_list_cmp_total}
use Rattle.std.proofs.lemmas.Cmp.{on_total, then_total}
use Rattle.node_graph.specs.Tree.{edge_cmp}

pub edges_total : IsTotalOrder edge_cmp
edges_total = then_total (on_total (λ k. k.directory) nat_cmp_total) (on_total (λ k. k.name) nat_list_cmp_total)

-- a number is the first eight bytes of a name, the first of them highest, with zeros behind a shorter name
pub record IsHead (head : ℕ) (name : List ℕ) : Type 0 where
  pub number : head ≡ from_be_bytes w64 name
  pub bytes : (place : ℕ) → place < 8 → slice_index name place < 256

-- How a slab of nodes and a map of names are seen as what a graph keeps.
use Rattle.std.specs.Prelude.{◌≡◌, ℕ, ◌^◌, ◌≤◌, ◌==◌, ◌||◌, Bool, true, false, nat_lt, List, map, Option, Some, None, ◌+◌, ◌-◌}
use Rattle.std.specs.Ordering.{nat_cmp}
use Rattle.std.specs.FinMap as finite
use Rattle.slab.specs.Slab.{Slab, get, entries_from, Updates, slab_len}
use Rattle.fidl_names.specs.declared.limits.TheConstants as limit
use Rattle.node_graph.specs.declared.nodes.NodeKind.TheVariants.{Directory}
use Rattle.node_graph.specs.declared.nodes.Entry.{Entry}
use Rattle.node_graph.specs.Cell.{Cell}
use Rattle.node_graph.specs.Tree.{Below, EdgeKey, link_count, has_one_name}
use Rattle.node_graph.specs.Graph.{Seat, Kept}
use Rattle.node_graph.specs.Ends.{Ends, edges_of}

-- the seat of the cell at this place
abbrev pub seat_from : ℕ → Cell → Seat
seat_from place cell = record { node = record { place = place; number = cell.number }; kind = cell.kind; bytes = cell.bytes; holds = cell.holds }

abbrev pub seat_entry : ℕ × Cell → ℕ × Seat
seat_entry entry = (entry.1.number, seat_from entry.0 entry.1)

unfoldable pub seat_map : List (Option Cell) → finite.FinMap nat_cmp Seat
seat_map slots = finite.from_entries (map seat_entry (entries_from 0 slots))

abbrev pub kept_of : Slab Cell → Ends → ℕ → Kept
kept_of nodes ends made = record { seats = seat_map nodes.slots; edges = edges_of ends; made = made }

-- the root, or linked, or held
abbrev pub is_needed : Cell → Bool
is_needed cell = cell.number == 1 || (nat_lt 0 cell.links || nat_lt 0 cell.holds)

-- names can lead on from here: the root, or linked
abbrev pub is_reached : Cell → Bool
is_reached cell = cell.number == 1 || nat_lt 0 cell.links

-- a node with this number is at this place
abbrev pub Sits : Slab Cell → ℕ → ℕ → (Cell → Type 0) → Type 0
Sits nodes place number P = (cell : Cell) × (get nodes place ≡ Some cell) × (cell.number ≡ number) × P cell

-- what nodes and names always are, but that a node at one place may be needed no more
pub record AreAlmost (nodes : Slab Cell) (ends : Ends) (made : ℕ) (spare : ℕ → Type 0) : Type 0 where
  -- the root comes first, and no name leads to it
  pub root : Sits nodes 0 1 (λ cell. (cell.kind ≡ Directory) × (cell.links ≡ 0))
  pub numbers : (place : ℕ) (cell : Cell) → get nodes place ≡ Some cell → (1 ≤ cell.number) × (cell.number ≤ made)
  pub apart : (a b : ℕ) (x y : Cell) → get nodes a ≡ Some x → get nodes b ≡ Some y → x.number ≡ y.number → a ≡ b
  pub links : (place : ℕ) (cell : Cell) → get nodes place ≡ Some cell → cell.links ≡ link_count (edges_of ends) cell.number
  -- nothing is kept for nobody
  pub needed : (place : ℕ) (cell : Cell) → get nodes place ≡ Some cell → ¬ (spare place) → is_needed cell ≡ true
  pub children : (key : EdgeKey) (to : Entry) → finite.get ends key ≡ Some to → Sits nodes to.node.place to.node.number (λ cell. cell.kind ≡ to.kind)
  -- names stand in directories to which names lead
  pub parents : (key : EdgeKey) (to : Entry) → finite.get ends key ≡ Some to → (place : ℕ) × Sits nodes place key.directory (λ cell. (cell.kind ≡ Directory) × (is_reached cell ≡ true))
  -- at most one name leads to a directory or a mount, and a directory knows where it stands
  pub one_name : (place : ℕ) (cell : Cell) → get nodes place ≡ Some cell → has_one_name cell.kind ≡ true → cell.links ≤ 1
  pub ways_up : (key : EdgeKey) (to : Entry) (cell : Cell) → finite.get ends key ≡ Some to → to.kind ≡ Directory → get nodes to.node.place ≡ Some cell
      → (cell.parent.number ≡ key.directory) × Sits nodes cell.parent.place cell.parent.number (λ above. above.kind ≡ Directory)
  -- no directory is below itself
  pub no_loop : (number : ℕ) → ¬ (Below (edges_of ends) number number)
  pub few : finite.len ends ≤ limit.MAX_NAMES
  pub room : made ≤ 2 ^ 63

abbrev pub nowhere : ℕ → Type 0
nowhere place = ⊥

abbrev pub AreRows : Slab Cell → Ends → ℕ → Type 0
AreRows nodes ends made = AreAlmost nodes ends made nowhere

-- a node that isn't needed is taken out, and nothing else happens
pub data Forgets (old new : Slab Cell) (place : ℕ) : Type 0 where
  keeps : (cell : Cell) → get old place ≡ Some cell → is_needed cell ≡ true → new ≡ old → Forgets old new place
  drops : (cell : Cell) → get old place ≡ Some cell → is_needed cell ≡ false → Updates old new place None → slab_len new + 1 ≡ slab_len old → Forgets old new place

-- one name more leads to a node
pub record GainsName (old new : Slab Cell) (place : ℕ) : Type 0 where
  pub cell : Cell
  pub at : get old place ≡ Some cell
  pub updates : Updates old new place (Some (record cell { links = cell.links + 1 }))

-- one name less leads to a node, which is then taken out where it isn't needed
pub record LosesName (old new : Slab Cell) (place : ℕ) : Type 0 where
  pub cell : Cell
  pub at : get old place ≡ Some cell
  pub between : Slab Cell
  pub updates : Updates old between place (Some (record cell { links = cell.links - 1 }))
  pub forgets : Forgets between new place

-- What a graph keeps of a tree, the trees that it stands for, and what its calls answer.
use Rattle.std.specs.Prelude.{◌≡◌, ℕ, zero, suc, ◌+◌, ◌-◌, ◌==◌, Bool, true, ◌&&◌, ◌||◌, if◌then◌else◌, nat_lt, List, [], ◌∷◌, ◌++◌, length, map, filter, take, drop, replicate, Option, Some, None, Result, Err, IfErr, IsOk}
use Rattle.std.specs.Option.{option_map, option_map_or}
use Rattle.std.specs.Ordering.{nat_cmp, is_lt}
use Rattle.std.specs.Cmp.Lexicographic.{slice_cmp}
use Rattle.std.specs.FinMap as finite
use Rattle.node_graph.specs.declared.nodes.NodeKind.{NodeKind}
use Rattle.node_graph.specs.declared.nodes.NodeRef.{NodeRef}
use Rattle.node_graph.specs.declared.faults.GraphFault.{GraphFault}
use Rattle.node_graph.specs.declared.faults.GraphFault.TheVariants as fault
use Rattle.node_graph.specs.Tree.{EdgeTo, edge_cmp, Edges, Tree, Change, fill, stay, row_of, is_linked, after}
pub use Rattle.node_graph.specs.Refusals.{create_refusal, unlink_refusal, link_refusal, rename_refusal, resize_refusal, write_refusal, link_change, rename_change}

-- the number of the node that a reference names
abbrev pub number_of : NodeRef → ℕ
number_of node = node.number

-- what is kept of a node: the reference that names it, its row, and its holds
pub record Seat : Type 0 where
  pub node : NodeRef
  pub kind : NodeKind
  pub bytes : List ℕ
  pub holds : ℕ

-- the nodes that are kept by their numbers, the edges, and how many nodes were made
pub record Kept : Type 0 where
  pub seats : finite.FinMap nat_cmp Seat
  pub edges : finite.FinMap edge_cmp EdgeTo
  pub made : ℕ

abbrev pub seat_of : Kept → ℕ → Option Seat
seat_of graph number = finite.get graph.seats number

-- the reference names a node that is kept
abbrev pub Names : Kept → NodeRef → Type 0
Names graph node = option_map (λ seat. seat.node) (seat_of graph (number_of node)) ≡ Some node

-- what is kept of a node; no bytes and no holds where it isn't kept
abbrev pub kind_at : Kept → ℕ → Option NodeKind
kind_at graph number = option_map (λ seat. seat.kind) (seat_of graph number)

abbrev pub bytes_at : Kept → ℕ → List ℕ
bytes_at graph number = option_map_or (λ seat. seat.bytes) (seat_of graph number) []

abbrev pub holds_at : Kept → ℕ → ℕ
holds_at graph number = option_map_or (λ seat. seat.holds) (seat_of graph number) 0

-- a node that has to be kept: the root, or linked, or held
abbrev pub is_kept : Kept → ℕ → Bool
is_kept graph number = number == 1 || (is_linked graph.edges number || nat_lt 0 (holds_at graph number))

-- the graph stands for this tree: it has the same edges, and what it keeps of a node is the node's row
pub record StandsFor (graph : Kept) (tree : Tree) : Type 0 where
  pub made : graph.made ≡ length tree.nodes
  pub edges : graph.edges ≡ tree.edges
  pub rows : (number : ℕ) (seat : Seat) → seat_of graph number ≡ Some seat → row_of tree.nodes number ≡ Some (record { kind = seat.kind; bytes = seat.bytes })

-- whatever tree the old graph stands for, the new one stands for that tree after the change
abbrev pub Leads : Kept → Kept → Change → Type 0
Leads old new change = (tree : Tree) → StandsFor old tree → StandsFor new (after tree change)

-- the same of a change that depends on the tree
abbrev pub LeadsBy : Kept → Kept → (Tree → Change) → Type 0
LeadsBy old new change = (tree : Tree) → StandsFor old tree → StandsFor new (after tree (change tree))

abbrev pub SameHolds : Kept → Kept → Type 0
SameHolds old new = (number : ℕ) → holds_at new number ≡ holds_at old number

-- this node has that many holds now, and each other as many as before
abbrev pub HoldsNow : Kept → Kept → ℕ → ℕ → Type 0
HoldsNow old new changed holds = (number : ℕ) → holds_at new number ≡ (if number == changed then holds else holds_at old number)

-- a reference to a node that has to be kept names it still, and it is of the same kind
abbrev pub KeepsNames : Kept → Kept → Type 0
KeepsNames old new = (node : NodeRef) → Names old node → is_kept new (number_of node) ≡ true → Names new node × (kind_at new (number_of node) ≡ kind_at old (number_of node))

-- the refusal is the answer; without one only memory can be wanting
abbrev pub Answers : {T : Type 0} → Result T GraphFault → Option GraphFault → Type 0
Answers result None = IfErr result (λ found. found ≡ fault.NoMemory)
Answers result (Some refusal) = result ≡ Err refusal

-- the refusal is the answer; without one the call is done, since it takes no memory
abbrev pub Settles : {T : Type 0} → Result T GraphFault → Option GraphFault → Type 0
Settles result None = IsOk result
Settles result (Some refusal) = result ≡ Err refusal

-- the bytes cut at a length, or filled up to it with zeros
abbrev pub resized : List ℕ → ℕ → List ℕ
resized bytes size = take size bytes ++ replicate (size - length bytes) 0

-- the bytes with others written over them from an offset on; a gap before it is filled with zeros
abbrev pub overwritten : List ℕ → ℕ → List ℕ → List ℕ
overwritten old offset bytes = resized old offset ++ bytes ++ drop (offset + length bytes) old

-- what a write does to the tree: nothing where there is no byte to write
abbrev pub write_change : ℕ → List ℕ → ℕ → List ℕ → Change
write_change number old offset [] = stay
write_change number old offset (byte ∷ bytes) = fill number (overwritten old offset (byte ∷ bytes))

-- the numbers of the first nodes
abbrev pub numbers_to : ℕ → List ℕ
numbers_to zero = []
numbers_to (suc count) = numbers_to count ++ (count + 1) ∷ []

-- what a listing shows of a name
pub record Listed : Type 0 where
  pub name : List ℕ
  pub number : ℕ
  pub kind : NodeKind

-- whether a name comes after a place in a listing; each name comes after its start
abbrev pub comes_after : Option (List ℕ) → List ℕ → Bool
comes_after None name = true
comes_after (Some place) name = is_lt (slice_cmp nat_cmp place name)

-- the names of a directory after a place, in the order of their bytes, with the numbers that they lead to
abbrev pub listed_after : Edges → ℕ → Option (List ℕ) → List (List ℕ × ℕ)
listed_after edges directory place =
    map (λ entry. (entry.0.name, entry.1.child)) (filter (λ entry. (entry.0.directory == directory) && comes_after place entry.0.name) (finite.entries edges))

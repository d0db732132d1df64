-- What a graph shows of a directory is its listing in each tree that the graph stands for.
use Rattle.std.proofs.Common.{◌≡◌, ℕ, zero, suc, ◌≤◌, List, [], ◌∷◌, ◌++◌, length, map, Option, Some, None, refl, sym, ap, ◌∙◌, arith, lit<}
use Rattle.std.specs.Prelude.{All, unwrap_or, option_to_list}
use Rattle.std.specs.Option.{option_map}
use Rattle.fidl_names.specs.declared.limits.TheConstants as limit
use Rattle.node_graph.specs.declared.nodes.NodeKind.{NodeKind}
use Rattle.node_graph.specs.declared.nodes.NodeKind.TheVariants.{Directory}
use Rattle.node_graph.specs.Graph.{Kept, Listed, Seat, StandsFor, kind_at, listed_after, seat_of}
use Rattle.node_graph.specs.Tree.{Edges, NodeRow, Tree, kind_of}
use Rattle.dirents.specs.declared.place.Place.{Place}
use Rattle.dirents.specs.declared.place.Place.TheVariants.{Start, AfterDot, After}
use Rattle.dirents.specs.Listings.{Dirent, dot_entry, kind_here, listed_entry, listing, name_entries, type_of}
use Rattle.dirents.specs.Steps.{HasEntryName, dot_at, name_at}

-- a node that is kept is of the kind that its row says
pub kept_kind : (graph : Kept) (tree : Tree) → StandsFor graph tree → (number : ℕ) (kind : NodeKind) → kind_at graph number ≡ Some kind → kind_of tree number ≡ Some kind
kept_kind graph tree stands number kind is = by_seat (seat_of graph number) refl is
  where
    by_seat : (o : Option Seat) → seat_of graph number ≡ o → option_map (λ (seat : Seat). seat.kind) o ≡ Some kind → kind_of tree number ≡ Some kind
    by_seat None e is = absurd (cc)
    by_seat (Some seat) e is = ap (option_map (λ (row : NodeRow). row.kind)) (stands.rows number seat e) ∙ is

abbrev pair_of : Listed → List ℕ × ℕ
pair_of listed = (listed.name, listed.number)

abbrev pair_entry : Tree → List ℕ × ℕ → Dirent
pair_entry tree listed = record { ino = listed.1; type = type_of (kind_here tree listed.1); name = listed.0 }

-- names with their kinds are the entries of these names
entries_are : (tree : Tree) (names : List Listed) → All (λ (v : Listed). kind_of tree v.number ≡ Some v.kind) names → map listed_entry names ≡ map (pair_entry tree) (map pair_of names)
entries_are tree [] kinds = refl
entries_are tree (v ∷ vs) kinds =
    let here : kind_here tree v.number ≡ v.kind = ap (λ (o : Option NodeKind). unwrap_or o Directory) (kinds zero v (omega arith)) in
    let rest = entries_are tree vs (λ k d within. kinds (suc k) d (omega (arith, within))) in
    let first : listed_entry v ≡ pair_entry tree (pair_of v) = ap (λ (kind : NodeKind). record { ino = v.number; type = type_of kind; name = v.name }) (sym here) in
    ap (λ (e : Dirent). e ∷ map listed_entry vs) first ∙ ap (λ (es : List Dirent). pair_entry tree (pair_of v) ∷ es) rest

names_are : (graph : Kept) (tree : Tree) → StandsFor graph tree → (directory : ℕ) (after : Option (List ℕ)) (names : List Listed) → map pair_of names ≡ listed_after graph.edges directory after
    → All (λ (v : Listed). kind_at graph v.number ≡ Some v.kind) names → map listed_entry names ≡ name_entries tree directory after
names_are graph tree stands directory after names is kinds =
    entries_are tree names (λ k d within. kept_kind graph tree stands _ _ (kinds k d within))
    ∙ ap (map (pair_entry tree)) (is ∙ ap (λ (edges : Edges). listed_after edges directory after) stands.edges)

by_parts : (tree : Tree) (directory : ℕ) (place : Place) → option_to_list (option_map dot_entry (dot_at directory place)) ++ name_entries tree directory (name_at place) ≡ listing tree directory place
by_parts tree directory Start = refl
by_parts tree directory AfterDot = refl
by_parts tree directory (After name) = refl

pub listing_is : (graph : Kept) (tree : Tree) → StandsFor graph tree → (directory : ℕ) (place : Place) (names : List Listed) → map pair_of names ≡ listed_after graph.edges directory (name_at place)
    → All (λ (v : Listed). kind_at graph v.number ≡ Some v.kind) names → option_to_list (option_map dot_entry (dot_at directory place)) ++ map listed_entry names ≡ listing tree directory place
listing_is graph tree stands directory place names is kinds =
    ap (λ (es : List Dirent). option_to_list (option_map dot_entry (dot_at directory place)) ++ es) (names_are graph tree stands directory (name_at place) names is kinds)
    ∙ by_parts tree directory place

-- each name of a listing has 1 to 255 bytes
all_names : (names : List Listed) → All (λ (v : Listed). (1 ≤ length v.name) × (length v.name ≤ limit.MAX_NAME)) names → All HasEntryName (map listed_entry names)
all_names [] named k d within = absurd (omega (arith, within))
all_names (v ∷ vs) named zero d within = named zero v (omega arith)
all_names (v ∷ vs) named (suc k) d within = all_names vs (λ k d within. named (suc k) d (omega (arith, within))) k d (omega (arith, within))

all_behind_dot : (directory : ℕ) (names : List Listed) → All (λ (v : Listed). (1 ≤ length v.name) × (length v.name ≤ limit.MAX_NAME)) names → All HasEntryName (dot_entry directory ∷ map listed_entry names)
all_behind_dot directory names named zero d within = (lit< tt, lit< tt)
all_behind_dot directory names named (suc k) d within = all_names names named k d (omega (arith, within))

pub all_entries : (dot : Option ℕ) (names : List Listed) → All (λ (v : Listed). (1 ≤ length v.name) × (length v.name ≤ limit.MAX_NAME)) names
    → All HasEntryName (option_to_list (option_map dot_entry dot) ++ map listed_entry names)
all_entries None names named = all_names names named
all_entries (Some directory) names named = all_behind_dot directory names named

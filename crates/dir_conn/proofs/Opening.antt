-- How an Open is served, by where its walk leads.
use Rattle.std.proofs.Common.{◌≡◌, ℕ, List, Option, Some, None, refl, sym}
use Rattle.std.specs.FinMap as finite
use Rattle.fidl_names.specs.First.{first_of}
use Rattle.fidl_names.specs.declared.statuses.Status.{Status}
use Rattle.io_rights.specs.Operations.{OperationSet}
use Rattle.node_graph.specs.declared.nodes.NodeKind.{NodeKind}
use Rattle.node_graph.specs.Graph.{Kept, StandsFor, kind_at}
use Rattle.node_graph.specs.Tree.{Tree, name_in}
use Rattle.path_walk.specs.Paths.{names_of}
use Rattle.conn_rules.specs.declared.births.Room.{Room}
use Rattle.conn_rules.specs.Answers.{Act, only, refuses}
use Rattle.conn_rules.specs.Births.{Birth, Position}
use Rattle.conn_rules.specs.Contexts.{context_with}
use Rattle.conn_rules.specs.Opens.{act_at, arrival, arrival_refusals, entry_refusals, making, open_act}
use Rattle.conn_rules.specs.Walks.{walk, at_node, at_nothing, reach}
use Rattle.dir_conn.specs.declared.served.DirServed.{DirServed}
use Rattle.dir_conn.specs.declared.served.DirServed.TheVariants as served
use Rattle.dir_conn.specs.Opened.{IsOpened, Keeps, absent_refusals}
use Rattle.dir_conn.proofs.Binding.{kind_kept}
use Rattle.dir_conn.proofs.Making.{making_refused_as}

-- ---- what is served

pub kept : (graph : Kept) → Keeps graph graph
kept graph = record { holds = λ number. refl; names = λ node named keep. (named, refl) }

pub refused : (act : Tree → Position → Act) (status : Status) (graph : Kept) →
    ((tree : Tree) (position : Position) → StandsFor graph tree → act tree position ≡ only position (refuses status)) →
    IsOpened act (served.Refused status) graph graph
refused act status graph is =
    record {
      served = λ tree birth position txid out stands empty some.
          rw (is tree position stands)
          (record { answer = (refl, empty); told = refl; position = refl; change = λ tree stands. stands; bound = λ found changes e. absurd (cc) });
      keeps = kept graph;
      memory = λ tree position stands e. absurd (cc);
      untouched = λ e. refl;
    }

-- so of an act that is the same on each tree
pub opened_as : (act like : Tree → Position → Act) (result : DirServed) (before after : Kept) → IsOpened like result before after →
    ((tree : Tree) (position : Position) → StandsFor before tree → act tree position ≡ like tree position) → IsOpened act result before after
opened_as act like result before after opened is =
    record {
      served = λ tree birth position txid out stands empty some.
          rw (is tree position stands) (opened.served tree birth position txid out stands empty some);
      keeps = opened.keeps;
      memory = λ tree position stands e. rw (is tree position stands) (opened.memory tree position stands e);
      untouched = opened.untouched;
    }

-- ---- acts

-- a node that is there
pub arrived_refused : (graph : Kept) (tree : Tree) (room : Room) (position : Position) (word number : ℕ) (limit : OperationSet) (kind : NodeKind) (status : Status) →
    StandsFor graph tree → kind_at graph number ≡ Some kind → Some status ≡ first_of (arrival_refusals room word kind) →
    act_at position room tree word (at_node number limit) ≡ only position (refuses status)
arrived_refused graph tree room position word number limit kind status stands is some =
    rw (kind_kept graph tree number kind stands is, sym some) refl

pub arrived_bound : (graph : Kept) (tree : Tree) (room : Room) (position : Position) (word number : ℕ) (limit : OperationSet) (kind : NodeKind) →
    StandsFor graph tree → kind_at graph number ≡ Some kind → None ≡ first_of (arrival_refusals room word kind) →
    act_at position room tree word (at_node number limit) ≡ arrival position word limit number kind
arrived_bound graph tree room position word number limit kind stands is none =
    rw (kind_kept graph tree number kind stands is, sym none) refl

-- what a graph refuses to make is what a tree with its edges refuses
pub making_refused : (graph : Kept) (tree : Tree) (room : Room) (position : Position) (word directory : ℕ) (name : List ℕ) (limit : OperationSet) (status : Status) →
    StandsFor graph tree → finite.get graph.edges (name_in directory name) ≡ None → Some status ≡ first_of (absent_refusals graph.edges room word directory) →
    act_at position room tree word (at_nothing directory name limit) ≡ only position (refuses status)
making_refused graph tree room position word directory name limit status stands absent is =
    rw (sym (making_refused_as graph.edges tree room word (name_in directory name) (sym stands.edges) absent), sym is) refl

pub making_bound : (graph : Kept) (tree : Tree) (room : Room) (position : Position) (word directory : ℕ) (name : List ℕ) (limit : OperationSet) →
    StandsFor graph tree → finite.get graph.edges (name_in directory name) ≡ None → None ≡ first_of (absent_refusals graph.edges room word directory) →
    act_at position room tree word (at_nothing directory name limit) ≡ making position tree word limit (name_in directory name)
making_bound graph tree room position word directory name limit stands absent none =
    rw (sym (making_refused_as graph.edges tree room word (name_in directory name) (sym stands.edges) absent), sym none) refl

-- an Open that isn't refused before its walk
pub act_of_open : (birth : Birth) (position : Position) (room : Room) (tree : Tree) (directory : ℕ → Option ℕ) (path : List ℕ) (word flags : ℕ) (names : List (List ℕ)) →
    None ≡ first_of (entry_refusals birth word path) → flags ≡ word → names ≡ names_of path →
    open_act (context_with birth position room tree directory) path word
    ≡ act_at position room tree flags (reach birth.rights (walk tree flags names birth.node))
act_of_open birth position room tree directory path word flags names none same named =
    rw (sym none, same, named) refl

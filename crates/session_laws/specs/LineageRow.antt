-- A worked row: three servers, mounted one behind the other, an Open that goes over both mounts,
-- and what comes of what this binds: another Open, a Clone, a Watch, and an Open that makes a name.
-- Each lineage, and the trail of what crossed, names each set that it came through, and no member
-- is missing.
use Rattle.std.specs.Prelude.{◌≡◌, ℕ, Bool, true, false, List, [], ◌∷◌, ◌++◌, Option, Some, None, Ok, codes}
use Rattle.std.specs.FinMap as finite
use Rattle.io_messages.specs.Asked.{Asked}
use Rattle.io_messages.specs.Asked as asks
use Rattle.io_messages.specs.declared.protocols.Protocol.TheVariants as protocol
use Rattle.io_rights.specs.Operations.{OperationSet, all, none}
use Rattle.node_graph.specs.declared.nodes.NodeKind.{NodeKind}
use Rattle.node_graph.specs.declared.nodes.NodeKind.TheVariants.{Directory, Mount}
use Rattle.node_graph.specs.Tree.{Tree, edge_cmp, new_row}
use Rattle.fidl_names.specs.HandleNumber.{end_of_mount}
use Rattle.vfs_journal.specs.Entries.{Sent, message, sends, serves}
use Rattle.vfs_journal.specs.History.{History}
use Rattle.vfs_journal.specs.Outcomes.{no_outcome, watcher_birth}
use Rattle.vfs_journal.specs.Serving.{read_by}
use Rattle.vfs_journal.specs.Starts.{Bound, Start, directory_birth}
use Rattle.session_laws.specs.Lineage.{ancestor_of, lineage_of, sent_from, trail_of}

-- ---- sets that differ: each has the rights to get attributes and to traverse, and of four others those that are said

abbrev pub set_with : Bool → Bool → Bool → Bool → OperationSet
set_with reads writes lists executes =
    record {
      connect = false;
      read_bytes = reads;
      write_bytes = writes;
      execute = executes;
      get_attributes = true;
      update_attributes = false;
      enumerate = lists;
      traverse = true;
      modify_directory = false;
    }

abbrev pub of_client : OperationSet
of_client = set_with true true true true

abbrev pub mask_of_a : OperationSet
mask_of_a = set_with true true true false

abbrev pub mask_of_m : OperationSet
mask_of_m = set_with true true false true

abbrev pub end_of_m : OperationSet
end_of_m = set_with true true false false

abbrev pub mask_of_n : OperationSet
mask_of_n = set_with true false true true

abbrev pub end_of_n : OperationSet
end_of_n = set_with true false true false

abbrev pub mask_of_b : OperationSet
mask_of_b = set_with true false false true

abbrev pub mask_of_d : OperationSet
mask_of_d = set_with true false false false

abbrev pub of_first_opened : OperationSet
of_first_opened = set_with false true true true

abbrev pub of_last_opened : OperationSet
of_last_opened = set_with false true true false

abbrev pub of_clone : OperationSet
of_clone = set_with false true false true

abbrev pub of_made : OperationSet
of_made = set_with false true false false

-- ---- the start: `a/m` of the first server leads to the second, `n` of that to the third, and `b/d` there is a directory

-- a root with one name
abbrev pub tree_with : NodeKind → List ℕ → OperationSet → Tree
tree_with kind name mask =
    record {
      nodes = new_row Directory ∷ new_row kind ∷ [];
      edges = finite.from_entries {R = edge_cmp} ((record { directory = 1; name = name }, record { child = 2; mask = mask }) ∷ []);
    }

-- a root with the name of a directory, in which is one more
abbrev pub tree_below : List ℕ → OperationSet → NodeKind → List ℕ → OperationSet → Tree
tree_below first mask kind name mask' =
    record {
      nodes = new_row Directory ∷ new_row Directory ∷ new_row kind ∷ [];
      edges = finite.from_entries {R = edge_cmp}
          ((record { directory = 1; name = first }, record { child = 2; mask = mask })
          ∷ (record { directory = 2; name = name }, record { child = 3; mask = mask' })
          ∷ []);
    }

-- a connection to a server's root
abbrev pub on_root : ℕ → ℕ → OperationSet → Bound
on_root endpoint server rights = record { endpoint = endpoint; server = server; birth = directory_birth 1 rights; mask = 0 }

-- a connection to `d`, and a watcher of it
abbrev pub on_d : ℕ → OperationSet → Bound
on_d endpoint rights = record { endpoint = endpoint; server = 2; birth = directory_birth 3 rights; mask = 0 }

abbrev pub watching_d : ℕ → Bound
watching_d endpoint = record { endpoint = endpoint; server = 2; birth = watcher_birth 3; mask = 31 }

abbrev pub three_servers : Start
three_servers =
    record {
      trees =
          tree_below (codes "a") mask_of_a (Mount 0) (codes "m") mask_of_m
          ∷ tree_with (Mount 1) (codes "n") mask_of_n
          ∷ tree_below (codes "b") mask_of_b Directory (codes "d") mask_of_d
          ∷ [];
      firsts = on_root 1 0 of_client ∷ [];
      mounts = on_root (end_of_mount 0) 1 end_of_m ∷ on_root (end_of_mount 1) 2 end_of_n ∷ [];
    }

-- ---- what happened

-- bytes and handles, which are a request to a directory
pub record Message : Type 0 where
  pub bytes : List ℕ
  pub handles : List ℕ

abbrev pub Asks : Message → Asked → Type 0
Asks m request = (txid : ℕ) × (read_by protocol.Directory m.bytes m.handles ≡ Ok (txid, request))

abbrev pub sending : ℕ → ℕ → Option ℕ → Message → Sent
sending place endpoint origin m =
    record { place = place; endpoint = endpoint; sending = message m.bytes m.handles; origin = origin }

-- it came, and was then served
abbrev pub is_sent : Sent → History → History
is_sent sent past = record { entry = sends sent; outcome = no_outcome; deaths = [] } ∷ past

abbrev pub is_served : Sent → Option Bound → History → History
is_served sent bound past =
    record { entry = serves sent; outcome = record no_outcome { bound = bound }; deaths = [] } ∷ is_sent sent past

-- an Open of `a/m/n/b/d` on endpoint 1 with the new endpoint 5 was served at the first server, and
-- what went on of it at the second and the third, which bound endpoint 5
pub record Opens : Type 0 where
  pub first : Message
  pub second : Message
  pub third : Message

abbrev pub on_client : Opens → Sent
on_client opens = sending 0 1 None opens.first

abbrev pub over_m : Opens → Sent
over_m opens = sending 2 (end_of_mount 0) (Some 0) opens.second

abbrev pub over_n : Opens → Sent
over_n opens = sending 4 (end_of_mount 1) (Some 2) opens.third

abbrev pub once_served : Opens → History
once_served opens = is_served (on_client opens) None []

abbrev pub twice_served : Opens → History
twice_served opens = is_served (over_m opens) None (once_served opens)

abbrev pub thrice_served : Opens → History
thrice_served opens = is_served (over_n opens) (Some (on_d 5 of_first_opened)) (twice_served opens)

-- an Open of `.` on 5 bound endpoint 7; and on that a Clone bound endpoint 9, a Watch endpoint 11,
-- and an Open of `x`, which is no name there, endpoint 13
pub record Later : Type 0 where
  pub opens : Message
  pub clones : Message
  pub watches : Message
  pub makes : Message

abbrev pub opened : Opens → Later → History
opened opens later =
    is_served (sending 6 5 None later.opens) (Some (on_d 7 of_last_opened)) (thrice_served opens)

abbrev pub cloned : Opens → Later → History
cloned opens later = is_served (sending 8 7 None later.clones) (Some (on_d 9 of_clone)) (opened opens later)

abbrev pub watched : Opens → Later → History
watched opens later = is_served (sending 10 7 None later.watches) (Some (watching_d 11)) (cloned opens later)

abbrev pub all_served : Opens → Later → History
all_served opens later = is_served (sending 12 7 None later.makes) (Some (on_d 13 of_made)) (watched opens later)

-- ---- the row

-- what came over both mounts came through these
abbrev pub crossed : List OperationSet
crossed = of_client ∷ mask_of_a ∷ mask_of_m ∷ end_of_m ∷ mask_of_n ∷ end_of_n ∷ []

-- and endpoint 7 through these too
abbrev pub through : List OperationSet
through =
    of_client ∷ mask_of_a ∷ mask_of_m ∷ end_of_m ∷ mask_of_n ∷ end_of_n ∷ mask_of_b ∷ mask_of_d
    ∷ of_first_opened ∷ of_last_opened ∷ []

pub record NamesEachSet (opens : Opens) (history : History) : Type 0 where
  pub trail : trail_of three_servers history (over_n opens) ≡ crossed
  pub opened : lineage_of three_servers history 7 ≡ through
  pub cloned : lineage_of three_servers history 9 ≡ through ++ of_clone ∷ []
  pub watched : lineage_of three_servers history 11 ≡ through ++ none ∷ []
  -- a name that is made has all nine rights
  pub made : lineage_of three_servers history 13 ≡ through ++ all ∷ of_made ∷ []
  -- all of it comes from endpoint 1
  pub sent_from_one : sent_from history (over_n opens) ≡ 1
  pub opened_from_one : ancestor_of history 7 ≡ 1
  pub cloned_from_one : ancestor_of history 9 ≡ 1
  pub watched_from_one : ancestor_of history 11 ≡ 1
  pub made_from_one : ancestor_of history 13 ≡ 1

abbrev pub LineagesNameEachSet : Type 0
LineagesNameEachSet =
    (opens : Opens) (later : Later) →
    Asks opens.first (asks.open_path (codes "a/m/n/b/d") 0 None 5) →
    Asks opens.second (asks.open_path (codes "n/b/d") 0 None 5) →
    Asks opens.third (asks.open_path (codes "b/d") 0 None 5) →
    Asks later.opens (asks.open_path (codes ".") 0 None 7) → Asks later.clones (asks.clone 9) →
    Asks later.watches (asks.watch 31 0 11) →
    Asks later.makes (asks.open_path (codes "x") 0 None 13) →
    NamesEachSet opens (all_served opens later)

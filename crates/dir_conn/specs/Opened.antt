-- How an Open is served, by where its walk leads. These are words of steps.
use Rattle.std.specs.Prelude.{◌≡◌, ◌≢◌, ℕ, true, not, nat_le, List, [], ◌∷◌, Option}
use Rattle.std.specs.FinMap as finite
use Rattle.fidl_names.specs.First.{cause_if, first_of}
use Rattle.fidl_names.specs.declared.limits.TheConstants as limit
use Rattle.fidl_names.specs.declared.statuses.Status.{Status}
use Rattle.fidl_names.specs.declared.statuses.Status.TheVariants as status
use Rattle.fidl_wire.specs.Written.{Written}
use Rattle.io_flags.specs.Words.{creates}
use Rattle.node_graph.specs.declared.faults.GraphFault.{GraphFault}
use Rattle.node_graph.specs.declared.faults.GraphFault.TheVariants as fault
use Rattle.node_graph.specs.Graph.{Kept, KeepsNames, SameHolds, StandsFor}
use Rattle.node_graph.specs.Tree.{Tree, Edges, is_removed}
use Rattle.conn_rules.specs.declared.births.Birth as code
use Rattle.conn_rules.specs.Answers.{Act}
use Rattle.conn_rules.specs.Births.{Position, connection_with}
use Rattle.conn_rules.specs.declared.births.Room.{Room}
use Rattle.conn_rules.specs.Opens.{is_full}
use Rattle.conn_rules.specs.Refusals.{as_status}
use Rattle.conn_rules.specs.Served.{HasNothing, takes_memory}
use Rattle.dir_conn.specs.declared.served.DirServed.{DirServed}
use Rattle.dir_conn.specs.declared.served.DirServed.TheVariants as given
use Rattle.dir_conn.specs.Served.{IsDirServed}

-- why the graph makes no node in a directory at a name that is missing there
abbrev pub absent_refusal : Edges → ℕ → Option GraphFault
absent_refusal edges directory =
    first_of
    (cause_if (is_removed edges directory) fault.Removed
    ∷ cause_if (nat_le limit.MAX_NAMES (finite.len edges)) fault.NoSpace
    ∷ [])

-- and why an Open makes none
abbrev pub absent_refusals : Edges → Room → ℕ → ℕ → List (Option Status)
absent_refusals edges room word directory =
    cause_if (not (creates word)) status.NotFound
    ∷ as_status (absent_refusal edges directory)
    ∷ cause_if (is_full room) status.NoResources
    ∷ []

-- each node has its holds and its reference
pub record Keeps (before after : Kept) : Type 0 where
  pub holds : SameHolds before after
  pub names : KeepsNames before after

-- an Open is served as its act says, which leaves the position where it was; where it finds no
-- memory for it, nothing is done
pub record IsOpened (act : Tree → Position → Act) (result : DirServed)
    (before after : Kept) : Type 0 where
  pub served : (tree : Tree) (birth : code.Birth) (position : Position) (txid : ℕ) (out : Written) →
      StandsFor before tree → HasNothing out → result ≢ given.NoMemory →
      IsDirServed (act tree position) txid result out (connection_with birth position) before after
  pub keeps : Keeps before after
  pub memory : (tree : Tree) (position : Position) → StandsFor before tree →
      result ≡ given.NoMemory → takes_memory (act tree position).change ≡ true
  pub untouched : result ≡ given.NoMemory → after ≡ before

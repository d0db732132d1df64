-- How a request is served that may find no memory. These are words of steps.
use Rattle.std.specs.Prelude.{◌≡◌, ◌≢◌, ℕ, true}
use Rattle.fidl_wire.specs.Written.{Written}
use Rattle.node_graph.specs.Graph.{Kept, StandsFor}
use Rattle.node_graph.specs.Tree.{Tree}
use Rattle.conn_rules.specs.declared.births.Birth as code
use Rattle.conn_rules.specs.Answers.{Act}
use Rattle.conn_rules.specs.Births.{Position, connection_with}
use Rattle.conn_rules.specs.Served.{HasNothing, takes_memory}
use Rattle.dir_conn.specs.declared.served.DirServed.{DirServed}
use Rattle.dir_conn.specs.declared.served.DirServed.TheVariants as given
use Rattle.dir_conn.specs.Opened.{Keeps}
use Rattle.dir_conn.specs.Served.{IsDirServed}

-- a request is served as its act says; where it finds no memory for a change that takes some,
-- nothing is done and nothing is written
pub record IsTried (act : Tree → Position → Act) (birth : code.Birth) (txid : ℕ)
    (result : DirServed) (out : Written) (before after : Kept) : Type 0 where
  pub served : (tree : Tree) (position : Position) → StandsFor before tree →
      result ≢ given.NoMemory →
      IsDirServed (act tree position) txid result out (connection_with birth position) before after
  pub keeps : Keeps before after
  pub memory : (tree : Tree) (position : Position) → StandsFor before tree →
      result ≡ given.NoMemory → takes_memory (act tree position).change ≡ true
  pub untouched : result ≡ given.NoMemory → after ≡ before
  pub empty : result ≡ given.NoMemory → HasNothing out

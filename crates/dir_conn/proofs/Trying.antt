-- A request that fails, finds no memory or is done is served as its act says.
use Rattle.std.proofs.Common.{◌≡◌, ◌≢◌, ℕ, true, refl}
use Rattle.fidl_names.specs.declared.methods.Method.{Method}
use Rattle.fidl_names.specs.declared.statuses.Status.{Status}
use Rattle.fidl_wire.specs.Written.{Written}
use Rattle.node_graph.specs.Graph.{Kept, StandsFor}
use Rattle.node_graph.specs.Tree.{Tree}
use Rattle.conn_rules.specs.declared.births.Birth as code
use Rattle.conn_rules.specs.Answers.{Act, failure_of, only}
use Rattle.conn_rules.specs.Births.{Position, connection_with}
use Rattle.conn_rules.specs.Served.{HasNothing, takes_memory}
use Rattle.dir_conn.specs.declared.served.DirServed.{DirServed}
use Rattle.dir_conn.specs.declared.served.DirServed.TheVariants as served
use Rattle.dir_conn.specs.Opened.{Keeps}
use Rattle.dir_conn.specs.Served.{IsDirServed}
use Rattle.dir_conn.specs.Tried.{IsTried}
use Rattle.dir_conn.proofs.Opening.{kept}

pub failed : (act : Tree → Position → Act) (birth : code.Birth) (txid : ℕ) (method : Method) (status : Status) (result : DirServed) (out : Written) (graph : Kept) →
    ((tree : Tree) (position : Position) → StandsFor graph tree → act tree position ≡ only position (failure_of method status)) →
    ((position : Position) → IsDirServed (only position (failure_of method status)) txid result out (connection_with birth position) graph graph) →
    result ≢ served.NoMemory → IsTried act birth txid result out graph graph
failed act birth txid method status result out graph is answered known =
    record {
      served = λ tree position stands some. rw (is tree position stands) (answered position);
      keeps = kept graph;
      memory = λ tree position stands wants. absurd (known wants);
      untouched = λ wants. refl;
      empty = λ wants. absurd (known wants);
    }

pub wanting : (act : Tree → Position → Act) (birth : code.Birth) (txid : ℕ) (out : Written) (graph : Kept) → HasNothing out →
    ((tree : Tree) (position : Position) → StandsFor graph tree → takes_memory (act tree position).change ≡ true) →
    IsTried act birth txid served.NoMemory out graph graph
wanting act birth txid out graph nothing takes =
    record {
      served = λ tree position stands some. absurd (some refl);
      keeps = kept graph;
      memory = λ tree position stands wants. takes tree position stands;
      untouched = λ wants. refl;
      empty = λ wants. nothing;
    }

pub done : (act : Tree → Position → Act) (birth : code.Birth) (txid : ℕ) (result : DirServed) (out : Written) (before after : Kept) →
    ((tree : Tree) (position : Position) → StandsFor before tree → IsDirServed (act tree position) txid result out (connection_with birth position) before after) →
    Keeps before after → result ≢ served.NoMemory → IsTried act birth txid result out before after
done act birth txid result out before after answered keeps known =
    record {
      served = λ tree position stands some. answered tree position stands;
      keeps = keeps;
      memory = λ tree position stands wants. absurd (known wants);
      untouched = λ wants. absurd (known wants);
      empty = λ wants. absurd (known wants);
    }

-- so of an act that is the same on each tree
pub tried_as : (act like : Tree → Position → Act) (birth : code.Birth) (txid : ℕ) (result : DirServed) (out : Written) (before after : Kept) →
    IsTried like birth txid result out before after → ((tree : Tree) (position : Position) → StandsFor before tree → act tree position ≡ like tree position) →
    IsTried act birth txid result out before after
tried_as act like birth txid result out before after tried is =
    record {
      served = λ tree position stands some. rw (is tree position stands) (tried.served tree position stands some);
      keeps = tried.keeps;
      memory = λ tree position stands wants. rw (is tree position stands) (tried.memory tree position stands wants);
      untouched = tried.untouched;
      empty = tried.empty;
    }

-- What the serving of one request does.
use Rattle.std.specs.Prelude.{ℕ, Bool, List, [], ◌∷◌, Option, Some, None}
use Rattle.fidl_names.specs.declared.methods.Method.{Method}
use Rattle.fidl_names.specs.declared.statuses.Status.{Status}
use Rattle.io_messages.specs.Replies.{Answered, fails}
use Rattle.io_messages.specs.Failing.{failing_of}
use Rattle.io_messages.specs.declared.failing.Failing.{Failing}
use Rattle.io_messages.specs.declared.failing.Failing.TheVariants as failing
use Rattle.node_graph.specs.Tree.{EdgeKey, Change, stay}
use Rattle.conn_rules.specs.Births.{Birth, Position}

pub data Answer : Type 0 where
  -- a reply on the connection's own endpoint
  replies : Answered → Answer
  -- the reply to Close on it, and then it ends
  closes : Answer
  -- the endpoint that the request carries is bound; its first message tells what it is, where that
  -- was asked for
  binds : Birth → (announced : Bool) → Answer
  -- the reply to Watch; the endpoint that the request carries is bound as a watcher with this mask
  watches : (mask : ℕ) → Answer
  -- an Open goes on behind a mount, with these flags and names
  forwards : (mount flags : ℕ) (rest : List (List ℕ)) → Answer
  -- the endpoint that the request carries ends with this status
  refuses : Status → Answer
  -- the connection's own endpoint ends with this status
  ends : Status → Answer
  -- the client hung up on the connection's own endpoint: it ends, and nothing is written
  hangs_up : Answer
  -- nothing is written
  silent : Answer

-- what the watchers of a directory are told: a name is gone from it, a name is new in it, it is
-- gone itself
pub data Happening : Type 0 where
  removed : (name : EdgeKey) → Happening
  added : (name : EdgeKey) → Happening
  deleted : (directory : ℕ) → Happening

abbrev pub nothing_told : List Happening
nothing_told = []

-- a directory is gone, if there is one
abbrev pub gone : Option ℕ → List Happening
gone None = []
gone (Some directory) = deleted directory ∷ []

-- an answer, the position that it leaves, the change of the server's tree, and what watchers are
-- told of it, in this order
pub record Act : Type 0 where
  pub answer : Answer
  pub position : Position
  pub change : Change
  pub told : List Happening

-- an answer that leaves this position, and changes nothing else
abbrev pub only : Position → Answer → Act
only position answer =
    record { answer = answer; position = position; change = stay; told = nothing_told }

-- how a request fails, by the form of its method's failures: in its reply, or on the endpoint that
-- it carries. A method whose reply has no place for a status never fails; what stands here for it
-- is no reply that is written
abbrev pub failure_by : Failing → Method → Status → Answer
failure_by failing.Reply method status = replies (fails method status)
failure_by failing.Epitaph method status = refuses status
failure_by failing.Never method status = replies (fails method status)

abbrev pub failure_of : Method → Status → Answer
failure_of method status = failure_by (failing_of method) method status

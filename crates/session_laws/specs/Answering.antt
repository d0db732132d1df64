-- Who is answered has the right that the method needs, all the way.
use Rattle.std.specs.Prelude.{◌≡◌, ◌⊎◌, ℕ, List, Some, Ok}
use Rattle.fidl_names.specs.declared.statuses.Status.TheVariants as status
use Rattle.io_messages.specs.Asked.{Asked, method_of}
use Rattle.io_rights.specs.Needs.{needed_by}
use Rattle.io_rights.specs.Operations.{OperationSet}
use Rattle.conn_rules.specs.Answers.{only, failure_of}
use Rattle.vfs_journal.specs.Entries.{Sent, message}
use Rattle.vfs_journal.specs.History.{History, bound_at}
use Rattle.vfs_journal.specs.Outcomes.{Outcome, outcome_with}
use Rattle.vfs_journal.specs.Serving.{Moment, asker_of, moment_of, object_of, outcome_of, read_by}
use Rattle.vfs_journal.specs.Starts.{Bound, Start}
use Rattle.session_laws.specs.Lineage.{lineage_of}
use Rattle.session_laws.specs.Rights.{AreWithinEach}

-- what is served is a message that the connection reads as this request
pub record IsRequest (start : Start) (past : History) (sent : Sent) (bound : Bound) (txid : ℕ) (request : Asked) : Type 0 where
  pub at : bound_at start past sent.endpoint ≡ Some bound
  pub bytes : List ℕ
  pub handles : List ℕ
  pub is : sent.sending ≡ message bytes handles
  pub reads : read_by bound.birth.protocol bytes handles ≡ Ok (txid, request)

-- all that comes of a request whose method is refused: it fails with BAD_HANDLE, the position stays, nothing changes, nobody is told
-- anything, and nothing is bound or given
abbrev pub refusal_of : Moment → ℕ → Asked → Outcome
refusal_of moment txid request =
    outcome_with (asker_of moment.bound txid (object_of request)) (only moment.position (failure_of (method_of request) status.BadHandle))

-- ---- of one serving

-- a request whose method needs a right is refused, or each member of the lineage has that right, and so the connection itself and each on
-- the way
abbrev pub AnswerIsAllowed : Start → History → Sent → Type 0
AnswerIsAllowed start past sent =
    (bound : Bound) (txid : ℕ) (request : Asked) (needed : OperationSet) → IsRequest start past sent bound txid request → needed_by (method_of request) ≡ Some needed →
    (outcome_of start past sent ≡ refusal_of (moment_of start past bound) txid request) ⊎ AreWithinEach needed (lineage_of start past sent.endpoint)

-- ---- of each serving of a session, whatever came later

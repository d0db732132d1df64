-- A request whose method needs a right is refused, or each member of the lineage has it.
use Rattle.std.proofs.Common.{◌≡◌, ℕ, ◌==◌, ◌⊎◌, Bool, true, false, true≢false, not, List, [], ◌∷◌, Option, Some, None, Ok, refl, sym, ap, ◌∙◌, subst, inl, inr, ◌++◌}
use Rattle.journal_laws.specs.Soundness.{IsStart}
use Rattle.vfs_journal.specs.Lawful.{Lawful}
use Rattle.std.specs.Prelude.{IsTrue}
use Rattle.std.proofs.lemmas.Bool.{eqb-true}
use Rattle.std.proofs.lemmas.List.Elements.{All-weaker}
use Rattle.fidl_names.specs.First.{cause_if, first_of}
use Rattle.fidl_names.specs.declared.statuses.Status.{Status}
use Rattle.fidl_names.specs.declared.statuses.Status.TheVariants as status
use Rattle.wire_laws.specs.Laws.{SpelledWhereRead}
use Rattle.io_messages.specs.Asked.{Asked, method_of}
use Rattle.io_messages.specs.declared.protocols.Home.{Home}
use Rattle.io_messages.specs.declared.protocols.Home.TheVariants as homes
use Rattle.io_messages.specs.declared.protocols.Protocol.{Protocol}
use Rattle.io_messages.specs.declared.protocols.Protocol.TheVariants as protocol
use Rattle.io_messages.specs.Protocols.{has, home_of}
use Rattle.io_rights.specs.Needs.{needed_by}
use Rattle.io_rights.specs.Operations.{OperationSet, is_within}
use Rattle.io_rights.proofs.OperationSets.{within_trans}
use Rattle.conn_rules.specs.Acts.{act_of, is_beyond, lacks_right, method_refusals, row_act}
use Rattle.conn_rules.specs.Answers.{Act, failure_of, only}
use Rattle.conn_rules.specs.Contexts.{Context}
use Rattle.conn_rules.specs.Refusals.{unless}
use Rattle.vfs_journal.specs.Entries.{Sent, serves, Journal}
use Rattle.vfs_journal.specs.History.{History, births, is_dead, living}
use Rattle.vfs_journal.specs.Outcomes.{outcome_with}
use Rattle.vfs_journal.specs.Past.{history_of}
use Rattle.vfs_journal.specs.Serving.{Moment, asker_of, context_at, moment_of, object_of, outcome_at, outcome_of, outcome_of_message, outcome_of_read, outcome_of_sending, read_by, request_act}
use Rattle.vfs_journal.specs.Starts.{Bound, Start}
use Rattle.journal_laws.proofs.Below.{Below}
use Rattle.journal_laws.proofs.Members.{found, kept_of}
use Rattle.journal_laws.proofs.Placed.{has_read}
use Rattle.session_laws.specs.Answering.{AnswerIsAllowed, IsRequest}
use Rattle.session_laws.specs.Lineage.{lineage_of}
use Rattle.session_laws.specs.Rights.{AreWithinEach}
use Rattle.session_laws.proofs.Allowing.{rights_there}
use Rattle.journal_laws.proofs.Stepping.{time_of}
use Rattle.session_laws.proofs.LineagesHold.{Holds}
use Rattle.session_laws.proofs.Times.{head_holds}

-- ---- one request

-- whatever refuses a method does so with BAD_HANDLE
bad_handle : (x y : Bool) (s : Status) → first_of (cause_if x status.BadHandle ∷ cause_if y status.BadHandle ∷ []) ≡ Some s → s ≡ status.BadHandle
bad_handle true y s e = cc
bad_handle false true s e = cc
bad_handle false false s e = absurd (cc)

abbrev FailsOrHas : Context → Asked → OperationSet → Act → Type 0
FailsOrHas context request needed act = (act ≡ only context.position (failure_of (method_of request) status.BadHandle)) ⊎ (is_within needed context.birth.rights ≡ true)

by_refusal : (context : Context) (request : Asked) (needed : OperationSet) → needed_by (method_of request) ≡ Some needed → (o : Option Status) → first_of (method_refusals context.birth (method_of request)) ≡ o →
    FailsOrHas context request needed (unless o context.position (method_of request) (row_act context request))
by_refusal context request needed needs None e = inr (rights_there context request needed needs e)
by_refusal context request needed needs (Some s) e =
    inl (ap (λ (t : Status). only context.position (failure_of (method_of request) t))
    (bad_handle (is_beyond context.birth.protocol (method_of request)) (lacks_right context.birth (method_of request)) s e))

fails_or_has : (context : Context) (request : Asked) (needed : OperationSet) → needed_by (method_of request) ≡ Some needed → FailsOrHas context request needed (act_of context request)
unfolding act_of
fails_or_has context request needed needs = by_refusal context request needed needs (first_of (method_refusals context.birth (method_of request))) refl

-- ---- what a request is answered

no_home : (home : Home) → has protocol.Watcher home ≡ false
no_home homes.EveryNode = refl
no_home homes.Directories = refl
no_home homes.Files = refl
no_home homes.Echoes = refl

-- a watcher's protocol reads nothing as a request, and every other goes by the rows
by_rows : SpelledWhereRead → (moment : Moment) (p : Protocol) (bytes handles : List ℕ) (txid : ℕ) (request : Asked) → read_by p bytes handles ≡ Ok (txid, request) →
    outcome_of_message moment p bytes handles ≡ outcome_with (asker_of moment.bound txid (object_of request)) (request_act moment request)
by_rows law moment protocol.Watcher bytes handles txid request reads =
    absurd (true≢false (sym (has_read law protocol.Watcher bytes handles txid request reads) ∙ no_home (home_of (method_of request))))
by_rows law moment protocol.Directory bytes handles txid request reads = ap (outcome_of_read moment) reads
by_rows law moment protocol.File bytes handles txid request reads = ap (outcome_of_read moment) reads
by_rows law moment protocol.Node bytes handles txid request reads = ap (outcome_of_read moment) reads
by_rows law moment protocol.Echo bytes handles txid request reads = ap (outcome_of_read moment) reads

answered_by_rows : SpelledWhereRead → (start : Start) (past : History) (sent : Sent) (bound : Bound) (txid : ℕ) (request : Asked) → IsRequest start past sent bound txid request →
    outcome_of start past sent ≡ outcome_with (asker_of bound txid (object_of request)) (request_act (moment_of start past bound) request)
unfolding outcome_of_sending
answered_by_rows law start past sent bound txid request h =
    ap (outcome_at start past sent) h.at ∙ ap (outcome_of_sending (moment_of start past bound)) h.is ∙
    by_rows law (moment_of start past bound) bound.birth.protocol h.bytes h.handles txid request h.reads

-- ---- the law

-- the rights of a connection that serves lie within the lineage of its endpoint
bound_within : (start : Start) (past : History) (sent : Sent) (bound : Bound) (txid : ℕ) (request : Asked) → Holds start past → IsRequest start past sent bound txid request → AreWithinEach bound.birth.rights (lineage_of start past sent.endpoint)
bound_within start past sent bound txid request holds h =
    let b = found (λ (one : Bound). one.endpoint == sent.endpoint) (living start past) bound h.at in
    let born = (kept_of (λ (one : Bound). not (is_dead past one.endpoint)) (births start past) bound b.0).0 in
    subst (λ (n : ℕ). AreWithinEach bound.birth.rights (lineage_of start past n)) (eqb-true bound.endpoint sent.endpoint b.1) (holds.rights bound born)

answer_allowed : SpelledWhereRead → (start : Start) (past : History) (sent : Sent) → Holds start past → AnswerIsAllowed start past sent
answer_allowed law start past sent holds bound txid request needed h needs = by_case (fails_or_has (context_at (moment_of start past bound)) request needed needs) where
  by_case : FailsOrHas (context_at (moment_of start past bound)) request needed (request_act (moment_of start past bound) request) →
      (outcome_of start past sent ≡ outcome_with (asker_of bound txid (object_of request)) (only (moment_of start past bound).position (failure_of (method_of request) status.BadHandle))) ⊎
      AreWithinEach needed (lineage_of start past sent.endpoint)
  by_case (inl fails) = inl (answered_by_rows law start past sent bound txid request h ∙ ap (outcome_with (asker_of bound txid (object_of request))) fails)
  by_case (inr has') =
      inr (All-weaker (λ member. IsTrue (is_within bound.birth.rights member)) (λ member. IsTrue (is_within needed member))
      (λ member own. within_trans needed bound.birth.rights member has' own) (lineage_of start past sent.endpoint) (bound_within start past sent bound txid request holds h))

pub answers_allowed : Below → (start : Start) (later past : Journal) (sent : Sent) → IsStart start → Lawful start (later ++ serves sent ∷ past) → AnswerIsAllowed start (history_of start past) sent
answers_allowed below start later past sent s h =
    answer_allowed below.spelled start (history_of start past) sent
    (head_holds below start s past sent (time_of start later (serves sent ∷ past) h))

-- What changes a tree is allowed.
use Rattle.std.proofs.Common.{◌≡◌, ◌≢◌, ℕ, ◌==◌, ◌⊎◌, not, List, [], ◌∷◌, Option, Some, Ok, refl, sym, ap, ◌∙◌, subst, inl, inr, ◌++◌}
use Rattle.journal_laws.specs.Soundness.{IsStart}
use Rattle.vfs_journal.specs.Lawful.{Lawful}
use Rattle.std.specs.Option.{option_map_or}
use Rattle.std.proofs.lemmas.Bool.{eqb-true}
use Rattle.io_messages.specs.Asked.{Asked}
use Rattle.io_messages.specs.Asked as asks
use Rattle.io_rights.specs.Operations.{OperationSet}
use Rattle.node_graph.specs.Tree.{stay}
use Rattle.conn_rules.specs.Acts.{act_of}
use Rattle.vfs_journal.specs.Entries.{Sent, message, serves, Journal}
use Rattle.vfs_journal.specs.History.{History, births, bound_at, is_dead, living}
use Rattle.vfs_journal.specs.Outcomes.{Outcome, bound_of}
use Rattle.vfs_journal.specs.Past.{event_of, history_of}
use Rattle.vfs_journal.specs.Serving.{asker_of, context_at, moment_of, object_of, outcome_at, outcome_of, outcome_of_sending, read_by}
use Rattle.vfs_journal.specs.Session.{head}
use Rattle.vfs_journal.specs.Starts.{Bound, Start}
use Rattle.journal_laws.proofs.Among.{some_found}
use Rattle.journal_laws.proofs.Below.{Below}
use Rattle.journal_laws.proofs.Members.{kept_of}
use Rattle.journal_laws.proofs.Places.{head_is, waits_of_sent}
use Rattle.journal_laws.proofs.Requests.{opens_directory}
use Rattle.journal_laws.proofs.Stepping.{stepped, time_of, was_head}
use Rattle.session_laws.specs.Authority.{ChangeIsAllowed, HasAuthority, IsAllowed, IsGivenWith}
use Rattle.session_laws.specs.Lineage.{lineage_of, lines_of, rights_bound}
use Rattle.session_laws.specs.Rights.{AreWithinEach}
use Rattle.session_laws.proofs.Beginning.{asked_is}
use Rattle.session_laws.proofs.Heard.{Heard, heard, unheard, sending_heard}
use Rattle.session_laws.proofs.LineagesHold.{Holds}
use Rattle.session_laws.proofs.Opening.{BindsOwn, OverIn, request_allowed}
use Rattle.session_laws.proofs.LineagesServing.{AreTrailed}
use Rattle.session_laws.proofs.Times.{head_holds}
use Rattle.session_laws.proofs.TokensGiven.{AreGiven, are_given, target_given}

-- ---- one serving

module _ (below : Below) (start : Start) (past : History) (k : Sent) (bound : Bound) (at : bound_at start past k.endpoint ≡ Some bound) (within : AreWithinEach bound.birth.rights (lineage_of start past k.endpoint)) (trailed : AreTrailed (lines_of start past) k)
    (tokens : (token target : ℕ) → (moment_of start past bound).directory token ≡ Some target → IsGivenWith start past token) where
  over_in : (bytes handles : List ℕ) (txid : ℕ) (request : Asked) → k.sending ≡ message bytes handles → read_by bound.birth.protocol bytes handles ≡ Ok (txid, request) → OverIn start past (moment_of start past bound) k within request
  over_in bytes handles txid (asks.open_path path word attributes object) is read = λ origin from.
      (trailed origin bytes handles txid path word attributes object from is (opens_directory below.spelled below.reads below.apart bound.birth.protocol bytes handles txid path word attributes object read)).asked
  over_in bytes handles txid request is read = tt

  abbrev own_rights : Option Bound → List OperationSet
  own_rights o = option_map_or (λ b. b.birth.rights ∷ []) o []

  event_binds : rights_bound (event_of start past (serves k)) ≡ own_rights (outcome_of start past k).bound
  unfolding event_of
  event_binds = refl

  allowed_by : (outcome : Outcome) → outcome_of start past k ≡ outcome → Heard (moment_of start past bound) k.sending outcome → outcome.change ≢ stay → IsAllowed start past k outcome.change
  allowed_by outcome all (unheard binds' onward given change) changes = absurd (changes change)
  allowed_by outcome all (heard bytes handles txid request is read whole) changes =
      by_case (request_allowed start past (moment_of start past bound) k within request (over_in bytes handles txid request is read) tokens owns) where
        same : outcome.change ≡ (act_of (context_at (moment_of start past bound)) request).change
        same = ap (λ (o : Outcome). o.change) whole

        owns : BindsOwn start past (moment_of start past bound) k within (act_of (context_at (moment_of start past bound)) request)
        owns birth announced e =
            event_binds ∙ ap own_rights
            (ap (λ (o : Outcome). o.bound) (all ∙ whole) ∙ ap (bound_of (asker_of bound txid (object_of request))) e)

        by_case : ((act_of (context_at (moment_of start past bound)) request).change ≡ stay) ⊎ HasAuthority start past k (moment_of start past bound) request (act_of (context_at (moment_of start past bound)) request).change → IsAllowed start past k outcome.change
        by_case (inl stays) = absurd (changes (same ∙ stays))
        by_case (inr allowed) = record {
          bound = bound;
          at = at;
          request = request;
          asked = asked_is (moment_of start past bound) k.sending bytes handles txid request is read;
          authority = subst (HasAuthority start past k (moment_of start past bound) request) (sym same) allowed;
        }

  serving_allowed : outcome_of start past k ≡ outcome_of_sending (moment_of start past bound) k.sending → (outcome_of_sending (moment_of start past bound) k.sending).change ≢ stay →
      IsAllowed start past k (outcome_of_sending (moment_of start past bound) k.sending).change
  serving_allowed all changes = allowed_by (outcome_of_sending (moment_of start past bound) k.sending) all (sending_heard (moment_of start past bound) k.sending) changes

pub head_allowed : Below → (start : Start) (past : History) (k : Sent) → head start past k.endpoint ≡ Some k → Holds start past → AreGiven start past → (outcome_of start past k).change ≢ stay → IsAllowed start past k (outcome_of start past k).change
head_allowed below start past k first holds given changes =
    let is = head_is start past k first in
    let b = some_found (λ bound. bound.endpoint == k.endpoint) (living start past) is.bound in
    let born = (kept_of (λ bound. not (is_dead past bound.endpoint)) (births start past) b.0 b.2).0 in
    let whole : outcome_of start past k ≡ outcome_of_sending (moment_of start past b.0) k.sending = ap (outcome_at start past k) b.1 in
    let within = subst (λ (n : ℕ). AreWithinEach b.0.birth.rights (lineage_of start past n)) (eqb-true b.0.endpoint k.endpoint b.3) (holds.rights b.0 born) in
    subst (λ (o : Outcome). IsAllowed start past k o.change) (sym whole)
    (serving_allowed below start past k b.0 b.1 within (holds.trails k (waits_of_sent past k is.waits))
    (λ token target e. target_given start past b.0.server token target holds given e)
    whole (λ e. changes (ap (λ (o : Outcome). o.change) whole ∙ e)))

-- ---- servings of a session

pub changes_allowed : Below → (start : Start) (later past : Journal) (sent : Sent) → IsStart start → Lawful start (later ++ serves sent ∷ past) → ChangeIsAllowed start (history_of start past) sent
changes_allowed below start later past k s h =
    let time = time_of start later (serves k ∷ past) h in
    let first = was_head start past k time in
    head_allowed below start (history_of start past) k first.1 (head_holds below start s past k time) (are_given start past (stepped start past first.0))

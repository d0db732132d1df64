-- One serving: what it binds lies within the lineage that it gives, and what it sends on within the trail.
use Rattle.std.proofs.Common.{◌≡◌, ℕ, ◌^◌, ◌<◌, List, [], ◌++◌, slice_get, Option, Some, None, Ok, Contains, sym, ap, ◌∙◌, subst}
use Rattle.std.specs.Option.{option_map_or}
use Rattle.std.specs.Prelude.{All}
use Rattle.io_messages.specs.Asked.{Asked}
use Rattle.io_messages.specs.Asked as asks
use Rattle.io_messages.specs.declared.protocols.Protocol.TheVariants as protocol
use Rattle.io_rights.specs.Operations.{OperationSet}
use Rattle.path_walk.specs.Paths.{IsPath, names_of, text_of}
use Rattle.conn_rules.specs.Onward.{onward_bytes}
use Rattle.conn_rules.specs.Walks.{limit_of}
use Rattle.vfs_journal.specs.Entries.{Sent, message}
use Rattle.vfs_journal.specs.Outcomes.{Forwarded, Outcome, bound_of, forward_of}
use Rattle.vfs_journal.specs.Serving.{Moment, asker_of, context_at, object_of, outcome_of_sending, read_by, request_act}
use Rattle.vfs_journal.specs.Starts.{Bound, Start}
use Rattle.journal_laws.proofs.Acts.{IsAnswer, act_answers, crossing}
use Rattle.journal_laws.proofs.Below.{Below}
use Rattle.journal_laws.proofs.Onward.{onward_small, path_left}
use Rattle.journal_laws.proofs.Requests.{opens_directory}
use Rattle.session_laws.specs.Lineage.{Lines, asked_by, lineage_given, request_in, trail_given}
use Rattle.session_laws.specs.Rights.{AreWithinEach, HasAllAsked}
use Rattle.session_laws.proofs.Crossings.{Passes}
use Rattle.session_laws.proofs.Heard.{Heard, heard, unheard, BindsAs, connection, watcher, binds_as, SendsOn, sending_heard, sends_on}
use Rattle.session_laws.proofs.Opens.{open_crosses}
use Rattle.session_laws.proofs.Requests.{crossed_within, open_row_on, request_within}
use Rattle.session_laws.proofs.Sets.{none_within_each}

-- the flags of what went on are eight bytes, and all that they can get lies within the trail of its origin
pub record IsTrailed (lines : Lines) (word origin : ℕ) : Type 0 where
  pub small : word < 256 ^ 8
  pub asked : All (HasAllAsked word) (lines.onward origin)

-- so wherever it reads as an Open
abbrev pub AreTrailed : Lines → Sent → Type 0
AreTrailed lines sent =
    (origin : ℕ) (bytes handles : List ℕ) (txid : ℕ) (path : List ℕ) (word : ℕ) (attributes : Option ℕ) (object : ℕ) → sent.origin ≡ Some origin → sent.sending ≡ message bytes handles →
    read_by protocol.Directory bytes handles ≡ Ok (txid, asks.open_path path word attributes object) → IsTrailed lines word origin

-- what a request and its moment give, as a serving finds it
abbrev pub found : (Asked → List OperationSet) → Option Asked → List OperationSet
found given request = option_map_or given request []

module _ (below : Below) (moment : Moment) (lines : Lines) (sent : Sent) (within : AreWithinEach moment.bound.birth.rights (lines.lineage sent.endpoint)) (trailed : AreTrailed lines sent) where
  -- the request that was read is the one that the lineage is found by
  asked_is : (bytes handles : List ℕ) (txid : ℕ) (request : Asked) → sent.sending ≡ message bytes handles → read_by moment.bound.birth.protocol bytes handles ≡ Ok (txid, request) → asked_by moment sent.sending ≡ Some request
  asked_is bytes handles txid request sending read = ap (asked_by moment) sending ∙ ap request_in read

  open_asked : (bytes handles : List ℕ) (txid : ℕ) (path : List ℕ) (word : ℕ) (attributes : Option ℕ) (object : ℕ) → sent.sending ≡ message bytes handles → read_by moment.bound.birth.protocol bytes handles ≡ Ok (txid, asks.open_path path word attributes object) →
      (origin : ℕ) → sent.origin ≡ Some origin → All (HasAllAsked word) (lines.onward origin)
  open_asked bytes handles txid path word attributes object sending read origin from =
      (trailed origin bytes handles txid path word attributes object from sending
      (opens_directory below.spelled below.reads below.apart moment.bound.birth.protocol bytes handles txid path word attributes object read)).asked

  -- ---- what is bound

  connection_within : (bytes handles : List ℕ) (txid : ℕ) (request : Asked) (new : Bound) → sent.sending ≡ message bytes handles → read_by moment.bound.birth.protocol bytes handles ≡ Ok (txid, request) →
      BindsAs (request_act moment request).answer new → AreWithinEach new.birth.rights (lineage_given lines sent moment request)
  connection_within bytes handles txid request new sending read (watcher none') =
      subst (λ (some : OperationSet). AreWithinEach some (lineage_given lines sent moment request)) (sym none') (none_within_each (lineage_given lines sent moment request))
  connection_within bytes handles txid (asks.open_path path word attributes object) new sending read (connection birth announced answer is) =
      subst (λ (some : OperationSet). AreWithinEach some (lineage_given lines sent moment (asks.open_path path word attributes object))) (sym (ap (λ b. b.rights) is))
      (request_within moment lines sent within (asks.open_path path word attributes object) birth announced (open_asked bytes handles txid path word attributes object sending read) answer)
  connection_within bytes handles txid request new sending read (connection birth announced answer is) =
      subst (λ (some : OperationSet). AreWithinEach some (lineage_given lines sent moment request)) (sym (ap (λ b. b.rights) is))
      (request_within moment lines sent within request birth announced tt answer)

  bound_by : (new : Bound) → Heard moment sent.sending (outcome_of_sending moment sent.sending) → (outcome_of_sending moment sent.sending).bound ≡ Some new →
      AreWithinEach new.birth.rights (found (lineage_given lines sent moment) (asked_by moment sent.sending))
  bound_by new (unheard nothing none' given change) e = let wrong : None ≡ Some new = sym nothing ∙ e in absurd (cc)
  bound_by new (heard bytes handles txid request sending read is) e =
      let binds' : bound_of (asker_of moment.bound txid (object_of request)) (request_act moment request).answer ≡ Some new = sym (ap (λ (o : Outcome). o.bound) is) ∙ e in
      subst (λ (o : Option Asked). AreWithinEach new.birth.rights (found (lineage_given lines sent moment) o)) (sym (asked_is bytes handles txid request sending read))
      (connection_within bytes handles txid request new sending read (binds_as (asker_of moment.bound txid (object_of request)) (request_act moment request).answer new binds'))

  pub bound_within : (new : Bound) → (outcome_of_sending moment sent.sending).bound ≡ Some new → AreWithinEach new.birth.rights (found (lineage_given lines sent moment) (asked_by moment sent.sending))
  bound_within new e = bound_by new (sending_heard moment sent.sending) e

  -- ---- what goes on

  -- it is an Open with these flags, which lie within its trail
  pub record IsOnward (start : Start) (forward : Forwarded) : Type 0 where
    pub flags : ℕ
    pub rest : List (List ℕ)
    pub bytes : forward.bytes ≡ onward_bytes flags rest forward.object
    pub path : IsPath (text_of rest) rest
    pub small : flags < 256 ^ 8
    pub asked : All (HasAllAsked flags) (found (trail_given start lines sent moment) (asked_by moment sent.sending))

  path_onward : (path : List ℕ) (front rest : List (List ℕ)) → IsPath path (names_of path) → names_of path ≡ front ++ rest → IsPath (text_of rest) rest
  path_onward path front rest h split =
      path_left front rest (subst (λ names. IsPath (text_of names) names) split (subst (λ (t : List ℕ). IsPath t (names_of path)) h.spelled h))

  open_onward : (start : Start) (forward : Forwarded) (bytes handles : List ℕ) (txid : ℕ) (path : List ℕ) (word : ℕ) (attributes : Option ℕ) (object : ℕ) → sent.sending ≡ message bytes handles → read_by moment.bound.birth.protocol bytes handles ≡ Ok (txid, asks.open_path path word attributes object) → word < 256 ^ 8 →
      ((mount : ℕ) (masks : List OperationSet) → Passes moment.tree word mount masks → (end : Bound) → slice_get start.mounts mount ≡ Some end → Contains masks end.birth.rights) →
      SendsOn (asker_of moment.bound txid object) (request_act moment (asks.open_path path word attributes object)).answer forward → IsOnward start forward
  open_onward start forward bytes handles txid path word attributes object sending read small mounted on =
      let crossed = open_crosses (context_at moment) path word on.mount on.flags on.rest (open_row_on (context_at moment) path word attributes object on.mount on.flags on.rest on.is) in
      let walked = crossing moment.tree word (names_of path) moment.bound.birth.node on.mount on.rest crossed.masks crossed.walked in
      record {
        flags = on.flags;
        rest = on.rest;
        bytes = on.bytes;
        path = path_onward path walked.front on.rest (below.sound path crossed.good) walked.split;
        small = subst (λ (n : ℕ). n < 256 ^ 8) (sym crossed.left) (onward_small word (limit_of moment.bound.birth.rights crossed.masks) small);
        asked = subst (λ (o : Option Asked). All (HasAllAsked on.flags) (found (trail_given start lines sent moment) o)) (sym (asked_is bytes handles txid (asks.open_path path word attributes object) sending read))
            (crossed_within moment lines sent within start path word on.mount on.flags on.rest (open_asked bytes handles txid path word attributes object sending read) crossed (mounted on.mount));
      }

  abbrev AreSmall : Type 0
  AreSmall = (bytes handles : List ℕ) (txid : ℕ) (path : List ℕ) (word : ℕ) (attributes : Option ℕ) (object : ℕ) → sent.sending ≡ message bytes handles → read_by moment.bound.birth.protocol bytes handles ≡ Ok (txid, asks.open_path path word attributes object) → word < 256 ^ 8

  -- the mount's mask has the rights of its end
  abbrev AreMasked : Start → Type 0
  AreMasked start = (word mount : ℕ) (masks : List OperationSet) → Passes moment.tree word mount masks → (end : Bound) → slice_get start.mounts mount ≡ Some end → Contains masks end.birth.rights

  request_onward : (start : Start) (forward : Forwarded) (bytes handles : List ℕ) (txid : ℕ) (request : Asked) → AreSmall → AreMasked start → sent.sending ≡ message bytes handles → read_by moment.bound.birth.protocol bytes handles ≡ Ok (txid, request) →
      SendsOn (asker_of moment.bound txid (object_of request)) (request_act moment request).answer forward → IsOnward start forward
  request_onward start forward bytes handles txid (asks.open_path path word attributes object) small masked sending read on =
      open_onward start forward bytes handles txid path word attributes object sending read (small bytes handles txid path word attributes object sending read) (masked word) on
  request_onward start forward bytes handles txid request small masked sending read on =
      absurd (subst (IsAnswer moment.room moment.tree request) on.is (act_answers (context_at moment) request).0)

  onward_by : (start : Start) (forward : Forwarded) → AreSmall → AreMasked start → Heard moment sent.sending (outcome_of_sending moment sent.sending) → (outcome_of_sending moment sent.sending).forward ≡ Some forward → IsOnward start forward
  onward_by start forward small masked (unheard none' nothing given change) e = let wrong : None ≡ Some forward = sym nothing ∙ e in absurd (cc)
  onward_by start forward small masked (heard bytes handles txid request sending read is) e =
      let sends : forward_of (asker_of moment.bound txid (object_of request)) (request_act moment request).answer ≡ Some forward = sym (ap (λ (o : Outcome). o.forward) is) ∙ e in
      request_onward start forward bytes handles txid request small masked sending read (sends_on (asker_of moment.bound txid (object_of request)) (request_act moment request).answer forward sends)

  pub onward_within : (start : Start) (forward : Forwarded) → AreSmall → AreMasked start → (outcome_of_sending moment sent.sending).forward ≡ Some forward → IsOnward start forward
  onward_within start forward small masked e = onward_by start forward small masked (sending_heard moment sent.sending) e

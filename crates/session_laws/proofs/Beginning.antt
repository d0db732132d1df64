-- What a serving gives begins at a first connection.
use Rattle.std.proofs.Common.{◌≡◌, ℕ, List, ◌++◌, Option, Some, None, Ok, refl, sym, ap, ◌∙◌, subst}
use Rattle.io_messages.specs.Asked.{Asked}
use Rattle.io_messages.specs.Asked as asks
use Rattle.io_rights.specs.Operations.{OperationSet}
use Rattle.conn_rules.specs.Walks.{masks_of}
use Rattle.vfs_journal.specs.Entries.{Sent, Sending, message}
use Rattle.vfs_journal.specs.Outcomes.{Forwarded, Outcome}
use Rattle.vfs_journal.specs.Serving.{Moment, asker_of, context_at, object_of, outcome_of_sending, read_by, request_act}
use Rattle.vfs_journal.specs.Starts.{Bound, Start}
use Rattle.journal_laws.proofs.Acts.{IsAnswer, act_answers}
use Rattle.session_laws.specs.Lineage.{Ancestors, Lines, ancestor_by, ancestor_in, asked_by, end_rights, lineage_given, masks_along, request_in, trail_by, trail_given, trail_in, walk_at}
use Rattle.session_laws.specs.Rights.{BeginsAt}
use Rattle.session_laws.proofs.Heard.{Heard, heard, unheard, SendsOn, sending_heard, sends_on}
use Rattle.session_laws.proofs.LineagesServing.{found}

-- ---- requests

-- a request that is an Open
pub record IsOpen (request : Option Asked) : Type 0 where
  pub path : List ℕ
  pub word : ℕ
  pub attributes : Option ℕ
  pub object : ℕ
  pub is : request ≡ Some (asks.open_path path word attributes object)

pub asked_is : (moment : Moment) (sending : Sending) (bytes handles : List ℕ) (txid : ℕ) (request : Asked) → sending ≡ message bytes handles → read_by moment.bound.birth.protocol bytes handles ≡ Ok (txid, request) → asked_by moment sending ≡ Some request
asked_is moment sending bytes handles txid request is read = ap (asked_by moment) is ∙ ap request_in read

binds_by : (moment : Moment) (sending : Sending) (outcome : Outcome) (new : Bound) → Heard moment sending outcome → outcome.bound ≡ Some new → (request : Asked) × (asked_by moment sending ≡ Some request)
binds_by moment sending outcome new (unheard nothing none given change) e = absurd (let wrong : None ≡ Some new = sym nothing ∙ e in cc)
binds_by moment sending outcome new (heard bytes handles txid request is read whole) e = (request, asked_is moment sending bytes handles txid request is read)

-- what binds is a request
pub binds_asked : (moment : Moment) (sending : Sending) (new : Bound) → (outcome_of_sending moment sending).bound ≡ Some new → (request : Asked) × (asked_by moment sending ≡ Some request)
binds_asked moment sending new e = binds_by moment sending (outcome_of_sending moment sending) new (sending_heard moment sending) e

open_by : (moment : Moment) (request : Asked) (forward : Forwarded) → SendsOn (asker_of moment.bound 0 0) (request_act moment request).answer forward → IsOpen (Some request)
open_by moment (asks.open_path path word attributes object) forward on = record { path = path; word = word; attributes = attributes; object = object; is = refl }
open_by moment request forward on = absurd (subst (IsAnswer moment.room moment.tree request) on.is (act_answers (context_at moment) request).0)

forwards_by : (moment : Moment) (sending : Sending) (outcome : Outcome) (forward : Forwarded) → Heard moment sending outcome → outcome.forward ≡ Some forward → IsOpen (asked_by moment sending)
forwards_by moment sending outcome forward (unheard none nothing given change) e = absurd (let wrong : None ≡ Some forward = sym nothing ∙ e in cc)
forwards_by moment sending outcome forward (heard bytes handles txid request is read whole) e =
    let on = sends_on (asker_of moment.bound txid (object_of request)) (request_act moment request).answer forward (sym (ap (λ (o : Outcome). o.forward) whole) ∙ e) in
    subst IsOpen (sym (asked_is moment sending bytes handles txid request is read))
    (open_by moment request forward (record { mount = on.mount; flags = on.flags; rest = on.rest; is = on.is; bytes = on.bytes }))

-- what goes on is an Open
pub forwards_asked : (moment : Moment) (sending : Sending) (forward : Forwarded) → (outcome_of_sending moment sending).forward ≡ Some forward → IsOpen (asked_by moment sending)
forwards_asked moment sending forward e = forwards_by moment sending (outcome_of_sending moment sending) forward (sending_heard moment sending) e

-- ---- beginnings

pub begins_more : (start : Start) (ancestor : ℕ) (members more : List OperationSet) → BeginsAt start ancestor members → BeginsAt start ancestor (members ++ more)
begins_more start ancestor members more h = record {
  first = h.first;
  there = h.there;
  on = h.on;
  rest = h.rest ++ more;
  is = ap (λ (ms : List OperationSet). ms ++ more) h.is;
}

module _ (start : Start) (moment : Moment) (lines : Lines) (ancestors : Ancestors) (sent : Sent) (own : sent.origin ≡ None → BeginsAt start (ancestors.bound sent.endpoint) (lines.lineage sent.endpoint))
    (over : (origin : ℕ) → sent.origin ≡ Some origin → BeginsAt start (ancestors.onward origin) (lines.onward origin)) where
  pub trail_begins : (o : Option ℕ) → sent.origin ≡ o → BeginsAt start (ancestor_by ancestors sent.endpoint o) (trail_by lines sent.endpoint o)
  trail_begins None e = own e
  trail_begins (Some origin) e = over origin e

  pub trail_given_begins : IsOpen (asked_by moment sent.sending) → BeginsAt start (ancestor_in ancestors sent) (found (trail_given start lines sent moment) (asked_by moment sent.sending))
  trail_given_begins h =
      subst (λ (o : Option Asked). BeginsAt start (ancestor_in ancestors sent) (found (trail_given start lines sent moment) o)) (sym h.is)
      (begins_more start (ancestor_in ancestors sent) (trail_in lines sent ++ masks_of (walk_at moment h.path h.word)) (end_rights start (walk_at moment h.path h.word))
      (begins_more start (ancestor_in ancestors sent) (trail_in lines sent) (masks_of (walk_at moment h.path h.word)) (trail_begins sent.origin refl)))

  -- what came over a mount is an Open, so that anything else came from a client
  pub own_begins : (request : Asked) → asked_by moment sent.sending ≡ Some request → ((origin : ℕ) → sent.origin ≡ Some origin → IsOpen (asked_by moment sent.sending)) → (IsOpen (Some request) → ⊥) → (o : Option ℕ) → sent.origin ≡ o → BeginsAt start (ancestor_by ancestors sent.endpoint o) (lines.lineage sent.endpoint)
  own_begins request is opens other None e = own e
  own_begins request is opens other (Some origin) e = absurd (other (subst IsOpen is (opens origin e)))

  request_begins : (request : Asked) → asked_by moment sent.sending ≡ Some request → ((origin : ℕ) → sent.origin ≡ Some origin → IsOpen (asked_by moment sent.sending)) → BeginsAt start (ancestor_in ancestors sent) (lineage_given lines sent moment request)
  request_begins (asks.open_path path word attributes object) is opens = begins_more start (ancestor_in ancestors sent) (trail_in lines sent) (masks_along (walk_at moment path word)) (trail_begins sent.origin refl)
  request_begins request is opens = own_begins request is opens (λ h. no_open h.is) sent.origin refl where
    no_open : {path : List ℕ} {word : ℕ} {attributes : Option ℕ} {object : ℕ} → Some request ≡ Some (asks.open_path path word attributes object) → ⊥
    no_open e = cc

  pub lineage_given_begins : (request : Asked) → asked_by moment sent.sending ≡ Some request → ((origin : ℕ) → sent.origin ≡ Some origin → IsOpen (asked_by moment sent.sending)) → BeginsAt start (ancestor_in ancestors sent) (found (lineage_given lines sent moment) (asked_by moment sent.sending))
  lineage_given_begins request is opens =
      subst (λ (o : Option Asked). BeginsAt start (ancestor_in ancestors sent) (found (lineage_given lines sent moment) o)) (sym is) (request_begins request is opens)

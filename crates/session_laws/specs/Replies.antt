-- Pipelining: a client may send on, and has its replies in the order in which it sent.
use Rattle.std.specs.Prelude.{◌≡◌, ◌⊎◌, ℕ, true, false, AllPairs, Contains, List, [], ◌++◌, flat_map, Ok, Err}
use Rattle.link_admission.specs.Numbering.{among}
use Rattle.io_messages.specs.Asked.{Asked, method_of}
use Rattle.io_messages.specs.declared.requests.RequestFault.TheVariants.{UnknownTwoWay}
use Rattle.io_messages.specs.Shapes.{is_one_way}
use Rattle.vfs_journal.specs.Entries.{Sent, message}
use Rattle.vfs_journal.specs.History.{History, births, is_dead, is_watcher, serves_on, was_served}
use Rattle.vfs_journal.specs.Serving.{read_by}
use Rattle.vfs_journal.specs.Starts.{Bound, Start}
use Rattle.session_laws.specs.Pipelined.{EndsByEpitaph, HasOneReply, answer_to, is_two_way, replies_on, replies_to, sent_on, served_on, unserved_on, was_watcher}

-- ---- in order

-- what was served on an endpoint is a front of what was sent on it; nothing was served behind the serving that it died of; and where it is
-- no watcher's, the replies on it are those to what was served, one after the other
pub record ArePipelined (start : Start) (history : History) (endpoint : ℕ) : Type 0 where
  pub front : sent_on history endpoint ≡ served_on history endpoint ++ unserved_on history endpoint
  pub last : AllPairs (λ later event. among endpoint event.deaths ≡ true → serves_on endpoint later ≡ false) history
  pub replies : was_watcher start history endpoint ≡ false → replies_on start history endpoint ≡ flat_map (replies_to history) (served_on history endpoint)

-- ---- once

-- what was served was served on an endpoint with a birth. A watcher's answers nothing. A message without a transaction id has no reply. On
-- any other endpoint one with such an id has exactly one, with this id, unless it ended its endpoint by an epitaph. No epitaph stands in
-- place of the reply to a request: a message that is read as a request whose method has a reply has exactly one, one whose method has none has
-- none, and one of an unknown method that is flexible and asks for a reply has exactly one
pub record IsAnswered (start : Start) (history : History) (sent : Sent) : Type 0 where
  pub bound : Bound
  pub born : Contains (births start history) bound
  pub on : bound.endpoint ≡ sent.endpoint
  pub watcher : is_watcher bound.birth.protocol ≡ true → answer_to history sent ≡ []
  pub one_way : is_two_way sent.sending ≡ false → replies_to history sent ≡ []
  pub two_way : is_watcher bound.birth.protocol ≡ false → is_two_way sent.sending ≡ true → EndsByEpitaph history sent ⊎ HasOneReply history sent
  pub request : (bytes handles : List ℕ) (txid : ℕ) (asked : Asked) → is_watcher bound.birth.protocol ≡ false → sent.sending ≡ message bytes handles →
      read_by bound.birth.protocol bytes handles ≡ Ok (txid, asked) → is_one_way (method_of asked) ≡ false → HasOneReply history sent
  pub silent : (bytes handles : List ℕ) (txid : ℕ) (asked : Asked) → sent.sending ≡ message bytes handles →
      read_by bound.birth.protocol bytes handles ≡ Ok (txid, asked) → is_one_way (method_of asked) ≡ true → replies_to history sent ≡ []
  pub unknown : (bytes handles : List ℕ) (txid ordinal : ℕ) → is_watcher bound.birth.protocol ≡ false → sent.sending ≡ message bytes handles →
      read_by bound.birth.protocol bytes handles ≡ Err (UnknownTwoWay txid ordinal) → HasOneReply history sent

-- at one time: so is all that was served
abbrev pub AreAnswered : Start → History → Type 0
AreAnswered start history = (sent : Sent) → Contains (served_on history sent.endpoint) sent → IsAnswered start history sent

-- ---- where nothing waits

-- all that was sent on an endpoint that lives was served; what wasn't served was sent on one that is dead, and none of the replies there is
-- to it, as `replies` says
pub record IsSettled (start : Start) (history : History) (endpoint : ℕ) : Type 0 where
  pub pipelined : ArePipelined start history endpoint
  pub lives : is_dead history endpoint ≡ false → served_on history endpoint ≡ sent_on history endpoint
  pub dropped : (sent : Sent) → Contains (sent_on history endpoint) sent → was_served history sent ≡ false → is_dead history endpoint ≡ true

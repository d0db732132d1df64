-- That rights never widen, at any time of any session.
use Rattle.std.specs.Prelude.{◌≡◌, ℕ, true, List, ◌∷◌, Option, Some, Ok, All, Contains, IsTrue}
use Rattle.fidl_names.specs.HandleNumber.{is_client}
use Rattle.io_flags.specs.declared.names.Flag.TheVariants as flag
use Rattle.io_flags.specs.Grants.{asked_rights, write_set, execute_set}
use Rattle.io_flags.specs.Words.{has}
use Rattle.io_messages.specs.Asked as asks
use Rattle.io_messages.specs.declared.protocols.Protocol.TheVariants as protocol
use Rattle.io_rights.specs.Operations.{OperationSet, is_within}
use Rattle.vfs_journal.specs.Entries.{Sent, message}
use Rattle.vfs_journal.specs.History.{History, all_sent, births}
use Rattle.vfs_journal.specs.Serving.{read_by}
use Rattle.vfs_journal.specs.Starts.{Bound, Start}
use Rattle.session_laws.specs.Lineage.{ancestor_of, lineage_of, sent_from, trail_of}

-- rights lie within each of these sets
abbrev pub AreWithinEach : OperationSet → List OperationSet → Type 0
AreWithinEach rights members = All (λ member. IsTrue (is_within rights member)) members

-- a set has all that a word of flags can get: the rights that it asks for, and what each inherit flag adds that is set in it
pub record HasAllAsked (word : ℕ) (member : OperationSet) : Type 0 where
  pub asked : is_within (asked_rights word) member ≡ true
  pub write : has word flag.InheritWrite ≡ true → is_within write_set member ≡ true
  pub execute : has word flag.InheritExecute ≡ true → is_within execute_set member ≡ true

-- these sets begin with the rights of the first connection on an endpoint
pub record BeginsAt (start : Start) (ancestor : ℕ) (members : List OperationSet) : Type 0 where
  pub first : Bound
  pub there : Contains start.firsts first
  pub on : first.endpoint ≡ ancestor
  pub rest : List OperationSet
  pub is : members ≡ first.birth.rights ∷ rest

-- ---- at one time

-- the rights of each endpoint that is or was bound stand in its lineage, and lie within each member of it
abbrev pub RightsAreWithin : Start → History → Type 0
RightsAreWithin start history =
    (bound : Bound) → Contains (births start history) bound →
    Contains (lineage_of start history bound.endpoint) bound.birth.rights × AreWithinEach bound.birth.rights (lineage_of start history bound.endpoint)

-- the lineage of each client's endpoint begins at its ancestor, which is a first connection
abbrev pub LineagesBegin : Start → History → Type 0
LineagesBegin start history =
    (bound : Bound) → Contains (births start history) bound → is_client bound.endpoint ≡ true →
    BeginsAt start (ancestor_of history bound.endpoint) (lineage_of start history bound.endpoint)

-- so does the trail of each Open that came over a mount, at the first connection that it comes from
abbrev pub TrailsBegin : Start → History → Type 0
TrailsBegin start history =
    (sent : Sent) (origin : ℕ) → Contains (all_sent history) sent → sent.origin ≡ Some origin →
    BeginsAt start (sent_from history sent) (trail_of start history sent)

-- all that the flags of an Open can get which came over a mount lies within each member of its trail
abbrev pub FlagsAreWithin : Start → History → Type 0
FlagsAreWithin start history =
    (sent : Sent) (origin : ℕ) (bytes handles : List ℕ) (txid : ℕ) (path : List ℕ) (word : ℕ) (attributes : Option ℕ) (object : ℕ) →
    Contains (all_sent history) sent → sent.origin ≡ Some origin → sent.sending ≡ message bytes handles →
    read_by protocol.Directory bytes handles ≡ Ok (txid, asks.open_path path word attributes object) →
    All (HasAllAsked word) (trail_of start history sent)

-- ---- at each time `past` of a session, whatever came later

-- Who changes a tree has the authority to, all the way.
use Rattle.std.specs.Prelude.{◌≡◌, ◌≢◌, ℕ, ◌==◌, Contains, false, List, ◌++◌, find, Some}
use Rattle.io_messages.specs.Asked.{Asked}
use Rattle.io_messages.specs.Asked as asks
use Rattle.io_rights.specs.declared.operations.Operation.{Operation}
use Rattle.io_rights.specs.declared.operations.Operation.TheVariants as op
use Rattle.io_rights.specs.Operations.{OperationSet, has, single}
use Rattle.node_graph.specs.Tree.{Change, make, fill, stay}
use Rattle.conn_rules.specs.Walks.{masks_of}
use Rattle.vfs_journal.specs.Entries.{Sent, serves}
use Rattle.vfs_journal.specs.History.{History, births, bound_at}
use Rattle.vfs_journal.specs.Outcomes.{Given}
use Rattle.vfs_journal.specs.Past.{event_of}
use Rattle.vfs_journal.specs.Serving.{Moment, moment_of, outcome_of}
use Rattle.vfs_journal.specs.Starts.{Bound, Start}
use Rattle.vfs_journal.specs.Tokens.{all_given}
use Rattle.session_laws.specs.Lineage.{asked_by, lineage_given, lineage_of, lines_of, rights_bound, sent_from, trail_of, walk_at}
use Rattle.session_laws.specs.Rights.{AreWithinEach}

-- each of these sets has a right
abbrev pub EachHas : Operation → List OperationSet → Type 0
EachHas operation members = AreWithinEach (single operation) members

-- a token was given on an endpoint that is or was bound to the directory that it names, and of whose lineage each member has
-- MODIFY_DIRECTORY, its own rights among them
pub record IsGivenWithAuthority (start : Start) (history : History) (given : Given) : Type 0 where
  pub bound : Bound
  pub born : Contains (births start history) bound
  pub endpoint : bound.endpoint ≡ given.endpoint
  pub server : bound.server ≡ given.server
  pub node : bound.birth.node ≡ given.node
  pub allowed : EachHas op.ModifyDirectory (lineage_of start history given.endpoint)

-- a token with this number was given, with authority
pub record IsGivenWith (start : Start) (history : History) (token : ℕ) : Type 0 where
  pub given : Given
  pub first : find (λ given. given.token == token) (all_given history) ≡ Some given
  pub authority : IsGivenWithAuthority start history given

-- a request that makes this change, and what authority each has: to write or resize, each member of
-- the lineage, and so the connection itself and each on the way, has WRITE_BYTES; to take out, add or
-- move a name MODIFY_DIRECTORY, and so for the token that names where to; to make a node each member
-- of the trail and each mask of the walk has MODIFY_DIRECTORY; and to truncate each member of the
-- lineage of what is bound has WRITE_BYTES, its own rights among them
abbrev pub HasAuthority : Start → History → Sent → Moment → Asked → Change → Type 0
HasAuthority start past sent moment (asks.write bytes) change = EachHas op.WriteBytes (lineage_of start past sent.endpoint)
HasAuthority start past sent moment (asks.write_at bytes offset) change = EachHas op.WriteBytes (lineage_of start past sent.endpoint)
HasAuthority start past sent moment (asks.resize size) change = EachHas op.WriteBytes (lineage_of start past sent.endpoint)
HasAuthority start past sent moment (asks.unlink name flags) change = EachHas op.ModifyDirectory (lineage_of start past sent.endpoint)
HasAuthority start past sent moment (asks.link src token dst) change = EachHas op.ModifyDirectory (lineage_of start past sent.endpoint) × IsGivenWith start past token
HasAuthority start past sent moment (asks.rename src token dst) change = EachHas op.ModifyDirectory (lineage_of start past sent.endpoint) × IsGivenWith start past token
HasAuthority start past sent moment (asks.open_path path word attributes object) (make key row mask) =
    EachHas op.ModifyDirectory (trail_of start past sent) × EachHas op.ModifyDirectory (masks_of (walk_at moment path word))
HasAuthority start past sent moment (asks.open_path path word attributes object) (fill node bytes) =
    EachHas op.WriteBytes
    (lineage_given (lines_of start past) sent moment (asks.open_path path word attributes object)
    ++ rights_bound (event_of start past (serves sent)))
HasAuthority start past sent moment _ change = ⊥

-- the connection that served it read a request that has the authority
pub record IsAllowed (start : Start) (past : History) (sent : Sent) (change : Change) : Type 0 where
  pub bound : Bound
  pub at : bound_at start past sent.endpoint ≡ Some bound
  pub request : Asked
  pub asked : asked_by (moment_of start past bound) sent.sending ≡ Some request
  pub authority : HasAuthority start past sent (moment_of start past bound) request change

-- a first connection has neither of the rights that a change takes
pub record IsNarrow (first : Bound) : Type 0 where
  pub writes : has first.birth.rights op.WriteBytes ≡ false
  pub modifies : has first.birth.rights op.ModifyDirectory ≡ false

-- ---- of one serving

-- if it changes a tree, that is allowed
abbrev pub ChangeIsAllowed : Start → History → Sent → Type 0
ChangeIsAllowed start past sent = (outcome_of start past sent).change ≢ stay → IsAllowed start past sent (outcome_of start past sent).change

-- if what is served comes from a narrow first connection, it changes nothing: not on that connection, nor on what was opened or cloned from
-- it, nor through whatever went on behind mounts
abbrev pub NarrowChangesNothing : Start → History → Sent → Type 0
NarrowChangesNothing start past sent =
    (first : Bound) → Contains start.firsts first → sent_from past sent ≡ first.endpoint → IsNarrow first → (outcome_of start past sent).change ≡ stay

-- ---- at one time

-- each token that was given was given with authority
abbrev pub TokensHaveAuthority : Start → History → Type 0
TokensHaveAuthority start history = (given : Given) → Contains (all_given history) given → IsGivenWithAuthority start history given

-- ---- at each time `past` of a session, and of each serving, whatever came later

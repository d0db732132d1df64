-- What holds of each lawful journal from a start whose endpoints are apart.
use Rattle.std.specs.Prelude.{◌≡◌, ◌≢◌, ◌+◌, ◌++◌, AllPairs, ◌<◌, ◌≤◌, ◌==◌, ◌⊎◌, ℕ, true, false, List, [], ◌∷◌, All, Contains, count_by, length, map, slice_get, Some, None}
use Rattle.std.specs.List.{range_with_len}
use Rattle.fidl_names.specs.declared.limits.TheConstants as limit
use Rattle.io_messages.specs.declared.protocols.Protocol.TheVariants as protocol
use Rattle.node_graph.specs.declared.nodes.NodeKind.TheVariants.{Directory, Mount}
use Rattle.node_graph.specs.Tree.{IsSound, NodeRow, Tree, kind_of}
use Rattle.session_start.specs.Accepted.{AreAccepted, HasFilesOfBytes}
use Rattle.session_start.specs.Items.{Lists}
use Rattle.session_start.specs.Sound.{HasOneEdge}
use Rattle.link_frames.specs.declared.kinds.Mode.{Mode}
use Rattle.link_frames.specs.declared.kinds.Side.TheVariants.{ToServers}
use Rattle.link_frames.specs.Frames.{Frame, IsFrame}
use Rattle.fidl_names.specs.HandleNumber.{is_client, end_of_mount}
use Rattle.link_admission.specs.Numbering.{among}
use Rattle.vfs_journal.specs.Deaths.{deaths_of, others}
use Rattle.vfs_journal.specs.Entries.{Sent, Journal, message, serves, endpoints_in}
use Rattle.vfs_journal.specs.History.{History, births, all_sent, was_served, waiting, travelling, tree_at, is_bound, is_dead, is_used}
use Rattle.vfs_journal.specs.Lawful.{Lawful}
use Rattle.vfs_journal.specs.Outcomes.{Forwarded, Given}
use Rattle.vfs_journal.specs.Past.{history_of}
use Rattle.vfs_journal.specs.Serving.{outcome_of}
use Rattle.vfs_journal.specs.Session.{head, sent_behind, after_serving, weight, drained, session, ended}
use Rattle.vfs_journal.specs.Starts.{Bound, Start, start_of}
use Rattle.vfs_journal.specs.Tokens.{all_given}
use Rattle.journal_laws.specs.Contents.{HasBytes, HasNames}

-- ---- starts

abbrev pub mount_ends : Start → List ℕ
mount_ends start = map (λ bound. bound.endpoint) start.mounts

-- each mount among a tree's nodes has its end
abbrev pub HasEnd : Start → NodeRow → Type 0
HasEnd start row = (index : ℕ) → row.kind ≡ Mount index → Contains (mount_ends start) (end_of_mount index)

abbrev pub AreMounted : Start → Tree → Type 0
AreMounted start tree = All (HasEnd start) tree.nodes

abbrev pub OtherEndpoint : Bound → Bound → Type 0
OtherEndpoint one other = one.endpoint ≢ other.endpoint

-- it is a connection to a directory of one of these trees, and no watcher
pub record IsOnDirectory (trees : List Tree) (bound : Bound) : Type 0 where
  pub server : bound.server < length trees
  pub node : kind_of (tree_at trees bound.server) bound.birth.node ≡ Some Directory
  pub protocol : bound.birth.protocol ≡ protocol.Directory
  pub mask : bound.mask ≡ 0

-- the mount of an index is in one tree; one edge leads to it, with the rights of its end
pub record IsMountedOnce (trees : List Tree) (index : ℕ) (end : Bound) : Type 0 where
  pub host : ℕ
  pub edge : HasOneEdge (tree_at trees host) index end.birth.rights
  pub alone : (server node : ℕ) → kind_of (tree_at trees server) node ≡ Some (Mount index) → server ≡ host

-- so each mount
abbrev pub AreMountedOnce : Start → List Tree → Type 0
AreMountedOnce start trees = (index : ℕ) (end : Bound) → slice_get start.mounts index ≡ Some end → IsMountedOnce trees index end

-- the first connections and the ends of mounts at each server are no more than a server may have
abbrev pub HasRoom : Start → Type 0
HasRoom start = (server : ℕ) → count_by (λ bound. bound.server == server) (start.firsts ++ start.mounts) ≤ limit.MAX_CONNECTIONS

-- the trees are sound, and few, with a root and a node for each name at most; their names break no rule, and these and what is in files are
-- bytes; first connections are on clients' endpoints, and the ends of mounts on others, in the order of their numbers; no endpoint stands
-- twice, each is bound to a directory, and no server has more of them than it may; each mount has its end, and one edge
pub record IsStart (start : Start) : Type 0 where
  pub few : length start.trees ≤ limit.MAX_SERVERS
  pub trees : All IsSound start.trees
  pub names : All HasNames start.trees
  pub bytes : All HasBytes start.trees
  pub small : All (λ tree. length tree.nodes ≤ 1 + limit.MAX_NAMES) start.trees
  pub firsts : All (λ bound. is_client bound.endpoint ≡ true) start.firsts
  pub ends : All (λ bound. is_client bound.endpoint ≡ false) start.mounts
  pub numbered : mount_ends start ≡ map end_of_mount (range_with_len 0 (length start.mounts))
  pub apart : AllPairs OtherEndpoint (start.firsts ++ start.mounts)
  pub placed : All (IsOnDirectory start.trees) (start.firsts ++ start.mounts)
  pub mounted : All (AreMounted start) start.trees
  pub edges : AreMountedOnce start start.trees
  pub room : HasRoom start

-- ---- endpoints in transit

-- a waiting entry carries an endpoint
abbrev pub Carries : History → Sent → ℕ → Type 0
Carries history one endpoint = Contains (waiting history) one × (among endpoint (endpoints_in one) ≡ true)

-- an endpoint travels behind the one on which its carrier waits, and behind whatever that one travels behind
pub data TravelsBehind (history : History) : ℕ → ℕ → Type 0 where
  carried : (one : Sent) (endpoint : ℕ) → Carries history one endpoint → TravelsBehind history endpoint one.endpoint
  deeper : (one : Sent) (endpoint other : ℕ) → Carries history one endpoint → TravelsBehind history one.endpoint other → TravelsBehind history endpoint other

-- an endpoint in transit is carried once, by one waiting entry, and is neither bound nor dead; each waiting entry's endpoint is bound or in
-- transit; none travels behind itself; an Open that went on waits on the end of a mount; and what else carries an endpoint was sent before
-- what waits on that
pub record AreInTransit (start : Start) (history : History) : Type 0 where
  pub once : (one other : Sent) (endpoint : ℕ) → Carries history one endpoint → Carries history other endpoint → one ≡ other
  pub unbound : (one : Sent) (endpoint : ℕ) → Carries history one endpoint → is_bound start history endpoint ≡ false
  pub alive : (one : Sent) (endpoint : ℕ) → Carries history one endpoint → is_dead history endpoint ≡ false
  pub reached : (one : Sent) → Contains (waiting history) one → (is_bound start history one.endpoint ≡ true) ⊎ (among one.endpoint (travelling history) ≡ true)
  pub apart : AllPairs (λ one other. one ≢ other) (travelling history)
  pub acyclic : (endpoint : ℕ) → TravelsBehind history endpoint endpoint → ⊥
  pub onward : (one : Sent) (origin : ℕ) → Contains (waiting history) one → one.origin ≡ Some origin → Contains (mount_ends start) one.endpoint
  pub before : (one other : Sent) → Carries history one other.endpoint → Contains (waiting history) other → one.origin ≡ None → one.place < other.place

-- what is dead or bound was known: a first connection, or a number that a message carried, or an end of a mount, and these live; no
-- endpoint is born twice; tokens are numbers of their own
pub record AreKnown (start : Start) (history : History) : Type 0 where
  pub dead : (endpoint : ℕ) → is_dead history endpoint ≡ true → (is_client endpoint ≡ true) × (is_used start history endpoint ≡ true)
  pub bound : (endpoint : ℕ) → is_bound start history endpoint ≡ true →
      Contains (mount_ends start) endpoint ⊎ ((is_client endpoint ≡ true) × (is_used start history endpoint ≡ true))
  pub ends : (endpoint : ℕ) → Contains (mount_ends start) endpoint → (is_dead history endpoint ≡ false) × (is_bound start history endpoint ≡ true)
  pub apart : AllPairs OtherEndpoint (births start history)
  pub tokens : (given : Given) → Contains (all_given history) given → limit.FIRST_TOKEN ≤ given.token

-- ---- deaths

-- what waits on an endpoint that dies, but for what is served, carries endpoints that die
abbrev pub DieTogether : History → Sent → List ℕ → Type 0
DieTogether history sent deaths =
    (other : Sent) (endpoint : ℕ) → Contains (others history sent) other → among other.endpoint deaths ≡ true → among endpoint (endpoints_in other) ≡ true → among endpoint deaths ≡ true

-- ---- laws

abbrev pub EndpointsAreKnown : Type 0
EndpointsAreKnown = (start : Start) (journal : Journal) → IsStart start → Lawful start journal → AreKnown start (history_of start journal)

-- the one pass over what waits reaches each endpoint that dies
abbrev pub DeathsReachAll : Type 0
DeathsReachAll =
    (start : Start) (journal : Journal) (sent : Sent) → IsStart start → Lawful start journal → head start (history_of start journal) sent.endpoint ≡ Some sent →
    DieTogether (history_of start journal) sent (deaths_of (history_of start journal) sent (outcome_of start (history_of start journal) sent))

-- each serving lowers the sum of the weights of what waits
abbrev pub ServingsLowerTheWeight : Type 0
ServingsLowerTheWeight =
    (start : Start) (journal : Journal) (sent : Sent) → IsStart start → Lawful start journal → head start (history_of start journal) sent.endpoint ≡ Some sent →
    weight (history_of start (after_serving start journal sent)) < weight (history_of start journal)

-- nothing waits: whatever was sent was served, or its endpoint is dead
pub record IsDrained (history : History) : Type 0 where
  pub none : waiting history ≡ []
  pub each : (sent : Sent) → Contains (all_sent history) sent → (was_served history sent ≡ true) ⊎ (is_dead history sent.endpoint ≡ true)

-- a drain leaves nothing that waits
abbrev pub DrainsServeAll : Type 0
DrainsServeAll =
    (start : Start) (journal : Journal) → IsStart start → Lawful start journal →
    Lawful start (drained start journal) × IsDrained (history_of start (drained start journal))

-- the journal that frames make is lawful, in either mode
abbrev pub SessionsAreLawful : Type 0
SessionsAreLawful =
    (start : Start) (by : Mode) (frames : List Frame) → All (IsFrame ToServers) frames → Lawful start (session start by frames) × Lawful start (ended start by frames)

-- and after the last drain nothing waits
abbrev pub SessionsServeAll : Type 0
SessionsServeAll =
    (start : Start) (by : Mode) (frames : List Frame) → IsStart start → All (IsFrame ToServers) frames → IsDrained (history_of start (ended start by frames))

-- the start of each accepted tree whose files are bytes
abbrev pub AcceptedStartsAreStarts : Type 0
AcceptedStartsAreStarts = (lists : Lists) → AreAccepted lists → HasFilesOfBytes lists → IsStart (start_of lists)

-- no more entries wait than may
abbrev pub FewWait : Type 0
FewWait = (start : Start) (journal : Journal) → Lawful start journal → length (waiting (history_of start journal)) ≤ limit.MAX_WAITING

-- what goes on behind a mount waits behind all others
abbrev pub WhatGoesOnWaits : Type 0
WhatGoesOnWaits =
    (start : Start) (journal : Journal) (sent : Sent) (forward : Forwarded) → IsStart start → Lawful start journal → head start (history_of start journal) sent.endpoint ≡ Some sent →
    (outcome_of start (history_of start journal) sent).forward ≡ Some forward →
    waiting (history_of start (after_serving start journal sent))
    ≡ waiting (history_of start (serves sent ∷ journal))
    ++ sent_behind (serves sent ∷ journal) forward.endpoint (message forward.bytes (forward.object ∷ [])) (Some sent.place) ∷ []

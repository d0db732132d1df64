-- The rules of a tree on its lists, and the first that they break.
use Rattle.std.specs.Prelude.{ℕ, ◌+◌, Bool, false, ◌&&◌, ◌||◌, ◌==◌, nat_le, if◌then◌else◌, List, [], ◌∷◌, ◌++◌, length, map, count_by, find, Option, Some, None, is_none, unwrap_or}
use Rattle.std.specs.Option.{option_map}
use Rattle.std.specs.Str.{bytes_eq}
use Rattle.fidl_names.specs.First.{first_of}
use Rattle.fidl_names.specs.declared.limits.TheConstants as limit
use Rattle.node_graph.specs.Refusals as graph
use Rattle.path_walk.specs.Parts.{is_dot, parent_of}
use Rattle.session_start.specs.Items.{NodeItem, MountItem, ClientItem, Lists}

-- the place of the first item that fails a test, each tried with those before it
unfoldable pub first_failing : {X : Type 0} → (List X → X → Bool) → List X → List X → Option ℕ
first_failing passes earlier [] = None
first_failing passes earlier (x ∷ xs) = if passes earlier x then first_failing passes (earlier ++ x ∷ []) xs else Some (length earlier)

-- the place of a node or a mount: a path of a server, and whether a directory stands there
pub record Place : Type 0 where
  pub server : ℕ
  pub path : List ℕ
  pub directory : Bool

abbrev pub node_place : NodeItem → Place
node_place node = record { server = node.server; path = node.path; directory = graph.is_directory node.kind }

-- a mount is no directory
abbrev pub mount_place : MountItem → Place
mount_place mount = record { server = mount.server; path = mount.path; directory = false }

abbrev pub is_at_place : ℕ → List ℕ → Place → Bool
is_at_place server path place = (place.server == server) && bytes_eq place.path path

-- whether what stands at a path of a server is a directory; none where nothing stands there
unfoldable pub found_among : List Place → ℕ → List ℕ → Option Bool
found_among places server path = option_map (λ place. place.directory) (find (is_at_place server path) places)

-- the path is `.` or that of a directory
unfoldable pub is_directory : List Place → ℕ → List ℕ → Bool
is_directory places server path = is_dot path || unwrap_or (found_among places server path) false

-- nothing stands at the path yet, and its parent is a directory
abbrev pub fits_in : List Place → ℕ → List ℕ → Bool
fits_in places server path = is_directory places server (parent_of path) && is_none (found_among places server path)

-- a node among those before it
abbrev pub node_fits : List NodeItem → NodeItem → Bool
node_fits earlier node = fits_in (map node_place earlier) node.server node.path

-- a mount among all nodes and the mounts before it
abbrev pub mount_fits : List NodeItem → List MountItem → MountItem → Bool
mount_fits nodes earlier mount =
    let places = map node_place nodes ++ map mount_place earlier in
    fits_in places mount.server mount.path && is_directory places mount.target mount.at

-- a client at a directory
abbrev pub client_fits : List Place → List ClientItem → ClientItem → Bool
client_fits places earlier client = is_directory places client.server client.path

abbrev pub bytes_fit : List NodeItem → NodeItem → Bool
bytes_fit earlier node = nat_le (length node.bytes) limit.MAX_FILE

-- how many nodes and mounts a server has, and how many connections at the start
abbrev pub names_held : List NodeItem → List MountItem → ℕ → ℕ
names_held nodes mounts server = count_by (λ node. node.server == server) nodes + count_by (λ mount. mount.server == server) mounts

abbrev pub connections_held : List MountItem → List ClientItem → ℕ → ℕ
connections_held mounts clients server = count_by (λ client. client.server == server) clients + count_by (λ mount. mount.target == server) mounts

-- a server's index is the number of those before it
abbrev pub names_fit : List NodeItem → List MountItem → List (List ℕ) → List ℕ → Bool
names_fit nodes mounts earlier name = nat_le (names_held nodes mounts (length earlier)) limit.MAX_NAMES

abbrev pub connections_fit : List MountItem → List ClientItem → List (List ℕ) → List ℕ → Bool
connections_fit mounts clients earlier name = nat_le (connections_held mounts clients (length earlier)) limit.MAX_CONNECTIONS

-- rules 8 to 10: of the paths of nodes, mounts and clients; 11: of files; 12 and 13: of each server
abbrev pub rule_8 : Lists → Option ℕ
rule_8 lists = first_failing node_fits [] lists.nodes

abbrev pub rule_9 : Lists → Option ℕ
rule_9 lists = first_failing (mount_fits lists.nodes) [] lists.mounts

abbrev pub rule_10 : Lists → Option ℕ
rule_10 lists = first_failing (client_fits (map node_place lists.nodes ++ map mount_place lists.mounts)) [] lists.clients

abbrev pub rule_11 : Lists → Option ℕ
rule_11 lists = first_failing bytes_fit [] lists.nodes

abbrev pub rule_12 : Lists → Option ℕ
rule_12 lists = first_failing (names_fit lists.nodes lists.mounts) [] lists.servers

abbrev pub rule_13 : Lists → Option ℕ
rule_13 lists = first_failing (connections_fit lists.mounts lists.clients) [] lists.servers

-- rules that follow one another, each with its number where it is broken
abbrev pub numbered : ℕ → List (Option ℕ) → List (Option (ℕ × ℕ))
numbered rule [] = []
numbered rule (found ∷ rules) = option_map (λ item. (rule, item)) found ∷ numbered (rule + 1) rules

-- the first of these rules that is broken, with its first failing item
abbrev pub first_broken : ℕ → List (Option ℕ) → Option (ℕ × ℕ)
first_broken rule rules = first_of (numbered rule rules)

abbrev pub rules_on_places : Lists → List (Option ℕ)
rules_on_places lists = rule_8 lists ∷ rule_9 lists ∷ rule_10 lists ∷ []

abbrev pub rules_on_counts : Lists → List (Option ℕ)
rules_on_counts lists = rule_11 lists ∷ rule_12 lists ∷ rule_13 lists ∷ []

abbrev pub rules_on_lists : Lists → List (Option ℕ)
rules_on_lists lists = rules_on_places lists ++ rules_on_counts lists

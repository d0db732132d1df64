-- Acts that are done on a connection: an endpoint is bound or watches where the server has room, a token is given on a directory's
-- connection, and watchers are told of names.
use Rattle.std.proofs.Common.{◌≡◌, ◌∙◌, ℕ, ◌||◌, Bool, true, false, is_some, not, nat_le, nat_lt, List, [], ◌∷◌, All, Option, Some, None, unwrap_or, refl, sym, ap, rules}
use Rattle.std.specs.Option.{option_map, option_map_or}
use Rattle.std.specs.Prelude.{if◌then◌else◌}
use Rattle.std.proofs.lemmas.Bool.{or_parts}
use Rattle.std.proofs.lemmas.List.Elements.{All-cons, All-nil}
use Rattle.fidl_names.specs.declared.limits.TheConstants as limit
use Rattle.fidl_names.specs.declared.methods.Method.{Method}
use Rattle.fidl_names.specs.declared.methods.Method.TheVariants as method
use Rattle.fidl_names.specs.declared.statuses.Status.{Status}
use Rattle.fidl_names.specs.declared.statuses.Status.TheVariants as status
use Rattle.fidl_names.specs.First.{cause_if, first_of}
use Rattle.fidl_names.proofs.FirstLaws.{cause_if-none, first_of-none}
use Rattle.io_flags.specs.Faults.{flag_fault, status_of}
use Rattle.io_messages.specs.Asked.{Asked, method_of}
use Rattle.io_messages.specs.Asked as asks
use Rattle.io_messages.specs.Failing.{failing_of}
use Rattle.io_messages.specs.declared.failing.Failing.{Failing}
use Rattle.io_messages.specs.declared.failing.Failing.TheVariants as failing
use Rattle.io_messages.specs.declared.protocols.Home.{Home}
use Rattle.io_messages.specs.declared.protocols.Home.TheVariants as homes
use Rattle.io_messages.specs.declared.protocols.Protocol.{Protocol}
use Rattle.io_messages.specs.declared.protocols.Protocol.TheVariants as protocol
use Rattle.io_messages.specs.Protocols.{has, has_method, home_of}
use Rattle.io_messages.specs.Replies.{token}
use Rattle.node_graph.specs.declared.nodes.NodeKind.{NodeKind}
use Rattle.node_graph.specs.declared.nodes.NodeKind.TheVariants.{Directory, File, Service, Mount}
use Rattle.node_graph.specs.Graph.{Kept, number_of, kind_at, link_refusal, rename_refusal, resize_refusal}
use Rattle.node_graph.specs.Refusals.{directory_behind, is_same_name}
use Rattle.node_graph.specs.Tree.{Change, EdgeKey, Tree, kind_of, stay}
use Rattle.path_walk.specs.Names.{name_fault}
use Rattle.path_walk.specs.Names as names
use Rattle.path_walk.specs.Paths.{names_of, path_fault}
use Rattle.path_walk.proofs.PartLemmas.{name_short}
use Rattle.path_walk.proofs.PathLemmas.{path_sound}
use Rattle.conn_rules.specs.declared.births.Room.{Room}
use Rattle.conn_rules.specs.Acts.{act_of, is_beyond, is_of_every_node, method_refusals, row_act}
use Rattle.conn_rules.specs.Answers.{Answer, replies, binds, watches, forwards, Act, added, deleted, failure_by, failure_of, gone, nothing_told, only, removed}
use Rattle.conn_rules.specs.Births.{Birth, Connection, Position, born}
use Rattle.conn_rules.specs.Contexts.{context_of, context_with}
use Rattle.conn_rules.specs.FileRows.{is_no_position, is_too_much, reading_refusal, seek_sum, write_start, writing_refusal}
use Rattle.dirents.specs.Listings.{fits_none}
use Rattle.conn_rules.specs.Listings.{listing_here}
use Rattle.conn_rules.specs.NameRows.{is_bad_name, link_into, name_in, rename_into, rename_told, token_answer, two_names_refusal, unlink_act, unlink_refusals, watch_act, watch_refusals}
use Rattle.conn_rules.specs.Nodes.{is_mount, kind_here}
use Rattle.conn_rules.specs.Opens.{arrival, arrival_refusals, by_walk, entry_refusals, is_full, making, making_refusals, open_act}
use Rattle.conn_rules.specs.Refusals.{as_status, unless}
use Rattle.conn_rules.specs.Shared.{CanBeBound, is_spoken_at}
use Rattle.conn_rules.specs.Walks.{Walk, arrives, missing, crosses, stops, walk, limit_of}
use Rattle.vfs_server.specs.Serving.{HasMount}
use Rattle.node_graph.specs.Tree.{HasNameLength}
use Rattle.vfs_server.specs.Telling.{IsShort}
use Rattle.vfs_server.proofs.Walking.{IsNoMount, LeadsWell, walk_none}

-- ---- acts

-- a directory can be watched: there is room for it, and its tree stays as it is
pub record CanBeWatched (p : Protocol) (in_use : Room) (change : Change) : Type 0 where
  pub directory : p ≡ protocol.Directory
  pub few : nat_le limit.MAX_WATCHERS in_use.watchers ≡ false
  pub room : is_full in_use ≡ false
  pub still : change ≡ stay

-- an answer that is given on a connection with this protocol, with so much in use, over this tree, and with this change of it
abbrev pub CanAnswer : Protocol → Room → Tree → Change → Answer → Type 0
CanAnswer p room tree change (replies (token number)) = (p ≡ protocol.Directory) × (room.token ≡ Some number)
CanAnswer p room tree change (binds birth announced) = is_full room ≡ false
CanAnswer p room tree change (watches mask) = CanBeWatched p room change
CanAnswer p room tree change (forwards mount flags rest) = HasMount tree mount
CanAnswer p room tree change _ = Unit {0}

-- an act that is done on it; watchers are told of names
pub record CanAct (p : Protocol) (room : Room) (tree : Tree) (act : Act) : Type 0 where
  pub answer : CanAnswer p room tree act.change act.answer
  pub told : All IsShort act.told

-- ---- refusals

form_acts : (p : Protocol) (room : Room) (tree : Tree) (form : Failing) (m : Method) (status : Status) → CanAnswer p room tree stay (failure_by form m status)
form_acts p room tree failing.Reply m status = tt
form_acts p room tree failing.Epitaph m status = tt
form_acts p room tree failing.Never m status = tt

failure_acts : (p : Protocol) (room : Room) (tree : Tree) (position : Position) (m : Method) (status : Status) → CanAct p room tree (only position (failure_of m status))
failure_acts p room tree position m status = record { answer = form_acts p room tree (failing_of m) m status; told = All-nil IsShort }

unless_acts : (p : Protocol) (room : Room) (tree : Tree) (o : Option Status) (position : Position) (m : Method) (act : Act) → (o ≡ None → CanAct p room tree act) → CanAct p room tree (unless o position m act)
unless_acts p room tree (Some status) position m act h = failure_acts p room tree position m status
unless_acts p room tree None position m act h = h refl

-- where no cause holds, the last one doesn't
abbrev last_cause : List (Option Status) → Option Status
last_cause [] = None
last_cause (o ∷ []) = o
last_cause (o ∷ p ∷ os) = last_cause (p ∷ os)

last_none : (os : List (Option Status)) → first_of os ≡ None → last_cause os ≡ None
last_none [] e = refl
last_none (None ∷ []) e = refl
last_none (Some s ∷ []) e = absurd (cc)
last_none (None ∷ p ∷ os) e = last_none (p ∷ os) e
last_none (Some s ∷ p ∷ os) e = absurd (cc)

has_room : (room : Room) (os : List (Option Status)) → last_cause os ≡ cause_if (is_full room) status.NoResources → first_of os ≡ None → is_full room ≡ false
has_room room os last e = cause_if-none (is_full room) status.NoResources (sym last ∙ last_none os e)

-- a method that isn't refused is no other protocol's
method_at_home : (birth : Birth) (method : Method) → first_of (method_refusals birth method) ≡ None → is_beyond birth.protocol method ≡ false
method_at_home birth method none = first_absent (is_beyond birth.protocol method) status.BadHandle _ none where
  first_absent : (c : Bool) (status : Status) (rest : List (Option Status)) → first_of (cause_if c status ∷ rest) ≡ None → c ≡ false
  first_absent true status rest e = search rules
  first_absent false status rest e = refl

-- ---- Open

walk_acts : (birth : Birth) (position : Position) (room : Room) (tree : Tree) (directory : ℕ → Option ℕ) (word : ℕ) (w : Walk) →
    LeadsWell tree w → CanAct birth.protocol room tree (by_walk (context_with birth position room tree directory) word w)
walk_acts birth position room tree directory word (arrives node masks) at =
    unless_acts birth.protocol room tree (first_of (arrival_refusals room word (kind_here tree node))) position method.OpenPath
    (arrival position word (limit_of birth.rights masks) node (kind_here tree node))
    (λ none. record { answer = has_room room (arrival_refusals room word (kind_here tree node)) refl none; told = All-nil IsShort })
walk_acts birth position room tree directory word (missing parent name masks) at =
    unless_acts birth.protocol room tree (first_of (making_refusals tree room word (name_in parent name))) position method.OpenPath
    (making position tree word (limit_of birth.rights masks) (name_in parent name))
    (λ none. record {
      answer = has_room room (making_refusals tree room word (name_in parent name)) refl none;
      told = All-cons IsShort (added (name_in parent name)) [] (name_short name at) (All-nil IsShort);
    })
walk_acts birth position room tree directory word (crosses mount rest masks) at = record { answer = at; told = All-nil IsShort }
walk_acts birth position room tree directory word (stops status) at = failure_acts birth.protocol room tree position method.OpenPath status

no_fault : {A : Type 0} (o : Option A) → is_some o ≡ false → o ≡ None
no_fault None e = refl
no_fault (Some fault) e = absurd (cc)

-- a path that isn't refused has names
names_valid : (birth : Birth) (word : ℕ) (path : List ℕ) → first_of (entry_refusals birth word path) ≡ None → All names.IsName (names_of path)
names_valid birth word path none =
    let behind_flags = first_of-none (option_map status_of (flag_fault word)) _ none in
    let here = first_of-none (cause_if (is_some (path_fault path)) status.InvalidArgs) _ behind_flags.1 in
    (path_sound path (no_fault (path_fault path) (cause_if-none (is_some (path_fault path)) status.InvalidArgs here.0))).valid

open_acts : (birth : Birth) (position : Position) (room : Room) (tree : Tree) (directory : ℕ → Option ℕ) (path : List ℕ) (word : ℕ) →
    IsNoMount tree birth.node → CanAct birth.protocol room tree (open_act (context_with birth position room tree directory) path word)
open_acts birth position room tree directory path word here =
    unless_acts birth.protocol room tree (first_of (entry_refusals birth word path)) position method.OpenPath
    (by_walk (context_with birth position room tree directory) word (walk tree word (names_of path) birth.node))
    (λ none.
    walk_acts birth position room tree directory word (walk tree word (names_of path) birth.node)
    (walk_none tree word (names_of path) birth.node here (names_valid birth word path none)))

-- ---- tokens and watchers

-- a method of directories alone
module _ (m : Method) (home : home_of m ≡ homes.Directories) where
  directory_protocol : (p : Protocol) → has_method p m ≡ true → is_beyond p m ≡ false → p ≡ protocol.Directory
  directory_protocol protocol.Directory known here = refl
  directory_protocol protocol.File known here = absurd (let wrong : false ≡ true = sym (ap (has protocol.File) home) ∙ known in cc)
  directory_protocol protocol.Node known here = absurd (let wrong : true ≡ false = sym (ap (λ (h : Home). not (is_of_every_node h)) home) ∙ here in cc)
  directory_protocol protocol.Echo known here = absurd (let wrong : false ≡ true = sym (ap (has protocol.Echo) home) ∙ known in cc)
  directory_protocol protocol.Watcher known here = absurd (let wrong : false ≡ true = sym (ap (has protocol.Watcher) home) ∙ known in cc)

token_acts : (p : Protocol) (room : Room) (tree : Tree) (position : Position) → p ≡ protocol.Directory → CanAct p room tree (only position (token_answer room.token))
token_acts p room tree position is = by_next room.token refl where
  by_next : (next : Option ℕ) → room.token ≡ next → CanAct p room tree (only position (token_answer next))
  by_next None same = record { answer = tt; told = All-nil IsShort }
  by_next (Some number) same = record { answer = (is, same); told = All-nil IsShort }

watch_acts : (birth : Birth) (position : Position) (room : Room) (tree : Tree) (directory : ℕ → Option ℕ) (mask options : ℕ) → birth.protocol ≡ protocol.Directory →
    CanAct birth.protocol room tree (watch_act (context_with birth position room tree directory) mask options)
watch_acts birth position room tree directory mask options is =
    unless_acts birth.protocol room tree (first_of (watch_refusals room mask options)) position method.Watch (only position (watches mask))
    (λ none.
    let full = or_parts (nat_le limit.MAX_WATCHERS room.watchers) (is_full room) (cause_if-none _ status.NoResources (last_none (watch_refusals room mask options) none)) in
    record { answer = record { directory = is; few = full.0; room = full.1; still = refl }; told = All-nil IsShort })

-- ---- names

good_name : (name : List ℕ) → is_bad_name name ≡ false → HasNameLength name
good_name name good = name_short name (no_fault (name_fault name) good)

-- both names are good where they aren't refused
good_names : (src dst : List ℕ) (target : Option ℕ) → two_names_refusal src dst target ≡ None → HasNameLength src × HasNameLength dst
good_names src dst target none =
    let here = first_of-none (cause_if (is_bad_name src || is_bad_name dst) status.InvalidArgs) _ none in
    let good = or_parts (is_bad_name src) (is_bad_name dst) (cause_if-none (is_bad_name src || is_bad_name dst) status.InvalidArgs here.0) in
    (good_name src good.0, good_name dst good.1)

gone_short : (o : Option ℕ) → All IsShort (gone o)
gone_short None = All-nil IsShort
gone_short (Some directory) = All-cons IsShort (deleted directory) [] tt (All-nil IsShort)

link_acts : (birth : Birth) (position : Position) (room : Room) (tree : Tree) (directory : ℕ → Option ℕ) (src dst : List ℕ) (target : Option ℕ) → HasNameLength dst →
    CanAct birth.protocol room tree (link_into (context_with birth position room tree directory) src dst target)
link_acts birth position room tree directory src dst None good = failure_acts birth.protocol room tree position method.Link status.NotFound
link_acts birth position room tree directory src dst (Some target) good =
    unless_acts birth.protocol room tree (as_status (link_refusal tree (name_in birth.node src) (name_in target dst))) position method.Link _
    (λ none. record { answer = tt; told = All-cons IsShort (added (name_in target dst)) [] good (All-nil IsShort) })

rename_short : (tree : Tree) (from to : EdgeKey) → HasNameLength from.name → HasNameLength to.name → All IsShort (rename_told tree from to)
rename_short tree from to good_from good_to = by_test (is_same_name from to) where
  by_test : (b : Bool) → All IsShort (if b then nothing_told else removed from ∷ added to ∷ gone (directory_behind tree to))
  by_test true = All-nil IsShort
  by_test false =
      All-cons IsShort (removed from) (added to ∷ gone (directory_behind tree to)) good_from
      (All-cons IsShort (added to) (gone (directory_behind tree to)) good_to (gone_short (directory_behind tree to)))

rename_acts : (birth : Birth) (position : Position) (room : Room) (tree : Tree) (directory : ℕ → Option ℕ) (src dst : List ℕ) (target : Option ℕ) → HasNameLength src → HasNameLength dst →
    CanAct birth.protocol room tree (rename_into (context_with birth position room tree directory) src dst target)
rename_acts birth position room tree directory src dst None good_src good_dst = failure_acts birth.protocol room tree position method.Rename status.NotFound
rename_acts birth position room tree directory src dst (Some target) good_src good_dst =
    unless_acts birth.protocol room tree (as_status (rename_refusal tree (name_in birth.node src) (name_in target dst))) position method.Rename _
    (λ none. record { answer = tt; told = rename_short tree (name_in birth.node src) (name_in target dst) good_src good_dst })

unlink_acts : (birth : Birth) (position : Position) (room : Room) (tree : Tree) (directory : ℕ → Option ℕ) (name : List ℕ) (flags : ℕ) →
    CanAct birth.protocol room tree (unlink_act (context_with birth position room tree directory) name flags)
unlink_acts birth position room tree directory name flags =
    unless_acts birth.protocol room tree (first_of (unlink_refusals tree (name_in birth.node name) flags)) position method.Unlink _
    (λ none.
    let here = first_of-none (cause_if (is_bad_name name || nat_lt 1 flags) status.InvalidArgs) _ none in
    let good = or_parts (is_bad_name name) (nat_lt 1 flags) (cause_if-none (is_bad_name name || nat_lt 1 flags) status.InvalidArgs here.0) in
    record {
      answer = tt;
      told = All-cons IsShort (removed (name_in birth.node name)) (gone (directory_behind tree (name_in birth.node name))) (good_name name good.0) (gone_short (directory_behind tree (name_in birth.node name)));
    })

-- ---- all rows

row_acts : (birth : Birth) (position : Position) (room : Room) (tree : Tree) (directory : ℕ → Option ℕ) (request : Asked) →
    IsNoMount tree birth.node → has_method birth.protocol (method_of request) ≡ true → is_beyond birth.protocol (method_of request) ≡ false →
    CanAct birth.protocol room tree (row_act (context_with birth position room tree directory) request)
row_acts birth position room tree directory (asks.clone endpoint) here known mine =
    unless_acts birth.protocol room tree (first_of (cause_if (is_full room) status.NoResources ∷ [])) position method.Clone (only position (binds birth false))
    (λ none. record { answer = has_room room (cause_if (is_full room) status.NoResources ∷ []) refl none; told = All-nil IsShort })
row_acts birth position room tree directory (asks.open_path path flags options object) here known mine = open_acts birth position room tree directory path flags here
row_acts birth position room tree directory (asks.read_dirents most) here known mine =
    unless_acts birth.protocol room tree
    (first_of
    (cause_if (is_too_much most) status.InvalidArgs
    ∷ cause_if (fits_none (listing_here (context_with birth position room tree directory)) most) status.BufferTooSmall
    ∷ []))
    position method.ReadDirents _ (λ none. record { answer = tt; told = All-nil IsShort })
row_acts birth position room tree directory asks.get_token here known mine = token_acts birth.protocol room tree position (directory_protocol method.GetToken refl birth.protocol known mine)
row_acts birth position room tree directory (asks.rename src number dst) here known mine =
    unless_acts birth.protocol room tree (two_names_refusal src dst (directory number)) position method.Rename
    (rename_into (context_with birth position room tree directory) src dst (directory number))
    (λ none. let good = good_names src dst (directory number) none in rename_acts birth position room tree directory src dst (directory number) good.0 good.1)
row_acts birth position room tree directory (asks.link src number dst) here known mine =
    unless_acts birth.protocol room tree (two_names_refusal src dst (directory number)) position method.Link
    (link_into (context_with birth position room tree directory) src dst (directory number))
    (λ none. link_acts birth position room tree directory src dst (directory number) (good_names src dst (directory number) none).1)
row_acts birth position room tree directory (asks.unlink name flags) here known mine = unlink_acts birth position room tree directory name flags
row_acts birth position room tree directory (asks.watch mask options watcher) here known mine =
    watch_acts birth position room tree directory mask options (directory_protocol method.Watch refl birth.protocol known mine)
row_acts birth position room tree directory (asks.read count) here known mine =
    unless_acts birth.protocol room tree (reading_refusal count) position method.Read _ (λ none. record { answer = tt; told = All-nil IsShort })
row_acts birth position room tree directory (asks.read_at count offset) here known mine =
    unless_acts birth.protocol room tree (reading_refusal count) position method.ReadAt _ (λ none. record { answer = tt; told = All-nil IsShort })
row_acts birth position room tree directory (asks.write bytes) here known mine =
    unless_acts birth.protocol room tree (writing_refusal (write_start (context_with birth position room tree directory)) bytes) position method.Write _ (λ none. record { answer = tt; told = All-nil IsShort })
row_acts birth position room tree directory (asks.write_at bytes offset) here known mine =
    unless_acts birth.protocol room tree (writing_refusal offset bytes) position method.WriteAt _ (λ none. record { answer = tt; told = All-nil IsShort })
row_acts birth position room tree directory (asks.seek origin offset) here known mine =
    unless_acts birth.protocol room tree
    (first_of
    (cause_if (nat_lt 2 origin) status.InvalidArgs
    ∷ cause_if (is_no_position (seek_sum (context_with birth position room tree directory) origin offset)) status.OutOfRange
    ∷ []))
    position method.Seek _ (λ none. record { answer = tt; told = All-nil IsShort })
row_acts birth position room tree directory (asks.resize size) here known mine =
    unless_acts birth.protocol room tree (as_status (resize_refusal size)) position method.Resize _ (λ none. record { answer = tt; told = All-nil IsShort })
row_acts birth position room tree directory _ here known mine = record { answer = tt; told = All-nil IsShort }

act_acts : (birth : Birth) (position : Position) (room : Room) (tree : Tree) (directory : ℕ → Option ℕ) (request : Asked) →
    IsNoMount tree birth.node → has_method birth.protocol (method_of request) ≡ true → CanAct birth.protocol room tree (act_of (context_with birth position room tree directory) request)
unfolding act_of
act_acts birth position room tree directory request here known =
    unless_acts birth.protocol room tree (first_of (method_refusals birth (method_of request))) position (method_of request)
    (row_act (context_with birth position room tree directory) request)
    (λ none. row_acts birth position room tree directory request here known (method_at_home birth (method_of request) none))

-- ---- what is connected to is no mount

at_no_mount : (p : Protocol) (index : ℕ) → is_spoken_at p (Mount index) ≡ true → ⊥
at_no_mount protocol.Directory index spoken = search rules
at_no_mount protocol.File index spoken = search rules
at_no_mount protocol.Node index spoken = search rules
at_no_mount protocol.Echo index spoken = search rules
at_no_mount protocol.Watcher index spoken = search rules

spoken_kind : (p : Protocol) (kind : Option NodeKind) → option_map_or (is_spoken_at p) kind false ≡ true → is_mount (unwrap_or kind Directory) ≡ false
spoken_kind p None spoken = refl
spoken_kind p (Some Directory) spoken = refl
spoken_kind p (Some File) spoken = refl
spoken_kind p (Some Service) spoken = refl
spoken_kind p (Some (Mount index)) spoken = absurd (at_no_mount p index spoken)

-- what a connection to a node that the graph keeps does today
pub conn_acts : (graph : Kept) (tree : Tree) (connection : Connection) (room : Room) (directory : ℕ → Option ℕ) (request : Asked) → CanBeBound graph connection.birth →
    has_method connection.birth.protocol (method_of request) ≡ true → kind_of tree (number_of connection.birth.node) ≡ kind_at graph (number_of connection.birth.node) →
    CanAct connection.birth.protocol room tree (act_of (context_of connection room tree directory) request)
conn_acts graph tree connection room directory request can known kind =
    act_acts (born connection.birth) connection.position room tree directory request
    (rw kind (spoken_kind connection.birth.protocol (kind_at graph (number_of connection.birth.node)) can.spoken)) known

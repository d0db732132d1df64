-- What acts bind stands on a node, and the changes that they make are orderly.
use Rattle.std.proofs.Common.{◌≡◌, ℕ, ◌==◌, ◌||◌, Bool, true, false, not, nat_lt, is_some, is_none, unwrap_or, if◌then◌else◌, List, [], ◌∷◌, map, Option, Some, None, Ok, Err, refl, sym, ap, ◌∙◌, subst}
use Rattle.std.specs.Option.{option_map, option_map_or}
use Rattle.std.proofs.lemmas.Bool.{true≢false}
use Rattle.fidl_names.specs.First.{cause_if, first_of}
use Rattle.fidl_names.specs.declared.methods.Method.{Method}
use Rattle.fidl_names.specs.declared.methods.Method.TheVariants as method
use Rattle.fidl_names.specs.declared.statuses.Status.{Status}
use Rattle.fidl_names.specs.declared.statuses.Status.TheVariants as status
use Rattle.fidl_names.specs.HandleNumber.{handle_with}
use Rattle.wire_laws.specs.Laws.{SpelledWhereRead}
use Rattle.io_flags.specs.Words.{has}
use Rattle.io_flags.specs.declared.names.Flag.TheVariants as flag
use Rattle.io_messages.specs.Asked.{Asked, method_of}
use Rattle.io_messages.specs.Asked as asks
use Rattle.io_messages.specs.Protocols.{has_method, home_of, has as has_home}
use Rattle.io_messages.specs.Replies.{Answered}
use Rattle.io_messages.specs.Replies as answered
use Rattle.io_messages.specs.Failing.{failing_of}
use Rattle.io_messages.specs.declared.failing.Failing.{Failing}
use Rattle.io_messages.specs.declared.failing.Failing.TheVariants as failing
use Rattle.io_messages.specs.declared.protocols.Home.{Home}
use Rattle.io_messages.specs.declared.protocols.Home.TheVariants as homes
use Rattle.io_messages.specs.declared.protocols.Protocol.{Protocol}
use Rattle.io_messages.specs.declared.protocols.Protocol.TheVariants as protocol
use Rattle.io_messages.specs.declared.requests.RequestFault.TheVariants.{Malformed, UnknownStrict, UnknownOneWay, UnknownTwoWay}
use Rattle.request_reader.proofs.RequestLaws.{what_is_read}
use Rattle.io_rights.specs.Operations.{OperationSet}
use Rattle.node_graph.specs.Graph.{resize_refusal, write_change}
use Rattle.node_graph.specs.Refusals.{is_loop, is_same_name, leads_to, link_change, link_refusal, rename_change, rename_refusal, replace_refusal, unlink_refusal}
use Rattle.node_graph.specs.Tree.{Tree, EdgeKey, EdgeTo, Change, add, after, fill, is_removed, kind_of, move, new_row, stay}
use Rattle.node_graph.specs.declared.faults.GraphFault.TheVariants as fault
use Rattle.node_graph.specs.declared.nodes.NodeKind.{NodeKind}
use Rattle.node_graph.specs.declared.nodes.NodeKind.TheVariants.{Directory, File, Service, Mount}
use Rattle.node_graph.proofs.RowLists.{row_of-push_same}
use Rattle.path_walk.specs.Paths.{names_of}
use Rattle.conn_rules.specs.Acts.{act_of, is_beyond, is_of_every_node, method_refusals, row_act}
use Rattle.conn_rules.specs.Answers.{Answer, replies, closes, binds, watches, forwards, refuses, ends, hangs_up, silent, Act, only, failure_of, failure_by}
use Rattle.conn_rules.specs.Births.{Birth, Position}
use Rattle.conn_rules.proofs.EveryWalk.{HoldsAlong, every_walk}
use Rattle.conn_rules.specs.Contexts.{Context}
use Rattle.conn_rules.specs.FileRows.{is_no_position, is_too_much, reading_refusal, seek_sum, write_start, writing_refusal}
use Rattle.dirents.specs.Listings.{fits_none, listing}
use Rattle.conn_rules.specs.NameRows.{is_bad_name, link_into, linked, name_in, rename_into, renamed, token_answer, two_names_refusal, unlink_refusals, watch_refusals}
use Rattle.conn_rules.specs.Nodes.{bytes_of, edge_at, is_directory, is_mount, kind_here}
use Rattle.conn_rules.specs.Opens.{arrival, arrival_refusals, by_walk, entry_refusals, is_full, kind_made, making, making_refusals, protocol_of, truncation}
use Rattle.conn_rules.specs.Refusals.{as_status}
use Rattle.conn_rules.specs.Walks.{Walk, arrives, missing, crosses, stops, behind, walk, limit_of}
use Rattle.vfs_journal.specs.Entries.{Sending, message, hang_up}
use Rattle.vfs_journal.specs.Outcomes.{Given, Outcome, bound_of, outcome_with, token_of, watcher_birth}
use Rattle.vfs_journal.specs.Serving.{context_at, Moment, Read, asker_of, object_of, outcome_of_message, outcome_of_read, outcome_of_sending, read_by, request_act}
use Rattle.vfs_journal.specs.Starts.{Bound}
use Rattle.journal_laws.specs.Trees.{suits}
use Rattle.journal_laws.proofs.Acts.{IsMade, first_none, graph_allows, none_there, not_refused, only_none, unless_holds}
use Rattle.journal_laws.proofs.Orderly.{HasChildren, IsOrderly, NoMountAt, kind_stays}

-- ---- where a walk leads

-- a number that is a node's
abbrev pub IsNode : Tree → ℕ → Type 0
IsNode tree n = (kind : NodeKind) × (kind_of tree n ≡ Some kind)

-- a walk that arrives at a node, or misses a name
abbrev pub LeadsToNode : Tree → Walk → Type 0
LeadsToNode tree (arrives node masks) = IsNode tree node
LeadsToNode tree (missing directory name masks) = edge_at tree (name_in directory name) ≡ None
LeadsToNode tree (crosses mount rest masks) = Unit {0}
LeadsToNode tree (stops status) = Unit {0}

leads_behind : (tree : Tree) (mask : OperationSet) (w : Walk) → LeadsToNode tree w → LeadsToNode tree (behind mask w)
leads_behind tree mask (arrives node masks) h = h
leads_behind tree mask (missing directory name masks) h = h
leads_behind tree mask (crosses mount rest masks) h = tt
leads_behind tree mask (stops status) h = tt

leads_along : (tree : Tree) (word : ℕ) → HasChildren tree → HoldsAlong tree word (λ directory names w. IsNode tree directory → LeadsToNode tree w)
leads_along tree word children = record {
  here = λ directory at. at;
  absent = λ directory name none at. none;
  node = λ directory name edge there other has at. children (name_in directory name) edge there;
  mount = λ directory name rest edge index there leads has at. tt;
  nowhere = λ directory name rest why at. tt;
  further = λ directory name next rest edge there leads has onward later at. leads_behind tree edge.mask onward (later (children (name_in directory name) edge there));
}

pub leads_to_node : (tree : Tree) (word : ℕ) (names : List (List ℕ)) (directory : ℕ) → HasChildren tree → IsNode tree directory → LeadsToNode tree (walk tree word names directory)
leads_to_node tree word names directory children = every_walk tree word (λ directory names w. IsNode tree directory → LeadsToNode tree w) (leads_along tree word children) names directory

-- ---- what an act binds and changes

abbrev IsPlacedReply : Tree → Birth → Answered → Type 0
IsPlacedReply tree birth (answered.token number) = kind_of tree birth.node ≡ Some Directory
IsPlacedReply tree birth _ = Unit {0}

abbrev IsPlacedAnswer : Tree → Tree → Birth → Answer → Type 0
IsPlacedAnswer tree new birth (binds b announced) = (kind : NodeKind) × (kind_of new b.node ≡ Some kind) × (suits b.protocol kind ≡ true)
IsPlacedAnswer tree new birth (watches mask) = kind_of tree birth.node ≡ Some Directory
IsPlacedAnswer tree new birth (replies a) = IsPlacedReply tree birth a
IsPlacedAnswer tree new birth _ = Unit {0}

record IsPlaced (tree : Tree) (birth : Birth) (act : Act) : Type 0 where
  orderly : IsOrderly tree act.change
  answer : IsPlacedAnswer tree (after tree act.change) birth act.answer

placed : (tree : Tree) (birth : Birth) (position : Position) (answer : Answer) → IsPlacedAnswer tree tree birth answer → IsPlaced tree birth (only position answer)
placed tree birth position answer h = record { orderly = tt; answer = h }

refused_placed : (tree : Tree) (birth : Birth) (position : Position) (m : Method) (s : Status) → IsPlaced tree birth (only position (failure_of m s))
refused_placed tree birth position m s = placed tree birth position (failure_of m s) (by_form (failing_of m)) where
  by_form : (f : Failing) → IsPlacedAnswer tree tree birth (failure_by f m s)
  by_form failing.Reply = tt
  by_form failing.Epitaph = tt
  by_form failing.Never = tt

-- ---- Open

pub kind_there : (tree : Tree) (node : ℕ) → IsNode tree node → kind_of tree node ≡ Some (kind_here tree node)
kind_there tree node h = h.1 ∙ ap Some (sym (ap (λ (o : Option NodeKind). unwrap_or o Directory) h.1))

suited : (word : ℕ) (kind : NodeKind) → suits (protocol_of word kind) kind ≡ true
suited word Directory = by_test (has word flag.ProtocolNode) where
  by_test : (b : Bool) → suits (if b then protocol.Node else protocol.Directory) Directory ≡ true
  by_test true = refl
  by_test false = refl
suited word File = by_test (has word flag.ProtocolNode) where
  by_test : (b : Bool) → suits (if b then protocol.Node else protocol.File) File ≡ true
  by_test true = refl
  by_test false = refl
suited word Service = by_test (has word flag.ProtocolNode) where
  by_test : (b : Bool) → suits (if b then protocol.Node else protocol.Echo) Service ≡ true
  by_test true = refl
  by_test false = refl
suited word (Mount index) = refl

truncated : (b : Bool) (tree : Tree) (node : ℕ) → IsOrderly tree (if b then fill node [] else stay)
truncated true tree node = tt
truncated false tree node = tt

made_kind : (word : ℕ) → IsMade (kind_made word)
made_kind word = by_test (has word flag.ProtocolDirectory) where
  by_test : (b : Bool) → IsMade (if b then Directory else File)
  by_test true = tt
  by_test false = tt

walk_placed : (context : Context) (word : ℕ) (w : Walk) → LeadsToNode context.tree w →
    IsPlaced context.tree context.birth (by_walk context word w)
walk_placed context word (arrives node masks) there =
    unless_holds (IsPlaced context.tree context.birth) (first_of (arrival_refusals context.room word (kind_here context.tree node))) context.position method.OpenPath (arrival context.position word (limit_of context.birth.rights masks) node (kind_here context.tree node)) (refused_placed context.tree context.birth context.position method.OpenPath)
    (λ e. record {
      orderly = truncated (has word flag.FileTruncate) context.tree node;
      answer = (kind_here context.tree node, kind_stays context.tree (truncation word node) node (kind_here context.tree node) (kind_there context.tree node there), suited word (kind_here context.tree node));
    })
walk_placed context word (missing directory name masks) there =
    unless_holds (IsPlaced context.tree context.birth) (first_of (making_refusals context.tree context.room word (name_in directory name))) context.position method.OpenPath (making context.position context.tree word (limit_of context.birth.rights masks) (name_in directory name)) (refused_placed context.tree context.birth context.position method.OpenPath)
    (λ e. record {
      orderly = (there, made_kind word);
      answer = (kind_made word, ap (option_map (λ row. row.kind)) (row_of-push_same context.tree.nodes (new_row (kind_made word))), suited word (kind_made word));
    })
walk_placed context word (crosses mount rest masks) there = record { orderly = tt; answer = tt }
walk_placed context word (stops status) there = refused_placed context.tree context.birth context.position method.OpenPath status

-- ---- names

no_mount_at : (tree : Tree) (key : EdgeKey) → leads_to is_mount tree key ≡ false → NoMountAt tree key
no_mount_at tree key h to e = by_kind (kind_of tree to.child) (sym (ap (λ (o : Option EdgeTo). option_map_or (λ to. option_map_or is_mount (kind_of tree to.child) false) o false) e) ∙ h) where
  by_kind : (o : Option NodeKind) → option_map_or is_mount o false ≡ false → is_mount (unwrap_or o Directory) ≡ false
  by_kind None none = refl
  by_kind (Some kind) none = none

unlink_placed : (context : Context) (name : List ℕ) (flags : ℕ) → first_of (unlink_refusals context.tree (name_in context.birth.node name) flags) ≡ None → NoMountAt context.tree (name_in context.birth.node name)
unlink_placed context name flags e =
    let key = name_in context.birth.node name in
    let allowed = graph_allows (unlink_refusal context.tree key (flags == 1)) (only_none _ (first_none (cause_if (is_bad_name key.name || nat_lt 1 flags) status.InvalidArgs) _ e)) in
    no_mount_at context.tree key (not_refused (leads_to is_mount context.tree key) fault.Unsupported _ (first_none (cause_if (is_none (edge_at context.tree key)) fault.NotFound) _ allowed))

link_orderly : (tree : Tree) (from to : EdgeKey) → HasChildren tree → link_refusal tree from to ≡ None → IsOrderly tree (link_change tree from to)
link_orderly tree from to children e =
    let second = first_none (cause_if (is_none (edge_at tree from)) fault.NotFound) _ e in
    let third = first_none (cause_if (leads_to is_mount tree from) fault.Unsupported) _ second in
    let fourth = first_none (cause_if (leads_to is_directory tree from) fault.NotFile) _ third in
    let fifth = first_none (cause_if (is_removed tree.edges to.directory) fault.Removed) _ fourth in
    let none = no_mount_at tree from (not_refused (leads_to is_mount tree from) fault.Unsupported _ second) in
    let free = none_there (edge_at tree to) (not_refused (is_some (edge_at tree to)) fault.Exists _ fifth) in
    by_edge none free (edge_at tree from) refl where
      by_edge : NoMountAt tree from → edge_at tree to ≡ None → (o : Option EdgeTo) → edge_at tree from ≡ o → IsOrderly tree (option_map_or (λ edge. add to edge) o stay)
      by_edge none free None at = tt
      by_edge none free (Some edge) at = (free, children from edge at, none edge at)

link_placed : (context : Context) (src dst : List ℕ) → HasChildren context.tree → (target : Option ℕ) → IsPlaced context.tree context.birth (link_into context src dst target)
link_placed context src dst children None = refused_placed context.tree context.birth context.position method.Link status.NotFound
link_placed context src dst children (Some target) =
    let from = name_in context.birth.node src in
    let to = name_in target dst in
    unless_holds (IsPlaced context.tree context.birth) (as_status (link_refusal context.tree from to)) context.position method.Link (linked context from to) (refused_placed context.tree context.birth context.position method.Link)
    (λ e. record { orderly = link_orderly context.tree from to children (graph_allows (link_refusal context.tree from to) e); answer = tt })

rename_orderly : (tree : Tree) (from to : EdgeKey) → rename_refusal tree from to ≡ None → IsOrderly tree (rename_change from to)
rename_orderly tree from to e =
    let second = first_none (cause_if (is_none (edge_at tree from)) fault.NotFound) _ e in
    let third = first_none (cause_if (leads_to is_mount tree from) fault.Unsupported) _ second in
    let fourth = first_none (cause_if (is_removed tree.edges to.directory) fault.Removed) _ third in
    let fifth = first_none (cause_if (is_loop tree from to.directory) fault.Loop) _ fourth in
    by_same (no_mount_at tree from (not_refused (leads_to is_mount tree from) fault.Unsupported _ second)) (is_same_name from to) (only_none _ fifth) where
      by_same : NoMountAt tree from → (b : Bool) → (if b then None else replace_refusal tree from to) ≡ None → IsOrderly tree (if b then stay else move from to)
      by_same none true e = tt
      by_same none false e = (none, no_mount_at tree to (not_refused (leads_to is_mount tree to) fault.Unsupported _ e))

rename_placed : (context : Context) (src dst : List ℕ) (target : Option ℕ) → IsPlaced context.tree context.birth (rename_into context src dst target)
rename_placed context src dst None = refused_placed context.tree context.birth context.position method.Rename status.NotFound
rename_placed context src dst (Some target) =
    let from = name_in context.birth.node src in
    let to = name_in target dst in
    unless_holds (IsPlaced context.tree context.birth) (as_status (rename_refusal context.tree from to)) context.position method.Rename (renamed context from to) (refused_placed context.tree context.birth context.position method.Rename)
    (λ e. record { orderly = rename_orderly context.tree from to (graph_allows (rename_refusal context.tree from to) e); answer = tt })

-- ---- protocols

directory_protocol : (p : Protocol) (m : Method) → home_of m ≡ homes.Directories → has_method p m ≡ true → is_beyond p m ≡ false → p ≡ protocol.Directory
directory_protocol protocol.Directory m home has beyond = refl
directory_protocol protocol.File m home has beyond = absurd (true≢false (sym has ∙ ap (has_home protocol.File) home))
directory_protocol protocol.Echo m home has beyond = absurd (true≢false (sym has ∙ ap (has_home protocol.Echo) home))
directory_protocol protocol.Watcher m home has beyond = absurd (true≢false (sym has ∙ ap (has_home protocol.Watcher) home))
directory_protocol protocol.Node m home has beyond = absurd (true≢false (ap (λ (h : Home). not (is_of_every_node h)) (sym home) ∙ beyond))

is_dir : (kind : NodeKind) → is_directory kind ≡ true → kind ≡ Directory
is_dir Directory e = refl
is_dir File e = absurd (true≢false (sym e))
is_dir Service e = absurd (true≢false (sym e))
is_dir (Mount index) e = absurd (true≢false (sym e))

pub on_directory : (tree : Tree) (birth : Birth) (kind : NodeKind) (m : Method) → kind_of tree birth.node ≡ Some kind → suits birth.protocol kind ≡ true → home_of m ≡ homes.Directories → has_method birth.protocol m ≡ true → is_beyond birth.protocol m ≡ false →
    kind_of tree birth.node ≡ Some Directory
on_directory tree birth kind m at suited' home has beyond =
    at ∙ ap Some (is_dir kind (ap (λ (p : Protocol). suits p kind) (sym (directory_protocol birth.protocol m home has beyond)) ∙ suited'))

-- ---- all rows

module _ (context : Context) (kind : NodeKind) (children : HasChildren context.tree) (at : kind_of context.tree context.birth.node ≡ Some kind) (suited' : suits context.birth.protocol kind ≡ true) where
  written_orderly : (node : ℕ) (bytes : List ℕ) (offset : ℕ) (more : List ℕ) → IsOrderly context.tree (write_change node bytes offset more)
  written_orderly node bytes offset [] = tt
  written_orderly node bytes offset (byte ∷ more) = tt

  token_placed : kind_of context.tree context.birth.node ≡ Some Directory → (o : Option ℕ) → IsPlaced context.tree context.birth (only context.position (token_answer o))
  token_placed dir None = refused_placed context.tree context.birth context.position method.GetToken status.NoResources
  token_placed dir (Some number) = record { orderly = tt; answer = dir }

  row_placed : (request : Asked) → has_method context.birth.protocol (method_of request) ≡ true → is_beyond context.birth.protocol (method_of request) ≡ false → IsPlaced context.tree context.birth (row_act context request)
  row_placed (asks.clone endpoint) has beyond =
      unless_holds (IsPlaced context.tree context.birth) (first_of (cause_if (is_full context.room) status.NoResources ∷ [])) context.position method.Clone _ (refused_placed context.tree context.birth context.position method.Clone) (λ e. record { orderly = tt; answer = (kind, at, suited') })
  row_placed (asks.open_path path flags given object) has beyond =
      unless_holds (IsPlaced context.tree context.birth) (first_of (entry_refusals context.birth flags path)) context.position method.OpenPath _ (refused_placed context.tree context.birth context.position method.OpenPath)
      (λ e. walk_placed context flags (walk context.tree flags (names_of path) context.birth.node) (leads_to_node context.tree flags (names_of path) context.birth.node children (kind, at)))
  row_placed (asks.read_dirents most) has beyond =
      unless_holds (IsPlaced context.tree context.birth) (first_of (cause_if (is_too_much most) status.InvalidArgs ∷ cause_if (fits_none (listing context.tree context.birth.node context.position.place) most) status.BufferTooSmall ∷ [])) context.position method.ReadDirents _ (refused_placed context.tree context.birth context.position method.ReadDirents) (λ e. record { orderly = tt; answer = tt })
  row_placed asks.get_token has beyond = token_placed (on_directory context.tree context.birth kind method.GetToken at suited' refl has beyond) context.room.token
  row_placed (asks.rename src token dst) has beyond =
      unless_holds (IsPlaced context.tree context.birth) (two_names_refusal src dst (context.directory token)) context.position method.Rename _ (refused_placed context.tree context.birth context.position method.Rename) (λ e. rename_placed context src dst (context.directory token))
  row_placed (asks.link src token dst) has beyond =
      unless_holds (IsPlaced context.tree context.birth) (two_names_refusal src dst (context.directory token)) context.position method.Link _ (refused_placed context.tree context.birth context.position method.Link) (λ e. link_placed context src dst children (context.directory token))
  row_placed (asks.unlink name flags) has beyond =
      unless_holds (IsPlaced context.tree context.birth) (first_of (unlink_refusals context.tree (name_in context.birth.node name) flags)) context.position method.Unlink _ (refused_placed context.tree context.birth context.position method.Unlink) (λ e. record { orderly = unlink_placed context name flags e; answer = tt })
  row_placed (asks.watch mask options watcher) has beyond =
      unless_holds (IsPlaced context.tree context.birth) (first_of (watch_refusals context.room mask options)) context.position method.Watch _ (refused_placed context.tree context.birth context.position method.Watch)
      (λ e. record { orderly = tt; answer = on_directory context.tree context.birth kind method.Watch at suited' refl has beyond })
  row_placed (asks.read count) has beyond = unless_holds (IsPlaced context.tree context.birth) (reading_refusal count) context.position method.Read _ (refused_placed context.tree context.birth context.position method.Read) (λ e. record { orderly = tt; answer = tt })
  row_placed (asks.read_at count offset) has beyond = unless_holds (IsPlaced context.tree context.birth) (reading_refusal count) context.position method.ReadAt _ (refused_placed context.tree context.birth context.position method.ReadAt) (λ e. record { orderly = tt; answer = tt })
  row_placed (asks.write bytes) has beyond =
      unless_holds (IsPlaced context.tree context.birth) (writing_refusal (write_start context) bytes) context.position method.Write _ (refused_placed context.tree context.birth context.position method.Write)
      (λ e. record { orderly = written_orderly context.birth.node (bytes_of context.tree context.birth.node) (write_start context) bytes; answer = tt })
  row_placed (asks.write_at bytes offset) has beyond =
      unless_holds (IsPlaced context.tree context.birth) (writing_refusal offset bytes) context.position method.WriteAt _ (refused_placed context.tree context.birth context.position method.WriteAt)
      (λ e. record { orderly = written_orderly context.birth.node (bytes_of context.tree context.birth.node) offset bytes; answer = tt })
  row_placed (asks.seek origin offset) has beyond =
      unless_holds (IsPlaced context.tree context.birth) (first_of (cause_if (nat_lt 2 origin) status.InvalidArgs ∷ cause_if (is_no_position (seek_sum context origin offset)) status.OutOfRange ∷ [])) context.position method.Seek _ (refused_placed context.tree context.birth context.position method.Seek) (λ e. record { orderly = tt; answer = tt })
  row_placed (asks.resize size) has beyond =
      unless_holds (IsPlaced context.tree context.birth) (as_status (resize_refusal size)) context.position method.Resize _ (refused_placed context.tree context.birth context.position method.Resize) (λ e. record { orderly = tt; answer = tt })
  row_placed _ has beyond = record { orderly = tt; answer = tt }

  act_placed : (request : Asked) → has_method context.birth.protocol (method_of request) ≡ true → IsPlaced context.tree context.birth (act_of context request)
  unfolding act_of
  act_placed request has =
      unless_holds (IsPlaced context.tree context.birth) (first_of (method_refusals context.birth (method_of request))) context.position (method_of request) (row_act context request) (refused_placed context.tree context.birth context.position (method_of request))
      (λ e. row_placed request has (not_refused (is_beyond context.birth.protocol (method_of request)) status.BadHandle _ e))

-- ---- what outcomes have

-- an outcome leaves names of mounts alone, binds on a node, and gives a token of a directory
pub record IsPlacedOutcome (tree : Tree) (bound : Bound) (outcome : Outcome) : Type 0 where
  pub server : outcome.server ≡ bound.server
  pub orderly : IsOrderly tree outcome.change
  pub new : (b : Bound) → outcome.bound ≡ Some b → (b.server ≡ bound.server) × ((kind : NodeKind) × (kind_of (after tree outcome.change) b.birth.node ≡ Some kind) × (suits b.birth.protocol kind ≡ true))
  pub token : (g : Given) → outcome.token ≡ Some g → (g.server ≡ bound.server) × (kind_of tree g.node ≡ Some Directory)

abbrev NewIsPlaced : Tree → Bound → Bound → Type 0
NewIsPlaced new bound b = (b.server ≡ bound.server) × ((kind : NodeKind) × (kind_of new b.birth.node ≡ Some kind) × (suits b.birth.protocol kind ≡ true))

new_placed : (tree : Tree) (change : Change) (bound : Bound) (txid object : ℕ) (answer : Answer) → IsPlacedAnswer tree (after tree change) bound.birth answer → (b : Bound) → bound_of (asker_of bound txid object) answer ≡ Some b → NewIsPlaced (after tree change) bound b
new_placed tree change bound txid object (binds birth announced) h b e =
    let is : record { endpoint = object; server = bound.server; birth = birth; mask = 0 } ≡ b = cc in
    subst (NewIsPlaced (after tree change) bound) is (refl, h)
new_placed tree change bound txid object (watches mask) h b e =
    let is : record { endpoint = object; server = bound.server; birth = watcher_birth bound.birth.node; mask = mask } ≡ b = cc in
    subst (NewIsPlaced (after tree change) bound) is (refl, (Directory, kind_stays tree change bound.birth.node Directory h, refl))
new_placed tree change bound txid object (replies a) h b e = absurd (cc)
new_placed tree change bound txid object closes h b e = absurd (cc)
new_placed tree change bound txid object (forwards mount flags rest) h b e = absurd (cc)
new_placed tree change bound txid object (refuses s) h b e = absurd (cc)
new_placed tree change bound txid object (ends s) h b e = absurd (cc)
new_placed tree change bound txid object hangs_up h b e = absurd (cc)
new_placed tree change bound txid object silent h b e = absurd (cc)

abbrev TokenIsPlaced : Tree → Bound → Given → Type 0
TokenIsPlaced tree bound g = (g.server ≡ bound.server) × (kind_of tree g.node ≡ Some Directory)

reply_token : (tree : Tree) (bound : Bound) (txid object : ℕ) (a : Answered) → IsPlacedReply tree bound.birth a → (g : Given) → token_of (asker_of bound txid object) (replies a) ≡ Some g → TokenIsPlaced tree bound g
reply_token tree bound txid object (answered.token n) h g e =
    let is : record { token = n; endpoint = bound.endpoint; server = bound.server; node = bound.birth.node } ≡ g = cc in
    subst (TokenIsPlaced tree bound) is (refl, h)
reply_token tree bound txid object (answered.done m) h g e = absurd (cc)
reply_token tree bound txid object (answered.fails m s) h g e = absurd (cc)
reply_token tree bound txid object (answered.counted m x) h g e = absurd (cc)
reply_token tree bound txid object (answered.payload m bytes) h g e = absurd (cc)
reply_token tree bound txid object (answered.settled m) h g e = absurd (cc)
reply_token tree bound txid object (answered.attributes a) h g e = absurd (cc)
reply_token tree bound txid object (answered.unknown ordinal) h g e = absurd (cc)

token_placed_in : (tree new : Tree) (bound : Bound) (txid object : ℕ) (answer : Answer) → IsPlacedAnswer tree new bound.birth answer → (g : Given) → token_of (asker_of bound txid object) answer ≡ Some g → TokenIsPlaced tree bound g
token_placed_in tree new bound txid object (replies a) h g e = reply_token tree bound txid object a h g e
token_placed_in tree new bound txid object (binds birth announced) h g e = absurd (cc)
token_placed_in tree new bound txid object (watches mask) h g e = absurd (cc)
token_placed_in tree new bound txid object closes h g e = absurd (cc)
token_placed_in tree new bound txid object (forwards mount flags rest) h g e = absurd (cc)
token_placed_in tree new bound txid object (refuses s) h g e = absurd (cc)
token_placed_in tree new bound txid object (ends s) h g e = absurd (cc)
token_placed_in tree new bound txid object hangs_up h g e = absurd (cc)
token_placed_in tree new bound txid object silent h g e = absurd (cc)

placed_outcome : (tree : Tree) (bound : Bound) (txid object : ℕ) (act : Act) → IsPlaced tree bound.birth act → IsPlacedOutcome tree bound (outcome_with (asker_of bound txid object) act)
placed_outcome tree bound txid object act h = record {
  server = refl;
  orderly = h.orderly;
  new = new_placed tree act.change bound txid object act.answer h.answer;
  token = token_placed_in tree (after tree act.change) bound txid object act.answer h.answer;
}

-- a request is of a method that its protocol has
pub has_read : SpelledWhereRead → (p : Protocol) (bytes handles : List ℕ) (txid : ℕ) (a : Asked) → read_by p bytes handles ≡ Ok (txid, a) → has_method p (method_of a) ≡ true
has_read law p bytes handles txid a read = (what_is_read law p bytes (map handle_with handles) txid a read).known

-- what a served connection stands on
pub record IsServedOn (tree : Tree) (bound : Bound) : Type 0 where
  pub children : HasChildren tree
  pub kind : NodeKind
  pub node : kind_of tree bound.birth.node ≡ Some kind
  pub suited : suits bound.birth.protocol kind ≡ true

read_placed : SpelledWhereRead → (moment : Moment) (bytes handles : List ℕ) → IsServedOn moment.tree moment.bound → (r : Read) → read_by moment.bound.birth.protocol bytes handles ≡ r → IsPlacedOutcome moment.tree moment.bound (outcome_of_read moment r)
read_placed law moment bytes handles h (Ok (txid, a)) read =
    placed_outcome moment.tree moment.bound txid (object_of a) (request_act moment a)
    (act_placed (context_at moment) h.kind h.children h.node h.suited a (has_read law moment.bound.birth.protocol bytes handles txid a read))
read_placed law moment bytes handles h (Err (Malformed fault)) read = placed_outcome moment.tree moment.bound 0 0 (only moment.position (ends status.InvalidArgs)) (placed moment.tree moment.bound.birth moment.position (ends status.InvalidArgs) tt)
read_placed law moment bytes handles h (Err UnknownStrict) read = placed_outcome moment.tree moment.bound 0 0 (only moment.position (ends status.NotSupported)) (placed moment.tree moment.bound.birth moment.position (ends status.NotSupported) tt)
read_placed law moment bytes handles h (Err UnknownOneWay) read = placed_outcome moment.tree moment.bound 0 0 (only moment.position silent) (placed moment.tree moment.bound.birth moment.position silent tt)
read_placed law moment bytes handles h (Err (UnknownTwoWay txid ordinal)) read =
    placed_outcome moment.tree moment.bound txid 0 (only moment.position (replies (answered.unknown ordinal))) (placed moment.tree moment.bound.birth moment.position (replies (answered.unknown ordinal)) tt)

message_placed : SpelledWhereRead → (moment : Moment) (bytes handles : List ℕ) → IsServedOn moment.tree moment.bound → (p : Protocol) → moment.bound.birth.protocol ≡ p → IsPlacedOutcome moment.tree moment.bound (outcome_of_message moment p bytes handles)
message_placed law moment bytes handles h protocol.Watcher is = placed_outcome moment.tree moment.bound 0 0 (only moment.position silent) (placed moment.tree moment.bound.birth moment.position silent tt)
message_placed law moment bytes handles h protocol.Directory is = read_placed law moment bytes handles h (read_by protocol.Directory bytes handles) (ap (λ (p : Protocol). read_by p bytes handles) is)
message_placed law moment bytes handles h protocol.File is = read_placed law moment bytes handles h (read_by protocol.File bytes handles) (ap (λ (p : Protocol). read_by p bytes handles) is)
message_placed law moment bytes handles h protocol.Node is = read_placed law moment bytes handles h (read_by protocol.Node bytes handles) (ap (λ (p : Protocol). read_by p bytes handles) is)
message_placed law moment bytes handles h protocol.Echo is = read_placed law moment bytes handles h (read_by protocol.Echo bytes handles) (ap (λ (p : Protocol). read_by p bytes handles) is)

pub sending_placed : SpelledWhereRead → (moment : Moment) (sending : Sending) → IsServedOn moment.tree moment.bound → IsPlacedOutcome moment.tree moment.bound (outcome_of_sending moment sending)
unfolding outcome_of_sending
sending_placed law moment (message bytes handles) h = message_placed law moment bytes handles h moment.bound.birth.protocol refl
sending_placed law moment hang_up h = placed_outcome moment.tree moment.bound 0 0 (only moment.position hangs_up) (placed moment.tree moment.bound.birth moment.position hangs_up tt)

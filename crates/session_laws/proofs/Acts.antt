-- What one request binds, and what it tells of what it changes.
use Rattle.std.proofs.Common.{◌≡◌, ℕ, ◌||◌, Bool, true, false, cond, nat_lt, is_none, List, [], ◌∷◌, Option, Some, None, All, refl, sym, ap, ◌∙◌}
use Rattle.std.specs.Prelude.{if◌then◌else◌}
use Rattle.std.specs.FinMap as finite
use Rattle.std.specs.Option.{option_map_or}
use Rattle.std.proofs.lemmas.Bool.{or_parts}
use Rattle.std.proofs.lemmas.List.Elements.{All-cons, All-nil}
use Rattle.fidl_names.specs.First.{cause_if, first_of}
use Rattle.fidl_names.specs.declared.methods.Method.{Method}
use Rattle.fidl_names.specs.declared.methods.Method.TheVariants as method
use Rattle.fidl_names.specs.declared.statuses.Status.{Status}
use Rattle.fidl_names.specs.declared.statuses.Status.TheVariants as status
use Rattle.io_flags.specs.Words.{has}
use Rattle.io_flags.specs.declared.names.Flag.TheVariants as flag
use Rattle.io_messages.specs.Asked.{Asked, method_of}
use Rattle.io_messages.specs.Asked as asks
use Rattle.io_messages.specs.Failing.{failing_of}
use Rattle.io_messages.specs.declared.failing.Failing.{Failing}
use Rattle.io_messages.specs.declared.failing.Failing.TheVariants as failing
use Rattle.io_messages.specs.declared.protocols.Protocol.TheVariants as protocol
use Rattle.io_rights.specs.Operations.{OperationSet}
use Rattle.node_graph.specs.Graph.{write_change}
use Rattle.node_graph.specs.Refusals.{directory_behind, edge_at, is_same_name, link_refusal, rename_refusal, resize_refusal}
use Rattle.node_graph.specs.Tree.{Change, EdgeKey, EdgeTo, Edges, Tree, add, fill, move, stay}
use Rattle.node_graph.specs.declared.nodes.NodeKind.{NodeKind}
use Rattle.node_graph.specs.declared.nodes.NodeKind.TheVariants.{Directory, File, Service, Mount}
use Rattle.path_walk.specs.Names.{IsName, name_fault}
use Rattle.path_walk.specs.Paths.{IsPath, names_of, path_fault}
use Rattle.conn_rules.specs.Acts.{act_of, method_refusals, row_act}
use Rattle.conn_rules.specs.Answers.{Act, Answer, Happening, added, binds, closes, deleted, failure_of, gone, nothing_told, only, removed, watches, failure_by}
use Rattle.conn_rules.specs.Births.{Position}
use Rattle.conn_rules.specs.Contexts.{Context}
use Rattle.conn_rules.specs.FileRows.{bytes_here, is_no_position, is_too_much, reading_refusal, seek_sum, write_start, writing_refusal, written_act}
use Rattle.conn_rules.specs.Listings.{listing_here}
use Rattle.conn_rules.specs.NameRows.{is_bad_name, link_into, linked, name_in, rename_into, renamed, token_answer, two_names_refusal, unlink_refusals, unlinked, watch_refusals}
use Rattle.conn_rules.specs.Nodes.{kind_here}
use Rattle.conn_rules.specs.Opens.{arrival, arrival_refusals, by_walk, entry_refusals, is_full, making, making_refusals, protocol_of}
use Rattle.conn_rules.specs.Refusals.{as_status}
use Rattle.conn_rules.specs.Walks.{Walk, arrives, crosses, limit_of, missing, stops, walk}
use Rattle.dirents.specs.Listings.{fits_none}
use Rattle.vfs_journal.specs.History.{is_watcher}
use Rattle.journal_laws.proofs.Acts.{graph_allows, none_there, not_refused, path_passes, unless_holds, MissesOnly, misses_only}
use Rattle.session_laws.proofs.Names.{AreTold, IsOfName, cut_there, gone_leaves, is_there, left_behind, put_there}

-- ---- what acts do

-- a connection that is bound is no watcher; and where a watcher is, the tree stays
abbrev pub IsPlain : Change → Answer → Type 0
IsPlain change (binds birth announced) = is_watcher birth.protocol ≡ false
IsPlain change (watches mask) = change ≡ stay
IsPlain change _ = Unit {0}

-- what is bound is so, and what is told is what changes
pub record IsToldWhole (tree : Tree) (act : Act) : Type 0 where
  pub plain : IsPlain act.change act.answer
  pub tells : AreTold tree act.change act.told
  pub named : All IsOfName act.told

-- nothing is told of an act that leaves all names
quiet : (tree : Tree) (act : Act) → act.told ≡ [] → AreTold tree act.change [] → IsPlain act.change act.answer → IsToldWhole tree act
quiet tree act none tells plain = record {
  plain = plain;
  tells = λ key. tells key ∙ ap (left_behind key (is_there tree.edges key)) (sym none);
  named = none_named act.told none;
} where
  none_named : (told : List Happening) → told ≡ [] → All IsOfName told
  none_named [] e = All-nil IsOfName
  none_named (happening ∷ later) e = absurd (cc)

nothing : (tree : Tree) (position : Position) (answer : Answer) → IsPlain stay answer → IsToldWhole tree (only position answer)
nothing tree position answer plain = quiet tree (only position answer) refl (λ key. refl) plain

failed : (tree : Tree) (position : Position) (m : Method) (s : Status) → IsToldWhole tree (only position (failure_of m s))
failed tree position m s = nothing tree position (failure_of m s) (by_form (failing_of m)) where
  by_form : (f : Failing) → IsPlain stay (failure_by f m s)
  by_form failing.Reply = tt
  by_form failing.Epitaph = tt
  by_form failing.Never = tt

-- ---- an Open

opened_plain : (word : ℕ) (kind : NodeKind) → is_watcher (protocol_of word kind) ≡ false
opened_plain word Directory = by_test (has word flag.ProtocolNode) where
  by_test : (b : Bool) → is_watcher (cond b protocol.Node protocol.Directory) ≡ false
  by_test true = refl
  by_test false = refl
opened_plain word File = by_test (has word flag.ProtocolNode) where
  by_test : (b : Bool) → is_watcher (cond b protocol.Node protocol.File) ≡ false
  by_test true = refl
  by_test false = refl
opened_plain word Service = by_test (has word flag.ProtocolNode) where
  by_test : (b : Bool) → is_watcher (cond b protocol.Node protocol.Echo) ≡ false
  by_test true = refl
  by_test false = refl
opened_plain word (Mount index) = refl

arrived : (tree : Tree) (position : Position) (word : ℕ) (limit : OperationSet) (node : ℕ) (kind : NodeKind) → IsToldWhole tree (arrival position word limit node kind)
arrived tree position word limit node kind =
    quiet tree (arrival position word limit node kind) refl (by_test (has word flag.FileTruncate)) (opened_plain word kind) where
      by_test : (b : Bool) → AreTold tree (cond b (fill node []) stay) []
      by_test true = λ key. refl
      by_test false = λ key. refl

made : (tree : Tree) (position : Position) (word : ℕ) (limit : OperationSet) (key : EdgeKey) → IsName key.name → IsToldWhole tree (making position tree word limit key)
made tree position word limit key valid = record {
  plain = by_test (has word flag.ProtocolDirectory);
  tells = λ other. put_there tree.edges key _ other;
  named = All-cons IsOfName (added key) [] valid (All-nil IsOfName);
} where
  by_test : (b : Bool) → is_watcher (protocol_of word (cond b Directory File)) ≡ false
  by_test true = opened_plain word Directory
  by_test false = opened_plain word File

walked : (context : Context) (word : ℕ) (w : Walk) → MissesOnly IsName w → IsToldWhole context.tree (by_walk context word w)
walked context word (arrives node masks) misses =
    unless_holds (IsToldWhole context.tree) (first_of (arrival_refusals context.room word (kind_here context.tree node))) context.position method.OpenPath _ (λ s. failed context.tree context.position method.OpenPath s)
    (λ e. arrived context.tree context.position word (limit_of context.birth.rights masks) node (kind_here context.tree node))
walked context word (missing directory name masks) misses =
    unless_holds (IsToldWhole context.tree) (first_of (making_refusals context.tree context.room word (name_in directory name))) context.position method.OpenPath _ (λ s. failed context.tree context.position method.OpenPath s)
    (λ e. made context.tree context.position word (limit_of context.birth.rights masks) (name_in directory name) misses)
walked context word (crosses mount rest masks) misses = nothing context.tree context.position _ tt
walked context word (stops s) misses = failed context.tree context.position method.OpenPath s

-- ---- names

gone_named : (o : Option ℕ) → All IsOfName (gone o)
gone_named None = All-nil IsOfName
gone_named (Some directory) = All-cons IsOfName (deleted directory) [] tt (All-nil IsOfName)

good_name : (name : List ℕ) → is_bad_name name ≡ false → IsName name
good_name name e = none_there (name_fault name) e

unlinks : (context : Context) (key : EdgeKey) → IsName key.name → IsToldWhole context.tree (unlinked context key)
unlinks context key valid = record {
  plain = tt;
  tells = λ other. cut_there context.tree.edges key other ∙ gone_leaves other _ (directory_behind context.tree key);
  named = All-cons IsOfName (removed key) (gone (directory_behind context.tree key)) valid (gone_named (directory_behind context.tree key));
}

-- there is an edge where it isn't refused that there is none
edge_there : {X : Type 0} (o : Option X) → is_none o ≡ false → (x : X) × (o ≡ Some x)
edge_there None e = absurd (cc)
edge_there (Some x) e = (x, refl)

links : (context : Context) (from to : EdgeKey) → IsName to.name → link_refusal context.tree from to ≡ None → IsToldWhole context.tree (linked context from to)
links context from to valid passes = record {
  plain = tt;
  tells = by_edge (edge_at context.tree from) (not_refused (is_none (edge_at context.tree from)) _ _ passes);
  named = All-cons IsOfName (added to) [] valid (All-nil IsOfName);
} where
  by_edge : (o : Option EdgeTo) → is_none o ≡ false → AreTold context.tree (option_map_or (λ edge. add to edge) o stay) (added to ∷ [])
  by_edge None e = absurd (cc)
  by_edge (Some edge) e = λ key. put_there context.tree.edges to edge key

linked_into : (context : Context) (src dst : List ℕ) → IsName dst → (target : Option ℕ) → IsToldWhole context.tree (link_into context src dst target)
linked_into context src dst valid None = failed context.tree context.position method.Link status.NotFound
linked_into context src dst valid (Some target) =
    let from = name_in context.birth.node src in
    let to = name_in target dst in
    unless_holds (IsToldWhole context.tree) (as_status (link_refusal context.tree from to)) context.position method.Link (linked context from to) (λ s. failed context.tree context.position method.Link s)
    (λ e. links context from to valid (graph_allows (link_refusal context.tree from to) e))

-- what moves is gone from one name and at the other
moved_there : (edges : Edges) (from to : EdgeKey) (o : Option EdgeTo) → is_none o ≡ false → (key : EdgeKey) →
    is_there (option_map_or (λ edge. finite.insert (finite.remove edges from) to edge) o edges) key
    ≡ (if is_same_name key to then true else if is_same_name key from then false else is_there edges key)
moved_there edges from to None e key = absurd (cc)
moved_there edges from to (Some edge) e key =
    put_there (finite.remove edges from) to edge key ∙ ap (λ (b : Bool). if is_same_name key to then true else b) (cut_there edges from key)

abbrev renamed_by : Context → EdgeKey → EdgeKey → Bool → Act
renamed_by context from to same =
    record {
      answer = (renamed context from to).answer;
      position = context.position;
      change = if same then stay else move from to;
      told = if same then nothing_told else removed from ∷ added to ∷ gone (directory_behind context.tree to);
    }

renames_by : (context : Context) (from to : EdgeKey) → IsName from.name → IsName to.name → is_none (edge_at context.tree from) ≡ false → (same : Bool) → IsToldWhole context.tree (renamed_by context from to same)
renames_by context from to valid_from valid_to there true = record { plain = tt; tells = λ key. refl; named = All-nil IsOfName }
renames_by context from to valid_from valid_to there false = record {
  plain = tt;
  tells = λ key.
      moved_there context.tree.edges from to (edge_at context.tree from) there key
      ∙ gone_leaves key (if is_same_name key to then true else if is_same_name key from then false else is_there context.tree.edges key) (directory_behind context.tree to);
  named = All-cons IsOfName (removed from) (added to ∷ gone (directory_behind context.tree to)) valid_from
      (All-cons IsOfName (added to) (gone (directory_behind context.tree to)) valid_to (gone_named (directory_behind context.tree to)));
}

renames : (context : Context) (from to : EdgeKey) → IsName from.name → IsName to.name → rename_refusal context.tree from to ≡ None → IsToldWhole context.tree (renamed context from to)
renames context from to valid_from valid_to passes =
    renames_by context from to valid_from valid_to (not_refused (is_none (edge_at context.tree from)) _ _ passes) (is_same_name from to)

renamed_into : (context : Context) (src dst : List ℕ) → IsName src → IsName dst → (target : Option ℕ) → IsToldWhole context.tree (rename_into context src dst target)
renamed_into context src dst valid_src valid_dst None = failed context.tree context.position method.Rename status.NotFound
renamed_into context src dst valid_src valid_dst (Some target) =
    let from = name_in context.birth.node src in
    let to = name_in target dst in
    unless_holds (IsToldWhole context.tree) (as_status (rename_refusal context.tree from to)) context.position method.Rename (renamed context from to) (λ s. failed context.tree context.position method.Rename s)
    (λ e. renames context from to valid_src valid_dst (graph_allows (rename_refusal context.tree from to) e))

-- ---- every request

-- both names of a Link or Rename break no rule
two_names : (src dst : List ℕ) (target : Option ℕ) → two_names_refusal src dst target ≡ None → IsName src × IsName dst
two_names src dst target e =
    let good = or_parts (is_bad_name src) (is_bad_name dst) (not_refused (is_bad_name src || is_bad_name dst) status.InvalidArgs _ e) in
    (good_name src good.0, good_name dst good.1)

written : (context : Context) (position : Position) (offset : ℕ) (bytes : List ℕ) (a : _) → IsToldWhole context.tree (written_act context position offset bytes a)
written context position offset bytes a = quiet context.tree (written_act context position offset bytes a) refl (by_bytes bytes) tt where
  by_bytes : (data' : List ℕ) → AreTold context.tree (write_change context.birth.node (bytes_here context) offset data') []
  by_bytes [] = λ key. refl
  by_bytes (byte ∷ data') = λ key. refl

given : (tree : Tree) (position : Position) (next : Option ℕ) → IsToldWhole tree (only position (token_answer next))
given tree position None = failed tree position method.GetToken status.NoResources
given tree position (Some number) = nothing tree position _ tt

module _ (sound : (text : List ℕ) → path_fault text ≡ None → IsPath text (names_of text)) (context : Context) where
  refused : (m : Method) (s : Status) → IsToldWhole context.tree (only context.position (failure_of m s))
  refused m s = failed context.tree context.position m s

  rows : (request : Asked) → is_watcher context.birth.protocol ≡ false → IsToldWhole context.tree (row_act context request)
  rows (asks.clone endpoint) plain =
      unless_holds (IsToldWhole context.tree) (first_of (cause_if (is_full context.room) status.NoResources ∷ [])) context.position method.Clone _ (refused method.Clone) (λ e. nothing context.tree context.position _ plain)
  rows asks.close plain = nothing context.tree context.position closes tt
  rows (asks.open_path path flags attributes object) plain =
      unless_holds (IsToldWhole context.tree) (first_of (entry_refusals context.birth flags path)) context.position method.OpenPath _ (refused method.OpenPath)
      (λ e. walked context flags (walk context.tree flags (names_of path) context.birth.node)
      (misses_only IsName context.tree flags (names_of path) context.birth.node (sound path (path_passes context.birth flags path e)).valid))
  rows (asks.read_dirents most) plain =
      unless_holds (IsToldWhole context.tree) (first_of (cause_if (is_too_much most) status.InvalidArgs ∷ cause_if (fits_none (listing_here context) most) status.BufferTooSmall ∷ [])) context.position method.ReadDirents _ (refused method.ReadDirents)
      (λ e. nothing context.tree _ _ tt)
  rows asks.rewind plain = nothing context.tree _ _ tt
  rows asks.get_token plain = given context.tree context.position context.room.token
  rows (asks.rename src token dst) plain =
      unless_holds (IsToldWhole context.tree) (two_names_refusal src dst (context.directory token)) context.position method.Rename _ (refused method.Rename)
      (λ e. let names = two_names src dst (context.directory token) e in renamed_into context src dst names.0 names.1 (context.directory token))
  rows (asks.link src token dst) plain =
      unless_holds (IsToldWhole context.tree) (two_names_refusal src dst (context.directory token)) context.position method.Link _ (refused method.Link)
      (λ e. linked_into context src dst (two_names src dst (context.directory token) e).1 (context.directory token))
  rows (asks.unlink name flags) plain =
      unless_holds (IsToldWhole context.tree) (first_of (unlink_refusals context.tree (name_in context.birth.node name) flags)) context.position method.Unlink _ (refused method.Unlink)
      (λ e. unlinks context (name_in context.birth.node name) (good_name name (or_parts (is_bad_name name) (nat_lt 1 flags) (not_refused (is_bad_name name || nat_lt 1 flags) status.InvalidArgs _ e)).0))
  rows (asks.watch mask options watcher) plain =
      unless_holds (IsToldWhole context.tree) (first_of (watch_refusals context.room mask options)) context.position method.Watch _ (refused method.Watch) (λ e. nothing context.tree context.position (watches mask) refl)
  rows (asks.read count) plain = unless_holds (IsToldWhole context.tree) (reading_refusal count) context.position method.Read _ (refused method.Read) (λ e. nothing context.tree _ _ tt)
  rows (asks.read_at count offset) plain = unless_holds (IsToldWhole context.tree) (reading_refusal count) context.position method.ReadAt _ (refused method.ReadAt) (λ e. nothing context.tree _ _ tt)
  rows (asks.write bytes) plain =
      unless_holds (IsToldWhole context.tree) (writing_refusal (write_start context) bytes) context.position method.Write _ (refused method.Write) (λ e. written context _ (write_start context) bytes _)
  rows (asks.write_at bytes offset) plain =
      unless_holds (IsToldWhole context.tree) (writing_refusal offset bytes) context.position method.WriteAt _ (refused method.WriteAt) (λ e. written context context.position offset bytes _)
  rows (asks.seek origin offset) plain =
      unless_holds (IsToldWhole context.tree) (first_of (cause_if (nat_lt 2 origin) status.InvalidArgs ∷ cause_if (is_no_position (seek_sum context origin offset)) status.OutOfRange ∷ [])) context.position method.Seek _ (refused method.Seek)
      (λ e. nothing context.tree _ _ tt)
  rows (asks.resize size) plain =
      unless_holds (IsToldWhole context.tree) (as_status (resize_refusal size)) context.position method.Resize _ (refused method.Resize) (λ e. quiet context.tree _ refl (λ key. refl) tt)
  rows _ plain = nothing context.tree context.position _ tt

  pub acts : (request : Asked) → is_watcher context.birth.protocol ≡ false → IsToldWhole context.tree (act_of context request)
  unfolding act_of
  acts request plain =
      unless_holds (IsToldWhole context.tree) (first_of (method_refusals context.birth (method_of request))) context.position (method_of request) (row_act context request) (refused (method_of request)) (λ e. rows request plain)

-- Whatever is served leaves a tree sound.
use Rattle.std.proofs.Common.{◌≡◌, ℕ, zero, suc, ◌==◌, ◌&&◌, ◌||◌, Bool, true, false, not, find, nat_lt, if◌then◌else◌, List, [], ◌∷◌, length, Option, Some, None, Ok, Err, All, refl, sym, ap, ◌∙◌, subst, arith}
use Rattle.std.specs.Option.{option_map_or}
use Rattle.std.proofs.lemmas.Bool.{eqb-true, or_parts, or_right, true≢false}
use Rattle.std.proofs.lemmas.List.Elements.{All-contains, All-head, All-set, All-tail}
use Rattle.fidl_names.specs.First.{cause_if, first_of}
use Rattle.fidl_names.specs.declared.methods.Method.{Method}
use Rattle.fidl_names.specs.declared.methods.Method.TheVariants as method
use Rattle.fidl_names.specs.declared.statuses.Status.TheVariants as status
use Rattle.io_flags.specs.Words.{creates, has}
use Rattle.io_flags.specs.declared.names.Flag.TheVariants as flag
use Rattle.io_messages.specs.Asked.{Asked, method_of}
use Rattle.io_messages.specs.Asked as asks
use Rattle.io_messages.specs.Protocols.{has_method, home_of, has as has_home}
use Rattle.io_messages.specs.declared.protocols.Home.{Home}
use Rattle.io_messages.specs.declared.protocols.Home.TheVariants as homes
use Rattle.io_messages.specs.declared.protocols.Protocol.{Protocol}
use Rattle.io_messages.specs.declared.protocols.Protocol.TheVariants as protocol
use Rattle.io_messages.specs.declared.requests.RequestFault.TheVariants.{Malformed, UnknownStrict, UnknownOneWay, UnknownTwoWay}
use Rattle.io_rights.specs.Operations.{OperationSet, all}
use Rattle.node_graph.specs.Graph.{create_refusal, link_refusal, rename_refusal, resize_refusal, unlink_refusal, write_refusal}
use Rattle.node_graph.specs.Tree.{IsSound, NodeRow, Tree, after, fill, kind_of, row_of, stay}
use Rattle.node_graph.specs.declared.nodes.NodeKind.{NodeKind}
use Rattle.node_graph.specs.declared.nodes.NodeKind.TheVariants.{Directory, File, Service, Mount}
use Rattle.node_graph.proofs.RowLists.{mapped}
use Rattle.node_graph.proofs.SoundNames.{cut_sound, link_sound, rename_sound}
use Rattle.node_graph.proofs.Soundness.{bare_sound, filled_sound, made_sound, resized_sound, written_sound}
use Rattle.path_walk.specs.Names.{IsName, name_fault}
use Rattle.path_walk.specs.Paths.{names_of}
use Rattle.path_walk.proofs.PartLemmas.{name_short}
use Rattle.conn_rules.specs.Acts.{act_of, is_beyond, is_of_every_node, method_refusals, row_act}
use Rattle.conn_rules.specs.Answers.{Act}
use Rattle.conn_rules.specs.Contexts.{Context}
use Rattle.conn_rules.specs.FileRows.{is_no_position, is_too_much, reading_refusal, seek_sum, write_start, writing_refusal}
use Rattle.dirents.specs.Listings.{fits_none, listing}
use Rattle.conn_rules.specs.NameRows.{watch_refusals, is_bad_name, link_into, linked, name_in, rename_into, renamed, two_names_refusal, unlink_refusals}
use Rattle.conn_rules.specs.Nodes.{bytes_of, is_file, kind_here}
use Rattle.conn_rules.specs.Opens.{arrival, arrival_refusals, by_walk, entry_refusals, is_full, is_other_kind, kind_made, making, making_refusals, marks_file, other_kind_status}
use Rattle.conn_rules.proofs.EveryWalk.{HoldsAlong, every_walk}
use Rattle.conn_rules.specs.Walks.{Walk, arrives, missing, crosses, stops, behind, walk, limit_of}
use Rattle.vfs_journal.specs.Entries.{Journal, Sending, Sent, message, hang_up, serves}
use Rattle.vfs_journal.specs.History.{births, is_dead, living, tree_at, trees_of}
use Rattle.vfs_journal.specs.Lawful.{Lawful}
use Rattle.vfs_journal.specs.Outcomes.{Outcome, Given}
use Rattle.vfs_journal.specs.Past.{behind as behind_entry, event_of, history_of}
use Rattle.vfs_journal.specs.Serving.{context_at, Moment, Read, moment_of, outcome_at, outcome_of, outcome_of_message, outcome_of_read, outcome_of_sending, read_by}
use Rattle.vfs_journal.specs.Session.{head}
use Rattle.vfs_journal.specs.Starts.{Bound, Start}
use Rattle.journal_laws.specs.Soundness.{IsStart}
use Rattle.journal_laws.specs.Trees.{IsOnNode, NamesDirectory, suits}
use Rattle.journal_laws.proofs.Acts.{first_none, graph_allows, head_none, not_refused, only_none, path_passes, unless_holds, none_there}
use Rattle.journal_laws.proofs.Below.{Below}
use Rattle.journal_laws.proofs.Kept.{is_serving, lawful_kept}
use Rattle.journal_laws.proofs.Members.{found, kept_of}
use Rattle.journal_laws.proofs.OnTrees.{lawful_stand, sound_children}
use Rattle.journal_laws.proofs.Orderly.{HasChildren}
use Rattle.journal_laws.proofs.Placed.{LeadsToNode, has_read, kind_there, leads_to_node, on_directory}
use Rattle.journal_laws.proofs.Stepping.{GoesOn, Stepped, at_each, onward_of, stepped}
use Rattle.journal_laws.proofs.Steps.{refusals_change_nothing, sendings_wait_last, servings_take_effect}
use Rattle.conn_rules.specs.Refusals.{as_status}
use Rattle.vfs_journal.specs.Tokens.{all_given, directory_among}

-- ---- a name that a walk misses

-- it is a name, in a directory
abbrev MissesName : Tree → Walk → Type 0
MissesName tree (missing directory name masks) = (kind_of tree directory ≡ Some Directory) × IsName name
MissesName tree _ = Unit {0}

misses_behind : (tree : Tree) (mask : OperationSet) (w : Walk) → MissesName tree w → MissesName tree (behind mask w)
misses_behind tree mask (arrives node masks) h = tt
misses_behind tree mask (missing directory name masks) h = h
misses_behind tree mask (crosses mount rest masks) h = tt
misses_behind tree mask (stops status) h = tt

misses_along : (tree : Tree) (word : ℕ) → HasChildren tree → HoldsAlong tree word (λ directory names w. kind_of tree directory ≡ Some Directory → All IsName names → MissesName tree w)
misses_along tree word children = record {
  here = λ directory at valid. tt;
  absent = λ directory name none at valid. (at, All-head IsName name [] valid);
  node = λ directory name edge there other has at valid. tt;
  mount = λ directory name rest edge index there leads has at valid. tt;
  nowhere = λ directory name rest why at valid. tt;
  further = λ directory name next rest edge there leads has onward later at valid.
      misses_behind tree edge.mask onward
      (later (kind_there tree edge.child (children (name_in directory name) edge there) ∙ ap Some leads) (All-tail IsName name (next ∷ rest) valid));
}

misses_name : (tree : Tree) (word : ℕ) (names : List (List ℕ)) (directory : ℕ) → HasChildren tree → kind_of tree directory ≡ Some Directory → All IsName names → MissesName tree (walk tree word names directory)
misses_name tree word names directory children =
    every_walk tree word (λ directory names w. kind_of tree directory ≡ Some Directory → All IsName names → MissesName tree w) (misses_along tree word children) names directory

-- ---- what acts leave

abbrev IsLeftSound : Tree → Act → Type 0
IsLeftSound tree act = IsSound (after tree act.change)

-- a node that is a file has its bytes
file_row : (tree : Tree) (node : ℕ) → kind_of tree node ≡ Some File → row_of tree.nodes node ≡ Some (record { kind = File; bytes = bytes_of tree node })
file_row tree node at =
    let found = mapped (λ (row : NodeRow). row.kind) (row_of tree.nodes node) File at in
    found.1 ∙ ap Some (ap (λ (k : NodeKind). let row : NodeRow = record { kind = k; bytes = found.0.bytes } in row) found.2)
    ∙ ap (λ (bs : List ℕ). Some (let row : NodeRow = record { kind = File; bytes = bs } in row)) (sym (ap (λ (o : Option NodeRow). option_map_or (λ (row : NodeRow). row.bytes) o []) found.1))

is_file_kind : (kind : NodeKind) → is_file kind ≡ true → kind ≡ File
is_file_kind File e = refl
is_file_kind Directory e = absurd (true≢false (sym e))
is_file_kind Service e = absurd (true≢false (sym e))
is_file_kind (Mount index) e = absurd (true≢false (sym e))

cut_by : (tree : Tree) (node : ℕ) (b : Bool) → (b ≡ true → kind_of tree node ≡ Some File) → IsSound tree → IsSound (after tree (if b then fill node [] else stay))
cut_by tree node true file sound = filled_sound tree node (bytes_of tree node) [] sound (file_row tree node (file refl)) (omega arith)
cut_by tree node false file sound = sound

both_false : (a b : Bool) → (a && not b) ≡ false → a ≡ true → b ≡ true
both_false true true e f = refl
both_false true false e f = absurd (true≢false e)
both_false false b e f = absurd (true≢false (sym f))

walk_sound : (context : Context) (word : ℕ) → IsSound context.tree → (w : Walk) → LeadsToNode context.tree w → MissesName context.tree w →
    IsLeftSound context.tree (by_walk context word w)
walk_sound context word sound (arrives node masks) there misses =
    unless_holds (IsLeftSound context.tree) (first_of (arrival_refusals context.room word (kind_here context.tree node))) context.position method.OpenPath (arrival context.position word (limit_of context.birth.rights masks) node (kind_here context.tree node)) (λ s. sound)
    (λ e. cut_by context.tree node (has word flag.FileTruncate)
    (λ cuts. kind_there context.tree node there ∙ ap Some (is_file_kind (kind_here context.tree node)
    (both_false (marks_file word) (is_file (kind_here context.tree node))
    (not_refused (marks_file word && not (is_file (kind_here context.tree node))) status.NotFile _ (first_none (cause_if (is_other_kind word (kind_here context.tree node)) (other_kind_status word)) _ (first_none (cause_if (has word flag.MustCreate) status.AlreadyExists) _ e)))
    (or_right (has word flag.FileAppend) (has word flag.FileTruncate) cuts))))
    sound)
walk_sound context word sound (missing directory name masks) free misses =
    unless_holds (IsLeftSound context.tree) (first_of (making_refusals context.tree context.room word (name_in directory name))) context.position method.OpenPath (making context.position context.tree word (limit_of context.birth.rights masks) (name_in directory name)) (λ s. sound)
    (λ e.
    let made = head_none (as_status (create_refusal context.tree.edges (name_in directory name))) _ (first_none (cause_if (not (creates word)) status.NotFound) _ e) in
    let short = name_short name misses.1 in
    made_sound context.tree (name_in directory name) (kind_made word) all sound
    (graph_allows (create_refusal context.tree.edges (name_in directory name)) made) misses.0 short.0 short.1)
walk_sound context word sound (crosses mount rest masks) there misses = sound
walk_sound context word sound (stops status) there misses = sound

-- ---- what is written

write_passes : (offset : ℕ) (bytes : List ℕ) → writing_refusal offset bytes ≡ None → write_refusal offset bytes ≡ None
write_passes offset bytes e = graph_allows (write_refusal offset bytes) (only_none _ (first_none (cause_if (is_too_much (length bytes)) status.OutOfRange) _ e))

-- ---- names

second_name : (src dst : List ℕ) (target : Option ℕ) → two_names_refusal src dst target ≡ None → IsName dst
second_name src dst target e =
    none_there (name_fault dst) (or_parts (is_bad_name src) (is_bad_name dst) (not_refused (is_bad_name src || is_bad_name dst) status.InvalidArgs _ e)).1

into_sound : (context : Context) (src dst : List ℕ) → IsSound context.tree → IsName dst → (target : Option ℕ) → ((d : ℕ) → target ≡ Some d → kind_of context.tree d ≡ Some Directory) →
    IsLeftSound context.tree (link_into context src dst target)
into_sound context src dst sound valid None is = sound
into_sound context src dst sound valid (Some target) is =
    let from = name_in context.birth.node src in
    let to = name_in target dst in
    let short = name_short dst valid in
    unless_holds (IsLeftSound context.tree) (as_status (link_refusal context.tree from to)) context.position method.Link (linked context from to) (λ s. sound)
    (λ e. link_sound context.tree from to sound (graph_allows (link_refusal context.tree from to) e) (is target refl) short.0 short.1)

renamed_sound : (context : Context) (src dst : List ℕ) → IsSound context.tree → IsName dst → (target : Option ℕ) → ((d : ℕ) → target ≡ Some d → kind_of context.tree d ≡ Some Directory) →
    IsLeftSound context.tree (rename_into context src dst target)
renamed_sound context src dst sound valid None is = sound
renamed_sound context src dst sound valid (Some target) is =
    let from = name_in context.birth.node src in
    let to = name_in target dst in
    let short = name_short dst valid in
    unless_holds (IsLeftSound context.tree) (as_status (rename_refusal context.tree from to)) context.position method.Rename (renamed context from to) (λ s. sound)
    (λ e. rename_sound context.tree from to sound (graph_allows (rename_refusal context.tree from to) e) (is target refl) short.0 short.1)

-- the directory that a token names, where it is of this server
named_directory : (trees : List Tree) (tokens : List Given) (server token d : ℕ) → All (NamesDirectory trees) tokens → directory_among tokens server token ≡ Some d → kind_of (tree_at trees server) d ≡ Some Directory
named_directory trees tokens server token d names e = by_found (find (λ given. given.token == token) tokens) refl e where
  by_server : (g : Given) → NamesDirectory trees g → (b : Bool) → (g.server == server) ≡ b → (if b then Some g.node else None) ≡ Some d → kind_of (tree_at trees server) d ≡ Some Directory
  by_server g at true same is =
      let node : g.node ≡ d = cc in
      ap (λ (n : ℕ). kind_of (tree_at trees server) n) (sym node) ∙ ap (λ (s : ℕ). kind_of (tree_at trees s) g.node) (sym (eqb-true g.server server same)) ∙ at.node
  by_server g at false apart is = absurd (cc)

  by_found : (o : Option Given) → find (λ given. given.token == token) tokens ≡ o → option_map_or (λ given. if given.server == server then Some given.node else None) o None ≡ Some d → kind_of (tree_at trees server) d ≡ Some Directory
  by_found None f is = absurd (cc)
  by_found (Some g) f is = by_server g (All-contains (NamesDirectory trees) tokens g names (found (λ (given : Given). given.token == token) tokens g f).0) (g.server == server) refl is

-- ---- all rows

file_protocol : (p : Protocol) (m : Method) → home_of m ≡ homes.Files → has_method p m ≡ true → is_beyond p m ≡ false → p ≡ protocol.File
file_protocol protocol.File m home has' beyond = refl
file_protocol protocol.Directory m home has' beyond = absurd (true≢false (sym has' ∙ ap (has_home protocol.Directory) home))
file_protocol protocol.Echo m home has' beyond = absurd (true≢false (sym has' ∙ ap (has_home protocol.Echo) home))
file_protocol protocol.Watcher m home has' beyond = absurd (true≢false (sym has' ∙ ap (has_home protocol.Watcher) home))
file_protocol protocol.Node m home has' beyond = absurd (true≢false (ap (λ (h : Home). not (is_of_every_node h)) (sym home) ∙ beyond))

module _ (below : Below) (context : Context) (kind : NodeKind) (sound : IsSound context.tree) (at : kind_of context.tree context.birth.node ≡ Some kind) (suited : suits context.birth.protocol kind ≡ true) (target_is : (token d : ℕ) → context.directory token ≡ Some d → kind_of context.tree d ≡ Some Directory) where
  on_file : (m : Method) → home_of m ≡ homes.Files → has_method context.birth.protocol m ≡ true → is_beyond context.birth.protocol m ≡ false → kind_of context.tree context.birth.node ≡ Some File
  on_file m home has' beyond = at ∙ ap Some (is_file_kind kind (ap (λ (p : Protocol). suits p kind) (sym (file_protocol context.birth.protocol m home has' beyond)) ∙ suited))

  row_sound : (request : Asked) → has_method context.birth.protocol (method_of request) ≡ true → is_beyond context.birth.protocol (method_of request) ≡ false → IsLeftSound context.tree (row_act context request)
  row_sound (asks.clone endpoint) has' beyond = unless_holds (IsLeftSound context.tree) (first_of (cause_if (is_full context.room) status.NoResources ∷ [])) context.position method.Clone _ (λ s. sound) (λ e. sound)
  row_sound (asks.open_path path flags given object) has' beyond =
      unless_holds (IsLeftSound context.tree) (first_of (entry_refusals context.birth flags path)) context.position method.OpenPath _ (λ s. sound)
      (λ e.
      let here = on_directory context.tree context.birth kind method.OpenPath at suited refl has' beyond in
      let valid = (below.sound path (path_passes context.birth flags path e)).valid in
      walk_sound context flags sound (walk context.tree flags (names_of path) context.birth.node)
      (leads_to_node context.tree flags (names_of path) context.birth.node (sound_children context.tree sound) (Directory, here)) (misses_name context.tree flags (names_of path) context.birth.node (sound_children context.tree sound) here valid))
  row_sound (asks.read_dirents most) has' beyond =
      unless_holds (IsLeftSound context.tree) (first_of (cause_if (is_too_much most) status.InvalidArgs ∷ cause_if (fits_none (listing context.tree context.birth.node context.position.place) most) status.BufferTooSmall ∷ [])) context.position method.ReadDirents _ (λ s. sound) (λ e. sound)
  row_sound (asks.rename src token dst) has' beyond =
      unless_holds (IsLeftSound context.tree) (two_names_refusal src dst (context.directory token)) context.position method.Rename _ (λ s. sound)
      (λ e. renamed_sound context src dst sound (second_name src dst (context.directory token) e) (context.directory token) (target_is token))
  row_sound (asks.link src token dst) has' beyond =
      unless_holds (IsLeftSound context.tree) (two_names_refusal src dst (context.directory token)) context.position method.Link _ (λ s. sound)
      (λ e. into_sound context src dst sound (second_name src dst (context.directory token) e) (context.directory token) (target_is token))
  row_sound (asks.unlink name flags) has' beyond =
      unless_holds (IsLeftSound context.tree) (first_of (unlink_refusals context.tree (name_in context.birth.node name) flags)) context.position method.Unlink _ (λ s. sound)
      (λ e. cut_sound context.tree (name_in context.birth.node name) (flags == 1) sound (graph_allows (unlink_refusal context.tree (name_in context.birth.node name) (flags == 1)) (only_none _ (first_none (cause_if (is_bad_name name || nat_lt 1 flags) status.InvalidArgs) _ e))))
  row_sound (asks.watch mask options watcher) has' beyond = unless_holds (IsLeftSound context.tree) (first_of (watch_refusals context.room mask options)) context.position method.Watch _ (λ s. sound) (λ e. sound)
  row_sound (asks.read count) has' beyond = unless_holds (IsLeftSound context.tree) (reading_refusal count) context.position method.Read _ (λ s. sound) (λ e. sound)
  row_sound (asks.read_at count offset) has' beyond = unless_holds (IsLeftSound context.tree) (reading_refusal count) context.position method.ReadAt _ (λ s. sound) (λ e. sound)
  row_sound (asks.write bytes) has' beyond =
      unless_holds (IsLeftSound context.tree) (writing_refusal (write_start context) bytes) context.position method.Write _ (λ s. sound)
      (λ e. written_sound context.tree context.birth.node (bytes_of context.tree context.birth.node) (write_start context) bytes sound (file_row context.tree context.birth.node (on_file method.Write refl has' beyond)) (write_passes (write_start context) bytes e))
  row_sound (asks.write_at bytes offset) has' beyond =
      unless_holds (IsLeftSound context.tree) (writing_refusal offset bytes) context.position method.WriteAt _ (λ s. sound)
      (λ e. written_sound context.tree context.birth.node (bytes_of context.tree context.birth.node) offset bytes sound (file_row context.tree context.birth.node (on_file method.WriteAt refl has' beyond)) (write_passes offset bytes e))
  row_sound (asks.seek origin offset) has' beyond =
      unless_holds (IsLeftSound context.tree) (first_of (cause_if (nat_lt 2 origin) status.InvalidArgs ∷ cause_if (is_no_position (seek_sum context origin offset)) status.OutOfRange ∷ [])) context.position method.Seek _ (λ s. sound) (λ e. sound)
  row_sound (asks.resize size) has' beyond =
      unless_holds (IsLeftSound context.tree) (as_status (resize_refusal size)) context.position method.Resize _ (λ s. sound)
      (λ e. resized_sound context.tree context.birth.node (bytes_of context.tree context.birth.node) size sound (file_row context.tree context.birth.node (on_file method.Resize refl has' beyond)) (graph_allows (resize_refusal size) e))
  row_sound _ has' beyond = sound

  act_sound : (request : Asked) → has_method context.birth.protocol (method_of request) ≡ true → IsLeftSound context.tree (act_of context request)
  unfolding act_of
  act_sound request has' =
      unless_holds (IsLeftSound context.tree) (first_of (method_refusals context.birth (method_of request))) context.position (method_of request) (row_act context request) (λ s. sound)
      (λ e.
      row_sound request has' (not_refused (is_beyond context.birth.protocol (method_of request)) status.BadHandle _ e))

-- ---- what servings leave

-- tokens name directories of the server's tree
abbrev TokensName : Moment → Type 0
TokensName moment = (token d : ℕ) → moment.directory token ≡ Some d → kind_of moment.tree d ≡ Some Directory

read_sound : Below → (moment : Moment) (bytes handles : List ℕ) (kind : NodeKind) → IsSound moment.tree → kind_of moment.tree moment.bound.birth.node ≡ Some kind → suits moment.bound.birth.protocol kind ≡ true → TokensName moment → (r : Read) → read_by moment.bound.birth.protocol bytes handles ≡ r →
    IsSound (after moment.tree (outcome_of_read moment r).change)
read_sound below moment bytes handles kind sound at suited tokens (Ok (txid, a)) read =
    act_sound below (context_at moment) kind sound at suited tokens a (has_read below.spelled moment.bound.birth.protocol bytes handles txid a read)
read_sound below moment bytes handles kind sound at suited tokens (Err (Malformed fault)) read = sound
read_sound below moment bytes handles kind sound at suited tokens (Err UnknownStrict) read = sound
read_sound below moment bytes handles kind sound at suited tokens (Err UnknownOneWay) read = sound
read_sound below moment bytes handles kind sound at suited tokens (Err (UnknownTwoWay txid ordinal)) read = sound

message_sound : Below → (moment : Moment) (bytes handles : List ℕ) (kind : NodeKind) → IsSound moment.tree → kind_of moment.tree moment.bound.birth.node ≡ Some kind → suits moment.bound.birth.protocol kind ≡ true → TokensName moment → (p : Protocol) → moment.bound.birth.protocol ≡ p →
    IsSound (after moment.tree (outcome_of_message moment p bytes handles).change)
message_sound below moment bytes handles kind sound at suited tokens protocol.Watcher is = sound
message_sound below moment bytes handles kind sound at suited tokens protocol.Directory is = read_sound below moment bytes handles kind sound at suited tokens (read_by protocol.Directory bytes handles) (ap (λ (p : Protocol). read_by p bytes handles) is)
message_sound below moment bytes handles kind sound at suited tokens protocol.File is = read_sound below moment bytes handles kind sound at suited tokens (read_by protocol.File bytes handles) (ap (λ (p : Protocol). read_by p bytes handles) is)
message_sound below moment bytes handles kind sound at suited tokens protocol.Node is = read_sound below moment bytes handles kind sound at suited tokens (read_by protocol.Node bytes handles) (ap (λ (p : Protocol). read_by p bytes handles) is)
message_sound below moment bytes handles kind sound at suited tokens protocol.Echo is = read_sound below moment bytes handles kind sound at suited tokens (read_by protocol.Echo bytes handles) (ap (λ (p : Protocol). read_by p bytes handles) is)

sending_sound : Below → (moment : Moment) (sending : Sending) (kind : NodeKind) → IsSound moment.tree → kind_of moment.tree moment.bound.birth.node ≡ Some kind → suits moment.bound.birth.protocol kind ≡ true → TokensName moment → IsSound (after moment.tree (outcome_of_sending moment sending).change)
unfolding outcome_of_sending
sending_sound below moment (message bytes handles) kind sound at suited tokens = message_sound below moment bytes handles kind sound at suited tokens moment.bound.birth.protocol refl
sending_sound below moment hang_up kind sound at suited tokens = sound

-- the change is of the server's own tree
read_server : (moment : Moment) (r : Read) → (outcome_of_read moment r).server ≡ moment.bound.server
read_server moment (Ok (txid, a)) = refl
read_server moment (Err (Malformed fault)) = refl
read_server moment (Err UnknownStrict) = refl
read_server moment (Err UnknownOneWay) = refl
read_server moment (Err (UnknownTwoWay txid ordinal)) = refl

message_server : (moment : Moment) (bytes handles : List ℕ) (p : Protocol) → (outcome_of_message moment p bytes handles).server ≡ moment.bound.server
message_server moment bytes handles protocol.Watcher = refl
message_server moment bytes handles protocol.Directory = read_server moment (read_by protocol.Directory bytes handles)
message_server moment bytes handles protocol.File = read_server moment (read_by protocol.File bytes handles)
message_server moment bytes handles protocol.Node = read_server moment (read_by protocol.Node bytes handles)
message_server moment bytes handles protocol.Echo = read_server moment (read_by protocol.Echo bytes handles)

server_is : (moment : Moment) (sending : Sending) → (outcome_of_sending moment sending).server ≡ moment.bound.server
unfolding outcome_of_sending
server_is moment (message bytes handles) = message_server moment bytes handles moment.bound.birth.protocol
server_is moment hang_up = refl

-- ---- lawful journals

tree_sound : (trees : List Tree) (server : ℕ) → All IsSound trees → IsSound (tree_at trees server)
tree_sound [] server h = bare_sound
tree_sound (tree ∷ trees) zero h = All-head IsSound tree trees h
tree_sound (tree ∷ trees) (suc server) h = tree_sound trees server (All-tail IsSound tree trees h)

served_sound : Below → (start : Start) (journal : Journal) (sent : Sent) → IsStart start → Lawful start journal → head start (history_of start journal) sent.endpoint ≡ Some sent →
    All IsSound (trees_of start (history_of start journal)) → All IsSound (trees_of start (behind_entry start (serves sent) (history_of start journal)))
unfolding event_of
served_sound below start journal sent s h first sound =
    let past = history_of start journal in
    let trees = trees_of start past in
    let outcome = outcome_of start past sent in
    let effect = servings_take_effect start past sent in
    let serving' = is_serving below start journal sent s (stepped start journal h) (lawful_kept below start s journal h).sound first in
    let bound = serving'.at in
    let stand = lawful_stand below start journal s h in
    let lives = (found (λ (b : Bound). b.endpoint == sent.endpoint) (living start past) bound serving'.bound).0 in
    let born = (kept_of (λ (b : Bound). not (is_dead past b.endpoint)) (births start past) bound lives).0 in
    let on = All-contains (IsOnNode trees) (births start past) bound stand.placed born in
    let whole : outcome ≡ outcome_at start past sent (Some bound) = ap (outcome_at start past sent) serving'.bound in
    let one = sending_sound below (moment_of start past bound) sent.sending on.kind (tree_sound trees bound.server sound) on.node on.suited (λ token d e. named_directory trees (all_given past) bound.server token d stand.given e) in
    let left : IsSound (after (tree_at trees outcome.server) outcome.change) = subst (λ (o : Outcome). IsSound (after (tree_at trees o.server) o.change)) (sym whole) (same_server (moment_of start past bound) sent.sending trees one) in
    subst (All IsSound) (sym effect.trees) (All-set IsSound trees outcome.server (after (tree_at trees outcome.server) outcome.change) left sound) where
      same_server : (moment : Moment) (sending : Sending) (trees : List Tree) → IsSound (after (tree_at trees moment.bound.server) (outcome_of_sending moment sending).change) →
          IsSound (after (tree_at trees (outcome_of_sending moment sending).server) (outcome_of_sending moment sending).change)
      same_server moment sending trees h = subst (λ (n : ℕ). IsSound (after (tree_at trees n) (outcome_of_sending moment sending).change)) (sym (server_is moment sending)) h

sound_goes_on : Below → (start : Start) → IsStart start → GoesOn start (λ journal. All IsSound (trees_of start (history_of start journal)))
unfolding history_of
sound_goes_on below start s = record {
  begins = s.trees;
  refuses_on = λ earlier endpoint why h. subst (All IsSound) (sym (refusals_change_nothing start (history_of start earlier) endpoint why).same.trees) h;
  sends_on = λ earlier one is alone h. subst (All IsSound) (sym (sendings_wait_last start (history_of start earlier) one).same.trees) h;
  serves_on = λ earlier one all first h. served_sound below start earlier one s all first h;
  forwards_on = λ earlier one forward all first e old h.
      subst (All IsSound) (sym (sendings_wait_last start (history_of start (serves one ∷ earlier)) (onward_of earlier one forward)).same.trees) h;
}

-- at each time
pub sound_at : Below → (start : Start) (past : Journal) → IsStart start → Stepped start past → All IsSound (trees_of start (history_of start past))
sound_at below start past s h = at_each start (λ journal. All IsSound (trees_of start (history_of start journal))) (sound_goes_on below start s) past h

pub trees_sound : Below → (start : Start) (journal : Journal) → IsStart start → Lawful start journal → All IsSound (trees_of start (history_of start journal))
trees_sound below start journal s h = sound_at below start journal s (stepped start journal h)

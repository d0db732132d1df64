-- What requests are answered, change and tell: replies that are frames, bytes, and names.
use Rattle.std.proofs.Common.{◌≡◌, ℕ, ◌+◌, ◌-◌, ◌^◌, ◌<◌, ◌≤◌, ◌||◌, Bool, true, false, cond, nat_lt, List, [], ◌∷◌, ◌++◌, length, take, drop, replicate, Option, Some, None, refl, All, lit≤, arith}
use Rattle.std.specs.List.{list_all}
use Rattle.std.specs.Option.{option_map_or}
use Rattle.std.proofs.lemmas.Bool.{and_parts, ltb-true, ltb-false, or_parts}
use Rattle.std.proofs.lemmas.List.{length-take}
use Rattle.std.proofs.lemmas.List.Elements.{All-nil, All-cons, All-drop, All-take}
use Rattle.fidl_names.specs.First.{cause_if, first_of}
use Rattle.fidl_names.specs.Numbers.{AreBytes}
use Rattle.fidl_names.specs.declared.methods.Method.{Method}
use Rattle.fidl_names.specs.declared.methods.Method.TheVariants as method
use Rattle.fidl_names.specs.declared.statuses.Status.{Status}
use Rattle.fidl_names.specs.declared.statuses.Status.TheVariants as status
use Rattle.io_flags.specs.Words.{has}
use Rattle.io_flags.specs.declared.names.Flag.TheVariants as flag
use Rattle.io_messages.specs.Asked.{Asked, method_of}
use Rattle.io_messages.specs.Asked as asks
use Rattle.io_messages.specs.Replies as answers
use Rattle.io_messages.specs.Failing.{failing_of}
use Rattle.io_messages.specs.declared.failing.Failing.{Failing}
use Rattle.io_messages.specs.declared.failing.Failing.TheVariants as failing
use Rattle.io_messages.specs.declared.protocols.Protocol.{Protocol}
use Rattle.io_messages.specs.declared.protocols.Protocol.TheVariants as protocol
use Rattle.node_graph.specs.Graph.{overwritten, resize_refusal, resized, write_change}
use Rattle.node_graph.specs.Refusals.{directory_behind, is_same_name, link_change, link_refusal, rename_change, rename_refusal}
use Rattle.node_graph.specs.Tree.{EdgeKey, EdgeTo, IsSound, Tree, add, fill, move, stay}
use Rattle.path_walk.specs.Names.{name_fault}
use Rattle.path_walk.specs.Paths.{names_of, path_fault}
use Rattle.path_walk.proofs.PathLemmas.{path_sound}
use Rattle.conn_rules.specs.Acts.{act_of, method_refusals, row_act}
use Rattle.conn_rules.specs.Answers.{Act, Answer, Happening, added, binds, closes, ends, failure_of, forwards, gone, hangs_up, only, refuses, removed, replies, silent, watches, failure_by}
use Rattle.conn_rules.specs.Births.{Position}
use Rattle.conn_rules.specs.Contexts.{Context}
use Rattle.conn_rules.specs.FileRows.{bytes_here, is_no_position, is_too_much, part_from, reading_refusal, seek_sum, write_start, writing_refusal, written_act}
use Rattle.conn_rules.specs.Listings.{listing_here}
use Rattle.dirents.specs.Listings.{fits_none}
use Rattle.conn_rules.specs.NameRows.{is_bad_name, link_into, linked, name_in, rename_into, rename_told, renamed, token_answer, two_names_refusal, unlink_refusals, unlinked, watch_refusals}
use Rattle.conn_rules.specs.Nodes.{edge_at, kind_here, protocol_name}
use Rattle.conn_rules.specs.Opens.{arrival, arrival_refusals, by_walk, entry_refusals, is_full, making, making_refusals, truncation}
use Rattle.conn_rules.specs.Refusals.{as_status, unless}
use Rattle.conn_rules.specs.Walks.{Walk, arrives, crosses, limit_of, missing, stops, walk}
use Rattle.journal_laws.proofs.Acts.{none_there, not_refused, path_passes, unless_holds, MissesOnly, misses_only}
use Rattle.frame_laws.proofs.Fields.{AsksInBytes}
use Rattle.frame_laws.proofs.Listings.{listing_written}
use Rattle.frame_laws.proofs.Replies.{HasFrame, replies_within}
use Rattle.journal_laws.proofs.Texts.{IsShortName, both_written, names_in_bytes, none_written, short_name}
use Rattle.frame_laws.proofs.Trees.{BringsBytes, file_in_bytes}
use Rattle.frame_laws.proofs.Watching.{TellsName}
use Rattle.frame_laws.proofs.Written.{zeros_written}
use Rattle.journal_laws.specs.Contents.{HasBytes}

-- ---- acts

-- a reply is a frame
abbrev pub HasReplyFrame : Answer → Type 0
HasReplyFrame (replies a) = HasFrame a
HasReplyFrame closes = Unit {0}
HasReplyFrame (binds birth announced) = Unit {0}
HasReplyFrame (watches mask) = Unit {0}
HasReplyFrame (forwards mount flags rest) = Unit {0}
HasReplyFrame (refuses status) = Unit {0}
HasReplyFrame (ends status) = Unit {0}
HasReplyFrame hangs_up = Unit {0}
HasReplyFrame silent = Unit {0}

-- so is that of an act, which brings bytes and tells names
pub record IsWritable (act : Act) : Type 0 where
  pub reply : HasReplyFrame act.answer
  pub change : BringsBytes act.change
  pub told : All TellsName act.told

nothing_told : All TellsName []
nothing_told = All-nil TellsName

pub answered_only : (position : Position) (answer : Answer) → HasReplyFrame answer → IsWritable (only position answer)
answered_only position answer h = record { reply = h; change = tt; told = nothing_told }

fails_so : (m : Method) (s : Status) → HasReplyFrame (failure_of m s)
fails_so m s = by_form (failing_of m) where
  by_form : (f : Failing) → HasReplyFrame (failure_by f m s)
  by_form failing.Reply = replies_within (answers.fails m s) tt
  by_form failing.Epitaph = tt
  by_form failing.Never = replies_within (answers.fails m s) tt

failed : (position : Position) (m : Method) (s : Status) → IsWritable (only position (failure_of m s))
failed position m s = answered_only position (failure_of m s) (fails_so m s)

unless_refused : (o : Option Status) (position : Position) (m : Method) (act : Act) → (o ≡ None → IsWritable act) → IsWritable (unless o position m act)
unless_refused o position m act passes = unless_holds IsWritable o position m act (failed position m) passes

-- ---- texts of the program's own

small_bytes : (bytes : List ℕ) → list_all (λ b. nat_lt b 256) bytes ≡ true → AreBytes bytes
small_bytes [] h = none_written
small_bytes (b ∷ bytes) h =
    let both = and_parts (nat_lt b 256) (list_all (λ x. nat_lt x 256) bytes) h in
    All-cons (λ x. x < 256) b bytes (ltb-true b 256 both.0) (small_bytes bytes both.1)

protocol_named : (p : Protocol) → HasFrame (answers.payload method.Query (protocol_name p))
protocol_named protocol.Directory = replies_within (answers.payload method.Query (protocol_name protocol.Directory)) (small_bytes (protocol_name protocol.Directory) refl, lit≤ tt)
protocol_named protocol.File = replies_within (answers.payload method.Query (protocol_name protocol.File)) (small_bytes (protocol_name protocol.File) refl, lit≤ tt)
protocol_named protocol.Node = replies_within (answers.payload method.Query (protocol_name protocol.Node)) (small_bytes (protocol_name protocol.Node) refl, lit≤ tt)
protocol_named protocol.Echo = replies_within (answers.payload method.Query (protocol_name protocol.Echo)) (small_bytes (protocol_name protocol.Echo) refl, lit≤ tt)
protocol_named protocol.Watcher = replies_within (answers.payload method.Query (protocol_name protocol.Watcher)) (small_bytes (protocol_name protocol.Watcher) refl, lit≤ tt)

-- ---- files

few_asked : (count : ℕ) (s : Status) (rest : List (Option Status)) → first_of (cause_if (is_too_much count) s ∷ rest) ≡ None → count ≤ 8192
few_asked count s rest e = let few = ltb-false 8192 count (not_refused (is_too_much count) s rest e) in omega (arith, few)

part_written : (m : Method) (offset count : ℕ) (bytes : List ℕ) → AreBytes bytes → count ≤ 8192 → HasFrame (answers.payload m (part_from offset count bytes))
part_written m offset count bytes h few =
    replies_within (answers.payload m (part_from offset count bytes))
    (All-take (λ b. b < 256) count (drop offset bytes) (All-drop (λ b. b < 256) offset bytes h), omega (arith, few, length-take count (drop offset bytes)))

resized_bytes : (bytes : List ℕ) (size : ℕ) → AreBytes bytes → AreBytes (resized bytes size)
resized_bytes bytes size h = both_written (take size bytes) (replicate (size - length bytes) 0) (All-take (λ b. b < 256) size bytes h) (zeros_written (size - length bytes))

overwritten_bytes : (old : List ℕ) (offset : ℕ) (bytes : List ℕ) → AreBytes old → AreBytes bytes → AreBytes (overwritten old offset bytes)
overwritten_bytes old offset bytes h new =
    both_written (resized old offset ++ bytes) (drop (offset + length bytes) old) (both_written (resized old offset) bytes (resized_bytes old offset h) new) (All-drop (λ b. b < 256) (offset + length bytes) old h)

write_brings : (number : ℕ) (old : List ℕ) (offset : ℕ) (bytes : List ℕ) → AreBytes old → AreBytes bytes → BringsBytes (write_change number old offset bytes)
write_brings number old offset [] h new = tt
write_brings number old offset (byte ∷ bytes) h new = overwritten_bytes old offset (byte ∷ bytes) h new

-- ---- Open

cut_brings : (word node : ℕ) → BringsBytes (truncation word node)
cut_brings word node = by_test (has word flag.FileTruncate) where
  by_test : (b : Bool) → BringsBytes (cond b (fill node []) stay)
  by_test true = none_written
  by_test false = tt

one_told : (happening : Happening) → TellsName happening → All TellsName (happening ∷ [])
one_told happening h = All-cons TellsName happening [] h nothing_told

walk_writable : (context : Context) (word : ℕ) (w : Walk) → MissesOnly IsShortName w → IsWritable (by_walk context word w)
walk_writable context word (arrives node masks) h =
    unless_refused (first_of (arrival_refusals context.room word (kind_here context.tree node))) context.position method.OpenPath
    (arrival context.position word (limit_of context.birth.rights masks) node (kind_here context.tree node))
    (λ e. record { reply = tt; change = cut_brings word node; told = nothing_told })
walk_writable context word (missing directory name masks) h =
    let key = name_in directory name in
    unless_refused (first_of (making_refusals context.tree context.room word key)) context.position method.OpenPath
    (making context.position context.tree word (limit_of context.birth.rights masks) key)
    (λ e. record { reply = tt; change = (h.bytes, none_written); told = one_told (added key) h })
walk_writable context word (crosses mount rest masks) h = record { reply = tt; change = tt; told = nothing_told }
walk_writable context word (stops s) h = failed context.position method.OpenPath s

-- the names of a path
path_names : (path : List ℕ) → path_fault path ≡ None → AreBytes path → All IsShortName (names_of path)
path_names path good h k d l = short_name _ ((path_sound path good).valid k d l) (names_in_bytes path h k d l)

-- ---- names

a_name : (name : List ℕ) → is_bad_name name ≡ false → AreBytes name → IsShortName name
a_name name good h = short_name name (none_there (name_fault name) good) h

two_names : (src dst : List ℕ) (target : Option ℕ) → two_names_refusal src dst target ≡ None → AreBytes src × AreBytes dst → IsShortName src × IsShortName dst
two_names src dst target e h =
    let both = or_parts (is_bad_name src) (is_bad_name dst) (not_refused (is_bad_name src || is_bad_name dst) status.InvalidArgs _ e) in
    (a_name src both.0 h.0, a_name dst both.1 h.1)

link_brings : (tree : Tree) (from to : EdgeKey) → AreBytes to.name → BringsBytes (link_change tree from to)
link_brings tree from to h = by_edge (edge_at tree from) where
  by_edge : (o : Option EdgeTo) → BringsBytes (option_map_or (λ edge. add to edge) o stay)
  by_edge None = tt
  by_edge (Some edge) = h

rename_brings : (from to : EdgeKey) → AreBytes to.name → BringsBytes (rename_change from to)
rename_brings from to h = by_test (is_same_name from to) where
  by_test : (b : Bool) → BringsBytes (cond b stay (move from to))
  by_test true = tt
  by_test false = h

gone_told : (o : Option ℕ) → All TellsName (gone o)
gone_told None = nothing_told
gone_told (Some directory) = All-cons TellsName _ [] tt nothing_told

renames_told : (tree : Tree) (from to : EdgeKey) → IsShortName from.name → IsShortName to.name → All TellsName (rename_told tree from to)
renames_told tree from to h g = by_test (is_same_name from to) where
  by_test : (b : Bool) → All TellsName (cond b [] (removed from ∷ added to ∷ gone (directory_behind tree to)))
  by_test true = nothing_told
  by_test false =
      All-cons TellsName (removed from) (added to ∷ gone (directory_behind tree to)) h
      (All-cons TellsName (added to) (gone (directory_behind tree to)) g (gone_told (directory_behind tree to)))

linked_writable : (context : Context) (src dst : List ℕ) (target : Option ℕ) → IsShortName dst → IsWritable (link_into context src dst target)
linked_writable context src dst None h = failed context.position method.Link status.NotFound
linked_writable context src dst (Some target) h =
    let from = name_in context.birth.node src in
    let to = name_in target dst in
    unless_refused (as_status (link_refusal context.tree from to)) context.position method.Link (linked context from to)
    (λ e. record { reply = replies_within (answers.settled method.Link) tt; change = link_brings context.tree from to h.bytes; told = one_told (added to) h })

renamed_writable : (context : Context) (src dst : List ℕ) (target : Option ℕ) → IsShortName src → IsShortName dst → IsWritable (rename_into context src dst target)
renamed_writable context src dst None h g = failed context.position method.Rename status.NotFound
renamed_writable context src dst (Some target) h g =
    let from = name_in context.birth.node src in
    let to = name_in target dst in
    unless_refused (as_status (rename_refusal context.tree from to)) context.position method.Rename (renamed context from to)
    (λ e. record { reply = replies_within (answers.done method.Rename) tt; change = rename_brings from to g.bytes; told = renames_told context.tree from to h g })

-- ---- all rows

-- what a request is served in: a sound tree of bytes, and tokens of 32 bits
pub record IsReady (context : Context) : Type 0 where
  pub sound : IsSound context.tree
  pub bytes : HasBytes context.tree
  pub token : (number : ℕ) → context.room.token ≡ Some number → number < 2 ^ 32

-- the text of an Echo fits into its reply
abbrev pub CanEcho : Asked → Type 0
CanEcho (asks.echo_string value) = HasFrame (answers.payload method.EchoString value)
CanEcho _ = Unit {0}

module _ (context : Context) (ready : IsReady context) where
  here : AreBytes (bytes_here context)
  here = file_in_bytes context.tree context.birth.node ready.bytes

  gives : (o : Option ℕ) → context.room.token ≡ o → HasReplyFrame (token_answer o)
  gives None e = fails_so method.GetToken status.NoResources
  gives (Some number) e = replies_within (answers.token number) (ready.token number e)

  wrote : (m : Method) (position : Position) (offset : ℕ) (bytes : List ℕ) → AreBytes bytes → IsWritable (written_act context position offset bytes (answers.counted m (length bytes)))
  wrote m position offset bytes h = record {
    reply = replies_within (answers.counted m (length bytes)) tt;
    change = write_brings context.birth.node (bytes_here context) offset bytes here h;
    told = nothing_told;
  }

  row_writable : (request : Asked) → AsksInBytes request → CanEcho request → IsWritable (row_act context request)
  row_writable (asks.clone endpoint) h echo =
      unless_refused (first_of (cause_if (is_full context.room) status.NoResources ∷ [])) context.position method.Clone _ (λ e. answered_only context.position (binds context.birth false) tt)
  row_writable asks.close h echo = answered_only context.position closes tt
  row_writable asks.query h echo = answered_only context.position (replies (answers.payload method.Query (protocol_name context.birth.protocol))) (protocol_named context.birth.protocol)
  row_writable (asks.get_attributes bits) h echo = record { reply = replies_within (answers.attributes _) tt; change = tt; told = nothing_told }
  row_writable asks.sync h echo = answered_only context.position (replies (answers.done method.Sync)) (replies_within (answers.done method.Sync) tt)
  row_writable (asks.open_path path flags given object) h echo =
      unless_refused (first_of (entry_refusals context.birth flags path)) context.position method.OpenPath _
      (λ e.
      walk_writable context flags (walk context.tree flags (names_of path) context.birth.node)
      (misses_only IsShortName context.tree flags (names_of path) context.birth.node (path_names path (path_passes context.birth flags path e) h)))
  row_writable (asks.read_dirents most) h echo =
      unless_refused (first_of (cause_if (is_too_much most) status.InvalidArgs ∷ cause_if (fits_none (listing_here context) most) status.BufferTooSmall ∷ [])) context.position method.ReadDirents _
      (λ e.
      let few = few_asked most status.InvalidArgs (cause_if (fits_none (listing_here context) most) status.BufferTooSmall ∷ []) e in
      let listed = listing_written context.tree context.birth.node context.position.place most ready.sound ready.bytes in
      let short = listed.few in
      record { reply = replies_within (answers.payload method.ReadDirents _) (listed.bytes, omega (arith, few, short)); change = tt; told = nothing_told })
  row_writable asks.rewind h echo = record { reply = replies_within (answers.settled method.Rewind) tt; change = tt; told = nothing_told }
  row_writable asks.get_token h echo = record { reply = gives context.room.token refl; change = tt; told = nothing_told }
  row_writable (asks.rename src token dst) h echo =
      unless_refused (two_names_refusal src dst (context.directory token)) context.position method.Rename _
      (λ e. let names = two_names src dst (context.directory token) e h in renamed_writable context src dst (context.directory token) names.0 names.1)
  row_writable (asks.link src token dst) h echo =
      unless_refused (two_names_refusal src dst (context.directory token)) context.position method.Link _
      (λ e. linked_writable context src dst (context.directory token) (two_names src dst (context.directory token) e h).1)
  row_writable (asks.unlink name flags) h echo =
      let key = name_in context.birth.node name in
      unless_refused (first_of (unlink_refusals context.tree key flags)) context.position method.Unlink (unlinked context key)
      (λ e.
      let good = (or_parts (is_bad_name name) (nat_lt 1 flags) (not_refused (is_bad_name name || nat_lt 1 flags) status.InvalidArgs _ e)).0 in
      record {
        reply = replies_within (answers.done method.Unlink) tt;
        change = tt;
        told = All-cons TellsName (removed key) (gone (directory_behind context.tree key)) (a_name name good h) (gone_told (directory_behind context.tree key));
      })
  row_writable (asks.watch mask options watcher) h echo =
      unless_refused (first_of (watch_refusals context.room mask options)) context.position method.Watch _ (λ e. answered_only context.position (watches mask) tt)
  row_writable (asks.read count) h echo =
      unless_refused (reading_refusal count) context.position method.Read _
      (λ e. record { reply = part_written method.Read context.position.offset count (bytes_here context) here (few_asked count status.OutOfRange [] e); change = tt; told = nothing_told })
  row_writable (asks.read_at count offset) h echo =
      unless_refused (reading_refusal count) context.position method.ReadAt _
      (λ e. record { reply = part_written method.ReadAt offset count (bytes_here context) here (few_asked count status.OutOfRange [] e); change = tt; told = nothing_told })
  row_writable (asks.write bytes) h echo =
      unless_refused (writing_refusal (write_start context) bytes) context.position method.Write _ (λ e. wrote method.Write _ (write_start context) bytes h)
  row_writable (asks.write_at bytes offset) h echo =
      unless_refused (writing_refusal offset bytes) context.position method.WriteAt _ (λ e. wrote method.WriteAt context.position offset bytes h)
  row_writable (asks.seek origin offset) h echo =
      unless_refused (first_of (cause_if (nat_lt 2 origin) status.InvalidArgs ∷ cause_if (is_no_position (seek_sum context origin offset)) status.OutOfRange ∷ [])) context.position method.Seek _
      (λ e. record { reply = replies_within (answers.counted method.Seek _) tt; change = tt; told = nothing_told })
  row_writable (asks.resize size) h echo =
      unless_refused (as_status (resize_refusal size)) context.position method.Resize _
      (λ e. record { reply = replies_within (answers.done method.Resize) tt; change = resized_bytes (bytes_here context) size here; told = nothing_told })
  row_writable (asks.echo_string value) h echo = answered_only context.position (replies (answers.payload method.EchoString value)) echo

  pub act_writable : (request : Asked) → AsksInBytes request → CanEcho request → IsWritable (act_of context request)
  unfolding act_of
  act_writable request h echo =
      unless_refused (first_of (method_refusals context.birth (method_of request))) context.position (method_of request) (row_act context request) (λ e. row_writable request h echo)

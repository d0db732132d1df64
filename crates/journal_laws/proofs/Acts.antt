-- What acts answer: an Open binds, is refused or goes on; only GetToken gives a token, the next one.
use Rattle.std.proofs.Common.{◌≡◌, ℕ, ◌<◌, Bool, true, false, nat_lt, is_some, if◌then◌else◌, List, [], ◌∷◌, ◌++◌, length, Option, Some, None, refl, ap, ◌∙◌, subst, arith}
use Rattle.std.specs.Option.{option_map, option_map_or}
use Rattle.std.specs.Prelude.{All}
use Rattle.std.proofs.lemmas.List.Elements.{All-head, All-tail}
use Rattle.fidl_names.specs.declared.methods.Method.{Method}
use Rattle.fidl_names.specs.declared.methods.Method.TheVariants as method
use Rattle.fidl_names.specs.declared.statuses.Status.{Status}
use Rattle.fidl_names.specs.declared.statuses.Status.TheVariants as status
use Rattle.io_flags.specs.Faults.{flag_fault, status_of}
use Rattle.io_flags.specs.Grants.{onward}
use Rattle.io_flags.specs.Words.{has}
use Rattle.io_flags.specs.declared.names.Flag.TheVariants as flag
use Rattle.io_messages.specs.Asked.{Asked, method_of}
use Rattle.io_messages.specs.Asked as asks
use Rattle.io_messages.specs.Replies.{Answered}
use Rattle.io_messages.specs.Replies as answered
use Rattle.io_rights.specs.Operations.{OperationSet}
use Rattle.node_graph.specs.declared.nodes.NodeKind.{NodeKind}
use Rattle.node_graph.specs.declared.nodes.NodeKind.TheVariants.{Directory, File, Mount}
use Rattle.node_graph.specs.Graph.{resize_refusal, write_change}
use Rattle.node_graph.specs.Refusals.{is_same_name}
use Rattle.node_graph.specs.Tree.{Tree, EdgeTo, Change, add, make, move, fill, stay}
use Rattle.node_graph.specs.declared.faults.GraphFault.{GraphFault}
use Rattle.path_walk.specs.Paths.{path_fault, names_of}
use Rattle.conn_rules.proofs.EveryWalk.{HoldsAlong, every_walk}
use Rattle.conn_rules.specs.declared.births.Room.{Room}
use Rattle.conn_rules.specs.Acts.{act_of, row_act, method_refusals}
use Rattle.conn_rules.specs.Answers.{Answer, replies, closes, binds, watches, forwards, refuses, Act, only, failure_of}
use Rattle.conn_rules.specs.Births.{Birth, Position}
use Rattle.conn_rules.specs.Contexts.{Context}
use Rattle.conn_rules.specs.FileRows.{write_start, is_too_much, reading_refusal, is_no_position, seek_sum}
use Rattle.dirents.specs.Listings.{fits_none, listing}
use Rattle.conn_rules.specs.NameRows.{unlink_refusals, watch_refusals, token_answer, link_into, name_in, rename_into}
use Rattle.conn_rules.specs.Nodes.{bytes_of, edge_at, kind_here}
use Rattle.conn_rules.specs.Opens.{is_full, open_act, by_walk, entry_refusals, arrival_refusals, making_refusals}
use Rattle.fidl_names.specs.First.{cause_if, first_of}
use Rattle.conn_rules.specs.Refusals.{as_status, unless}
use Rattle.conn_rules.specs.Walks.{Walk, arrives, missing, crosses, stops, behind, walk, limit_of}

-- ---- a walk that crosses a mount

pub record Crossing (tree : Tree) (names : List (List ℕ)) (mount : ℕ) (rest : List (List ℕ)) : Type 0 where
  pub front : List (List ℕ)
  pub some : 0 < length front
  pub split : names ≡ front ++ rest
  pub node : ℕ
  pub kind : kind_here tree node ≡ Mount mount

crossing_at : (tree : Tree) (name : List ℕ) (rest : List (List ℕ)) (mount : ℕ) (node : ℕ) → kind_here tree node ≡ Mount mount → Crossing tree (name ∷ rest) mount rest
crossing_at tree name rest mount node is = record { front = name ∷ []; some = omega arith; split = refl; node = node; kind = is }

crossing_later : (tree : Tree) (name : List ℕ) (names : List (List ℕ)) (mount : ℕ) (rest : List (List ℕ)) → Crossing tree names mount rest → Crossing tree (name ∷ names) mount rest
crossing_later tree name names mount rest h = record { front = name ∷ h.front; some = omega arith; split = ap (λ ns. name ∷ ns) h.split; node = h.node; kind = h.kind }

-- the walk behind a name crosses where it did before
crossed_behind : (mask : OperationSet) (w : Walk) (mount : ℕ) (rest : List (List ℕ)) (masks : List OperationSet) → behind mask w ≡ crosses mount rest masks → (more : List OperationSet) × (w ≡ crosses mount rest more)
crossed_behind mask (arrives node more) mount rest masks e = absurd (cc)
crossed_behind mask (missing directory name more) mount rest masks e = absurd (cc)
crossed_behind mask (crosses index names more) mount rest masks e = (more, cc)
crossed_behind mask (stops status) mount rest masks e = absurd (cc)

-- a walk that crosses a mount crosses it behind some of its names
abbrev CrossesThere : Tree → ℕ → List (List ℕ) → Walk → Type 0
CrossesThere tree directory names w = (mount : ℕ) (rest : List (List ℕ)) (masks : List OperationSet) → w ≡ crosses mount rest masks → Crossing tree names mount rest

crosses_there : (tree : Tree) (word : ℕ) → HoldsAlong tree word (CrossesThere tree)
crosses_there tree word = record {
  here = λ directory mount rest masks e. absurd (cc);
  absent = λ directory name none mount rest masks e. absurd (cc);
  node = λ directory name edge there other has mount rest masks e. absurd (cc);
  mount = λ directory name names edge index there leads has mount rest masks e.
      let same : index ≡ mount = cc in
      let left : names ≡ rest = cc in
      subst (λ (ns : List (List ℕ)). Crossing tree (name ∷ names) mount ns) left (crossing_at tree name names mount edge.child (leads ∙ ap (λ (n : ℕ). Mount n) same));
  nowhere = λ directory name rest why mount left masks e. absurd (cc);
  further = λ directory name next rest edge there leads has onward later mount left masks e.
      let at = crossed_behind edge.mask onward mount left masks e in
      crossing_later tree name (next ∷ rest) mount left (later mount left at.0 at.1);
}

pub crossing : (tree : Tree) (word : ℕ) (names : List (List ℕ)) (directory mount : ℕ) (rest : List (List ℕ)) (masks : List OperationSet) → walk tree word names directory ≡ crosses mount rest masks → Crossing tree names mount rest
crossing tree word names directory = every_walk tree word (CrossesThere tree) (crosses_there tree word) names directory

-- the name that a walk misses is one of its names
abbrev pub MissesOnly : (List ℕ → Type 0) → Walk → Type 0
MissesOnly P (missing directory name masks) = P name
MissesOnly P (arrives node masks) = Unit {0}
MissesOnly P (crosses mount rest masks) = Unit {0}
MissesOnly P (stops status) = Unit {0}

misses_behind : (P : List ℕ → Type 0) (mask : OperationSet) (w : Walk) → MissesOnly P w → MissesOnly P (behind mask w)
misses_behind P mask (arrives node masks) h = tt
misses_behind P mask (missing directory name masks) h = h
misses_behind P mask (crosses mount rest masks) h = tt
misses_behind P mask (stops status) h = tt

misses_along : (P : List ℕ → Type 0) (tree : Tree) (word : ℕ) → HoldsAlong tree word (λ directory names w. All P names → MissesOnly P w)
misses_along P tree word = record {
  here = λ directory all. tt;
  absent = λ directory name none all. All-head P name [] all;
  node = λ directory name edge there other has all. tt;
  mount = λ directory name rest edge index there leads has all. tt;
  nowhere = λ directory name rest why all. tt;
  further = λ directory name next rest edge there leads has onward later all. misses_behind P edge.mask onward (later (All-tail P name (next ∷ rest) all));
}

pub misses_only : (P : List ℕ → Type 0) (tree : Tree) (word : ℕ) (names : List (List ℕ)) (directory : ℕ) → All P names → MissesOnly P (walk tree word names directory)
misses_only P tree word names directory = every_walk tree word (λ directory names w. All P names → MissesOnly P w) (misses_along P tree word) names directory

-- ---- refusals

-- what holds of a failure and of the act holds of the act where nothing refuses
pub unless_holds : (P : Act → Type 0) (o : Option Status) (position : Position) (method : Method) (act : Act) → ((s : Status) → P (only position (failure_of method s))) → (o ≡ None → P act) → P (unless o position method act)
unless_holds P None position method act refused passes = passes refl
unless_holds P (Some s) position method act refused passes = refused s

pub head_none : {X : Type 0} (o : Option X) (rest : List (Option X)) → first_of (o ∷ rest) ≡ None → o ≡ None
head_none None rest e = refl
head_none (Some s) rest e = absurd (cc)

pub first_none : {X : Type 0} (o : Option X) (rest : List (Option X)) → first_of (o ∷ rest) ≡ None → first_of rest ≡ None
first_none None rest e = e
first_none (Some s) rest e = absurd (cc)

pub not_refused : {X : Type 0} (b : Bool) (s : X) (rest : List (Option X)) → first_of (cause_if b s ∷ rest) ≡ None → b ≡ false
not_refused true s rest e = absurd (cc)
not_refused false s rest e = refl

-- what the graph refuses is refused
pub graph_allows : (o : Option GraphFault) → as_status o ≡ None → o ≡ None
graph_allows None e = refl
graph_allows (Some fault) e = absurd (cc)

pub only_none : {X : Type 0} (o : Option X) → first_of (o ∷ []) ≡ None → o ≡ None
only_none None e = refl
only_none (Some s) e = absurd (cc)

pub none_there : {X : Type 0} (o : Option X) → is_some o ≡ false → o ≡ None
none_there None e = refl
none_there (Some x) e = absurd (cc)

pub path_passes : (birth : Birth) (word : ℕ) (path : List ℕ) → first_of (entry_refusals birth word path) ≡ None → path_fault path ≡ None
path_passes birth word path e =
    none_there (path_fault path)
    (not_refused (is_some (path_fault path)) _ _ (first_none (option_map status_of (flag_fault word)) _ e))

-- ---- what an Open is answered

pub record GoesOn (tree : Tree) (path : List ℕ) (word mount flags : ℕ) (rest : List (List ℕ)) : Type 0 where
  pub good : path_fault path ≡ None
  pub walked : Crossing tree (names_of path) mount rest
  pub limit : OperationSet
  pub left : flags ≡ onward word limit

abbrev pub IsOpenAnswer : Tree → List ℕ → ℕ → Answer → Type 0
IsOpenAnswer tree path word (binds birth announced) = Unit {0}
IsOpenAnswer tree path word (refuses status) = Unit {0}
IsOpenAnswer tree path word (forwards mount flags rest) = GoesOn tree path word mount flags rest
IsOpenAnswer tree path word _ = ⊥

-- no mount is made
abbrev pub IsMade : NodeKind → Type 0
IsMade (Mount index) = ⊥
IsMade _ = Unit {0}

abbrev pub KeepsMounts : Change → Type 0
KeepsMounts (make key row mask) = IsMade row.kind
KeepsMounts _ = Unit {0}

abbrev IsOpenAct : Tree → List ℕ → ℕ → Act → Type 0
IsOpenAct tree path word act = IsOpenAnswer tree path word act.answer × KeepsMounts act.change

fills : (b : Bool) (node : ℕ) → KeepsMounts (if b then fill node [] else stay)
fills true node = tt
fills false node = tt

made : (b : Bool) → IsMade (if b then Directory else File)
made true = tt
made false = tt

by_walk_answers : (context : Context) (path : List ℕ) (word : ℕ) → path_fault path ≡ None → (w : Walk) →
    walk context.tree word (names_of path) context.birth.node ≡ w → IsOpenAct context.tree path word (by_walk context word w)
by_walk_answers context path word good (arrives node masks) is =
    unless_holds (IsOpenAct context.tree path word) (first_of (arrival_refusals context.room word (kind_here context.tree node))) context.position method.OpenPath _ (λ s. (tt, tt)) (λ e. (tt, fills (has word flag.FileTruncate) node))
by_walk_answers context path word good (missing directory name masks) is =
    unless_holds (IsOpenAct context.tree path word) (first_of (making_refusals context.tree context.room word (name_in directory name))) context.position method.OpenPath _ (λ s. (tt, tt)) (λ e. (tt, made (has word flag.ProtocolDirectory)))
by_walk_answers context path word good (crosses mount rest masks) is =
    (record { good = good; walked = crossing context.tree word (names_of path) context.birth.node mount rest masks is; limit = limit_of context.birth.rights masks; left = refl }, tt)
by_walk_answers context path word good (stops status) is = (tt, tt)

open_answers : (context : Context) (path : List ℕ) (word : ℕ) →
    IsOpenAct context.tree path word (open_act context path word)
open_answers context path word =
    unless_holds (IsOpenAct context.tree path word) (first_of (entry_refusals context.birth word path)) context.position method.OpenPath _ (λ s. (tt, tt))
    (λ f. by_walk_answers context path word (path_passes context.birth word path f) (walk context.tree word (names_of path) context.birth.node) refl)

-- ---- what every request is answered

abbrev pub IsNoToken : Answered → Type 0
IsNoToken (answered.token number) = ⊥
IsNoToken _ = Unit {0}

-- a reply that gives no token
abbrev pub IsReply : Answer → Type 0
IsReply (replies a) = IsNoToken a
IsReply _ = ⊥

-- the endpoint that a Clone carries is bound, or ends
abbrev pub IsClone : Answer → Type 0
IsClone (binds birth announced) = Unit {0}
IsClone (refuses status) = Unit {0}
IsClone _ = ⊥

abbrev pub IsWatch : Answer → Type 0
IsWatch (watches mask) = Unit {0}
IsWatch (replies a) = IsNoToken a
IsWatch _ = ⊥

abbrev pub IsTokenIn : Option ℕ → Answered → Type 0
IsTokenIn next (answered.token number) = next ≡ Some number
IsTokenIn next _ = Unit {0}

-- the token that is given is the next one
abbrev pub IsToken : Option ℕ → Answer → Type 0
IsToken next (replies a) = IsTokenIn next a
IsToken next _ = ⊥

abbrev pub IsClose : Answer → Type 0
IsClose closes = Unit {0}
IsClose (replies a) = IsNoToken a
IsClose _ = ⊥

abbrev pub IsAnswer : Room → Tree → Asked → Answer → Type 0
IsAnswer room tree (asks.clone endpoint) answer = IsClone answer
IsAnswer room tree asks.close answer = IsClose answer
IsAnswer room tree (asks.open_path path flags given object) answer = IsOpenAnswer tree path flags answer
IsAnswer room tree (asks.watch mask options watcher) answer = IsWatch answer
IsAnswer room tree asks.get_token answer = IsToken room.token answer
IsAnswer room tree _ answer = IsReply answer

abbrev pub IsAct : Room → Tree → Asked → Act → Type 0
IsAct room tree request act = IsAnswer room tree request act.answer × KeepsMounts act.change

abbrev IsPlain : Act → Type 0
IsPlain act = IsReply act.answer × KeepsMounts act.change

written : (node : ℕ) (bytes : List ℕ) (offset : ℕ) (data' : List ℕ) → KeepsMounts (write_change node bytes offset data')
written node bytes offset [] = tt
written node bytes offset (byte ∷ data') = tt

token_answers : (next : Option ℕ) → IsToken next (token_answer next)
token_answers None = tt
token_answers (Some number) = refl

link_answers : (context : Context) (src dst : List ℕ) (target : Option ℕ) → IsPlain (link_into context src dst target)
link_answers context src dst None = (tt, tt)
link_answers context src dst (Some target) =
    unless_holds IsPlain _ context.position method.Link _ (λ s. (tt, tt)) (λ e. (tt, by_edge (edge_at context.tree (name_in context.birth.node src)))) where
      by_edge : (o : Option EdgeTo) → KeepsMounts (option_map_or (λ edge. add (name_in target dst) edge) o stay)
      by_edge None = tt
      by_edge (Some edge) = tt

rename_answers : (context : Context) (src dst : List ℕ) (target : Option ℕ) → IsPlain (rename_into context src dst target)
rename_answers context src dst None = (tt, tt)
rename_answers context src dst (Some target) =
    unless_holds IsPlain _ context.position method.Rename _ (λ s. (tt, tt)) (λ e. (tt, by_same (is_same_name (name_in context.birth.node src) (name_in target dst)))) where
      by_same : (b : Bool) → KeepsMounts (if b then stay else move (name_in context.birth.node src) (name_in target dst))
      by_same true = tt
      by_same false = tt

row_answers : (context : Context) (request : Asked) → IsAct context.room context.tree request (row_act context request)
row_answers context (asks.clone endpoint) = unless_holds (IsAct context.room context.tree (asks.clone endpoint)) (first_of (cause_if (is_full context.room) status.NoResources ∷ [])) context.position method.Clone _ (λ s. (tt, tt)) (λ e. (tt, tt))
row_answers context (asks.open_path path flags given object) = open_answers context path flags
row_answers context (asks.read_dirents most) = unless_holds IsPlain (first_of (cause_if (is_too_much most) status.InvalidArgs ∷ cause_if (fits_none (listing context.tree context.birth.node context.position.place) most) status.BufferTooSmall ∷ [])) context.position method.ReadDirents _ (λ s. (tt, tt)) (λ e. (tt, tt))
row_answers context asks.get_token = (token_answers context.room.token, tt)
row_answers context (asks.rename src token dst) =
    unless_holds IsPlain _ context.position method.Rename _ (λ s. (tt, tt)) (λ e. rename_answers context src dst (context.directory token))
row_answers context (asks.link src token dst) =
    unless_holds IsPlain _ context.position method.Link _ (λ s. (tt, tt)) (λ e. link_answers context src dst (context.directory token))
row_answers context (asks.unlink name flags) = unless_holds IsPlain (first_of (unlink_refusals context.tree (name_in context.birth.node name) flags)) context.position method.Unlink _ (λ s. (tt, tt)) (λ e. (tt, tt))
row_answers context (asks.watch mask options watcher) =
    unless_holds (IsAct context.room context.tree (asks.watch mask options watcher)) (first_of (watch_refusals context.room mask options)) context.position method.Watch _ (λ s. (tt, tt)) (λ e. (tt, tt))
row_answers context (asks.read count) = unless_holds IsPlain (reading_refusal count) context.position method.Read _ (λ s. (tt, tt)) (λ e. (tt, tt))
row_answers context (asks.read_at count offset) = unless_holds IsPlain (reading_refusal count) context.position method.ReadAt _ (λ s. (tt, tt)) (λ e. (tt, tt))
row_answers context (asks.write bytes) =
    unless_holds IsPlain _ context.position method.Write _ (λ s. (tt, tt)) (λ e. (tt, written context.birth.node (bytes_of context.tree context.birth.node) (write_start context) bytes))
row_answers context (asks.write_at bytes offset) =
    unless_holds IsPlain _ context.position method.WriteAt _ (λ s. (tt, tt)) (λ e. (tt, written context.birth.node (bytes_of context.tree context.birth.node) offset bytes))
row_answers context (asks.seek origin offset) = unless_holds IsPlain (first_of (cause_if (nat_lt 2 origin) status.InvalidArgs ∷ cause_if (is_no_position (seek_sum context origin offset)) status.OutOfRange ∷ [])) context.position method.Seek _ (λ s. (tt, tt)) (λ e. (tt, tt))
row_answers context (asks.resize size) = unless_holds IsPlain (as_status (resize_refusal size)) context.position method.Resize _ (λ s. (tt, tt)) (λ e. (tt, tt))
row_answers context _ = (tt, tt)

refused_answers : (room : Room) (tree : Tree) (position : Position) (request : Asked) (s : Status) → IsAct room tree request (only position (failure_of (method_of request) s))
refused_answers room tree position (asks.clone endpoint) s = (tt, tt)
refused_answers room tree position _ s = (tt, tt)

pub act_answers : (context : Context) (request : Asked) → IsAct context.room context.tree request (act_of context request)
unfolding act_of
act_answers context request =
    unless_holds (IsAct context.room context.tree request) (first_of (method_refusals context.birth (method_of request))) context.position (method_of request) (row_act context request)
    (refused_answers context.room context.tree context.position request) (λ e. row_answers context request)

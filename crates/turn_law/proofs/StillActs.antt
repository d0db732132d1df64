-- A request that is no change changes nothing, tells nothing, gives no token and sets up no watcher.
use Rattle.std.proofs.Common.{◌≡◌, ℕ, ◌||◌, Bool, true, false, not, nat_lt, if◌then◌else◌, List, [], ◌∷◌, refl, sym, ap, ◌∙◌}
use Rattle.std.proofs.lemmas.Bool.{true≢false}
use Rattle.fidl_names.specs.First.{cause_if, first_of}
use Rattle.fidl_names.specs.declared.methods.Method.{Method}
use Rattle.fidl_names.specs.declared.methods.Method.TheVariants as method
use Rattle.fidl_names.specs.declared.statuses.Status.{Status}
use Rattle.fidl_names.specs.declared.statuses.Status.TheVariants as status
use Rattle.io_flags.specs.Words.{creates, has}
use Rattle.io_flags.specs.declared.names.Flag.TheVariants as flag
use Rattle.io_messages.specs.Asked.{Asked, method_of}
use Rattle.io_messages.specs.Asked as asks
use Rattle.io_messages.specs.Failing.{failing_of}
use Rattle.io_messages.specs.declared.failing.Failing.{Failing}
use Rattle.io_messages.specs.declared.failing.Failing.TheVariants as failing
use Rattle.io_messages.specs.declared.protocols.Protocol.TheVariants as protocol
use Rattle.node_graph.specs.Tree.{name_in, fill, stay}
use Rattle.node_graph.specs.declared.nodes.NodeKind.{NodeKind}
use Rattle.node_graph.specs.declared.nodes.NodeKind.TheVariants.{Directory, File, Service, Mount}
use Rattle.path_walk.specs.Paths.{names_of}
use Rattle.conn_rules.specs.Acts.{act_of, method_refusals, row_act}
use Rattle.conn_rules.specs.Answers.{Answer, replies, closes, binds, watches, Act, only, failure_of, failure_by, nothing_told}
use Rattle.conn_rules.specs.Births.{Position}
use Rattle.conn_rules.specs.Contexts.{Context}
use Rattle.conn_rules.specs.FileRows.{is_no_position, is_too_much, reading_refusal, seek_sum}
use Rattle.dirents.specs.Listings.{fits_none, listing}
use Rattle.conn_rules.specs.Nodes.{kind_here}
use Rattle.conn_rules.specs.Opens.{arrival, arrival_refusals, by_walk, entry_refusals, is_full, making, making_refusals, open_act, protocol_of}
use Rattle.conn_rules.specs.Walks.{Walk, arrives, missing, crosses, stops, limit_of, walk}
use Rattle.vfs_journal.specs.History.{is_watcher}
use Rattle.journal_laws.proofs.Acts.{IsNoToken, not_refused, unless_holds}
use Rattle.turn_law.specs.Premises.{is_change}

-- a reply gives no token, and what is bound watches nothing
abbrev pub IsStillAnswer : Answer → Type 0
IsStillAnswer (replies a) = IsNoToken a
IsStillAnswer (binds birth announced) = is_watcher birth.protocol ≡ false
IsStillAnswer (watches mask) = ⊥
IsStillAnswer _ = Unit {0}

pub record IsStillAct (act : Act) : Type 0 where
  pub stays : act.change ≡ stay
  pub untold : act.told ≡ nothing_told
  pub answer : IsStillAnswer act.answer

pub still_only : (position : Position) (answer : Answer) → IsStillAnswer answer → IsStillAct (only position answer)
still_only position answer h = record { stays = refl; untold = refl; answer = h }

refused_still : (position : Position) (m : Method) (s : Status) → IsStillAct (only position (failure_of m s))
refused_still position m s = still_only position (failure_of m s) (by_form (failing_of m)) where
  by_form : (f : Failing) → IsStillAnswer (failure_by f m s)
  by_form failing.Reply = tt
  by_form failing.Epitaph = tt
  by_form failing.Never = tt

-- ---- Open

pub neither : (a b : Bool) → (a || b) ≡ false → (a ≡ false) × (b ≡ false)
neither true b e = absurd (cc)
neither false b e = (refl, e)

speaks : (word : ℕ) (kind : NodeKind) → is_watcher (protocol_of word kind) ≡ false
speaks word Directory = by_test (has word flag.ProtocolNode) where
  by_test : (b : Bool) → is_watcher (if b then protocol.Node else protocol.Directory) ≡ false
  by_test true = refl
  by_test false = refl
speaks word File = by_test (has word flag.ProtocolNode) where
  by_test : (b : Bool) → is_watcher (if b then protocol.Node else protocol.File) ≡ false
  by_test true = refl
  by_test false = refl
speaks word Service = by_test (has word flag.ProtocolNode) where
  by_test : (b : Bool) → is_watcher (if b then protocol.Node else protocol.Echo) ≡ false
  by_test true = refl
  by_test false = refl
speaks word (Mount index) = refl

walk_still : (context : Context) (word : ℕ) → creates word ≡ false → has word flag.FileTruncate ≡ false → (w : Walk) → IsStillAct (by_walk context word w)
walk_still context word makes cuts (arrives node masks) =
    unless_holds IsStillAct (first_of (arrival_refusals context.room word (kind_here context.tree node))) context.position method.OpenPath
    (arrival context.position word (limit_of context.birth.rights masks) node (kind_here context.tree node)) (refused_still context.position method.OpenPath)
    (λ e. record {
      stays = ap (λ (b : Bool). if b then fill node [] else stay) cuts;
      untold = refl;
      answer = speaks word (kind_here context.tree node);
    })
walk_still context word makes cuts (missing directory name masks) =
    unless_holds IsStillAct (first_of (making_refusals context.tree context.room word (name_in directory name))) context.position method.OpenPath
    (making context.position context.tree word (limit_of context.birth.rights masks) (name_in directory name)) (refused_still context.position method.OpenPath)
    (λ e. absurd (true≢false (sym (ap not makes) ∙ not_refused (not (creates word)) status.NotFound _ e)))
walk_still context word makes cuts (crosses mount rest masks) = still_only context.position _ tt
walk_still context word makes cuts (stops s) = refused_still context.position method.OpenPath s

open_still : (context : Context) (path : List ℕ) (word : ℕ) → creates word ≡ false → has word flag.FileTruncate ≡ false → IsStillAct (open_act context path word)
open_still context path word makes cuts =
    unless_holds IsStillAct (first_of (entry_refusals context.birth word path)) context.position method.OpenPath _ (refused_still context.position method.OpenPath)
    (λ e. walk_still context word makes cuts (walk context.tree word (names_of path) context.birth.node))

-- ---- all requests

row_still : (context : Context) → is_watcher context.birth.protocol ≡ false → (request : Asked) → is_change request ≡ false → IsStillAct (row_act context request)
row_still context speaks (asks.clone endpoint) e =
    unless_holds IsStillAct (first_of (cause_if (is_full context.room) status.NoResources ∷ [])) context.position method.Clone _ (refused_still context.position method.Clone)
    (λ f. still_only context.position (binds context.birth false) speaks)
row_still context speaks asks.close e = still_only context.position closes tt
row_still context speaks asks.query e = still_only context.position _ tt
row_still context speaks (asks.get_attributes bits) e = still_only context.position _ tt
row_still context speaks asks.sync e = still_only context.position _ tt
row_still context speaks (asks.open_path path word given object) e =
    let apart = neither (creates word) (has word flag.UnnamedTemporary || has word flag.FileTruncate) e in
    open_still context path word apart.0 (neither (has word flag.UnnamedTemporary) (has word flag.FileTruncate) apart.1).1
row_still context speaks (asks.read_dirents most) e =
    unless_holds IsStillAct (first_of (cause_if (is_too_much most) status.InvalidArgs ∷ cause_if (fits_none (listing context.tree context.birth.node context.position.place) most) status.BufferTooSmall ∷ [])) context.position method.ReadDirents _
    (refused_still context.position method.ReadDirents) (λ f. still_only _ _ tt)
row_still context speaks asks.rewind e = still_only _ _ tt
row_still context speaks asks.get_token e = absurd (cc)
row_still context speaks (asks.rename src token dst) e = absurd (cc)
row_still context speaks (asks.link src token dst) e = absurd (cc)
row_still context speaks (asks.unlink name flags) e = absurd (cc)
row_still context speaks (asks.watch mask options watcher) e = absurd (cc)
row_still context speaks (asks.read count) e = unless_holds IsStillAct (reading_refusal count) context.position method.Read _ (refused_still context.position method.Read) (λ f. still_only _ _ tt)
row_still context speaks (asks.read_at count offset) e = unless_holds IsStillAct (reading_refusal count) context.position method.ReadAt _ (refused_still context.position method.ReadAt) (λ f. still_only _ _ tt)
row_still context speaks (asks.write bytes) e = absurd (cc)
row_still context speaks (asks.write_at bytes offset) e = absurd (cc)
row_still context speaks (asks.seek origin offset) e =
    unless_holds IsStillAct (first_of (cause_if (nat_lt 2 origin) status.InvalidArgs ∷ cause_if (is_no_position (seek_sum context origin offset)) status.OutOfRange ∷ [])) context.position method.Seek _
    (refused_still context.position method.Seek) (λ f. still_only _ _ tt)
row_still context speaks (asks.resize size) e = absurd (cc)
row_still context speaks (asks.echo_string value) e = still_only context.position _ tt

pub act_still : (context : Context) → is_watcher context.birth.protocol ≡ false → (request : Asked) → is_change request ≡ false → IsStillAct (act_of context request)
unfolding act_of
act_still context speaks request e =
    unless_holds IsStillAct (first_of (method_refusals context.birth (method_of request))) context.position (method_of request) (row_act context request)
    (refused_still context.position (method_of request)) (λ f. row_still context speaks request e)

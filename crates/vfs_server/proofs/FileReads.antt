-- What asks for a part of a file is replied to without handles, changes nothing of the tree, takes no memory, and looks at nothing that is in use.
use Rattle.std.proofs.Common.{◌≡◌, ◌≢◌, ◌∙◌, ◌<◌, ℕ, Bool, true, false, [], Option, Some, None, ap, refl, subst, sym, rules}
use Rattle.fidl_names.specs.First.{first_of}
use Rattle.fidl_names.specs.declared.methods.Method.TheVariants as method
use Rattle.fidl_names.specs.declared.statuses.Status.{Status}
use Rattle.fidl_wire.specs.Written.{Written}
use Rattle.io_messages.specs.Asked.{Asked, method_of}
use Rattle.io_messages.specs.Asked as asks
use Rattle.io_messages.specs.Replies.{Answered, fails, payload}
use Rattle.io_messages.specs.ReplyWriting.{reply_handles}
use Rattle.io_messages.specs.Requests.{has_txid}
use Rattle.io_messages.specs.Shapes.{is_one_way}
use Rattle.request_reader.specs.Parts.{AsksPart}
use Rattle.request_reader.proofs.AskedParts.{by_part, has_reply}
use Rattle.node_graph.specs.Graph.{Kept, StandsFor}
use Rattle.node_graph.specs.Tree.{Change, Tree, stay}
use Rattle.conn_rules.specs.Acts.{act_of, method_refusals}
use Rattle.conn_rules.specs.Answers.{Act, Answer, replies}
use Rattle.conn_rules.specs.Births.{Connection, Position}
use Rattle.conn_rules.specs.Contexts.{Context, context_of}
use Rattle.conn_rules.specs.FileRows.{reading_refusal}
use Rattle.conn_rules.specs.Refusals.{unless}
use Rattle.conn_rules.specs.Served.{Gives, IsServed, KeepsHolds, takes_memory}
use Rattle.conn_rules.specs.declared.births.Room.{Room}
use Rattle.conn_rules.specs.declared.served.Served.{Served}
use Rattle.conn_rules.specs.declared.served.Served.TheVariants as served
use Rattle.vfs_server.specs.Steps.{IsPartServed}
use Rattle.vfs_server.proofs.Giving.{by_memory}

-- it has a transaction id, since its method has a reply
pub part_txid : (a : Asked) → AsksPart a → (txid : ℕ) → 0 < txid → has_txid (is_one_way (method_of a)) txid ≡ true
part_txid a is txid some =
    let two_way : has_txid false txid ≡ true = search rules in ap (λ (one_way : Bool). has_txid one_way txid) (has_reply a is) ∙ two_way

record IsReplied (act : Act) : Type 0 where
  reply : Answered
  answer : act.answer ≡ replies reply
  bare : reply_handles reply ≡ []
  still : act.change ≡ stay

unless_read : (o : Option Status) (position : Position) (act : Act) → IsReplied act → IsReplied (unless o position method.Read act)
unless_read (Some status) position act replied = record { reply = fails method.Read status; answer = refl; bare = refl; still = refl }
unless_read None position act replied = replied

unless_read_at : (o : Option Status) (position : Position) (act : Act) → IsReplied act → IsReplied (unless o position method.ReadAt act)
unless_read_at (Some status) position act replied = record { reply = fails method.ReadAt status; answer = refl; bare = refl; still = refl }
unless_read_at None position act replied = replied

read_replied : (context : Context) (count : ℕ) → IsReplied (act_of context (asks.read count))
unfolding act_of
read_replied context count =
    unless_read (first_of (method_refusals context.birth method.Read)) context.position _
    (unless_read (reading_refusal count) context.position _ (record { reply = payload method.Read _; answer = refl; bare = refl; still = refl }))

read_at_replied : (context : Context) (count offset : ℕ) → IsReplied (act_of context (asks.read_at count offset))
unfolding act_of
read_at_replied context count offset =
    unless_read_at (first_of (method_refusals context.birth method.ReadAt)) context.position _
    (unless_read_at (reading_refusal count) context.position _ (record { reply = payload method.ReadAt _; answer = refl; bare = refl; still = refl }))

part_replied : (context : Context) (a : Asked) → AsksPart a → IsReplied (act_of context a)
part_replied context a is = by_part (λ a. IsReplied (act_of context a)) (read_replied context) (read_at_replied context) a is

no_memory : (change : Change) → change ≡ stay → takes_memory change ≡ true → ⊥
no_memory change still takes = search rules

abbrev IsAlike : Connection → Room → Room → Tree → (ℕ → Option ℕ) → Asked → Type 0
IsAlike connection room other tree directory a =
    act_of (context_of connection room tree directory) a ≡ act_of (context_of connection other tree directory) a

-- it does the same whatever is in use
reads_alike : (connection : Connection) (room other : Room) (tree : Tree) (directory : ℕ → Option ℕ) (a : Asked) → AsksPart a → IsAlike connection room other tree directory a
unfolding act_of
reads_alike connection room other tree directory a is =
    by_part (IsAlike connection room other tree directory) (λ count. refl) (λ count offset. refl) a is

-- nothing is, as it is served
abbrev pub unused : Room
unused = record { connections = 0; watchers = 0; token = None }

module _ (old : Connection) (a : Asked) (is_part : AsksPart a) (txid : ℕ) (what : Served) (out : Written) (new : Connection) (graph changed : Kept) (there : (tree : Tree) × StandsFor graph tree)
    (serves : (tree : Tree) (directory : ℕ → Option ℕ) → StandsFor graph tree → what ≢ served.NoMemory →
    IsServed (act_of (context_of old unused tree directory) a) txid what out new graph changed)
    (memory : (tree : Tree) (directory : ℕ → Option ℕ) → StandsFor graph tree → what ≡ served.NoMemory → takes_memory (act_of (context_of old unused tree directory) a).change ≡ true) where
  replies_by : (context : Context) → IsServed (act_of context a) txid what out new graph changed → what ≡ served.Reply
  replies_by context is = (subst (λ (answer : Answer). Gives answer txid what out) (part_replied context a is_part).answer is.answer).0

  -- memory is not wanting, and so it answers with a reply
  pub part_reply : what ≡ served.Reply
  part_reply =
      by_memory (what ≡ served.Reply) what (λ none. absurd (no_memory _ (part_replied _ a is_part).still (memory there.0 (λ number. None) there.1 none)))
      (λ some. replies_by _ (serves there.0 (λ number. None) there.1 some))

  -- it is served so whatever is in use
  pub part_served : (room : Room) (tree : Tree) (directory : ℕ → Option ℕ) → StandsFor graph tree → IsServed (act_of (context_of old room tree directory) a) txid what out new graph changed
  part_served room tree directory stands =
      subst (λ (act : Act). IsServed act txid what out new graph changed) (reads_alike old unused room tree directory a is_part)
      (serves tree directory stands (λ none. let both : served.Reply ≡ served.NoMemory = sym part_reply ∙ none in search rules))

  -- and the reply has no handles
  pub part_bare : out.handles ≡ []
  part_bare =
      let replied = part_replied (context_of old unused there.0 (λ number. None)) a is_part in
      (subst (λ (answer : Answer). Gives answer txid what out) replied.answer (part_served unused there.0 (λ number. None) there.1).answer).1.handles ∙ replied.bare

  pub part_is_served : KeepsHolds old new graph changed → IsPartServed old a txid out new graph changed
  part_is_served holds = record {
    serves = λ room tree directory stands. subst (λ (one : Served). IsServed (act_of (context_of old room tree directory) a) txid one out new graph changed) part_reply (part_served room tree directory stands);
    bare = part_bare;
    holds = holds;
  }

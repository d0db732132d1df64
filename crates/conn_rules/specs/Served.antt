-- What a connection's call answers, and what then stands in its output.
use Rattle.std.specs.Prelude.{◌≡◌, ℕ, Bool, true, false, List, [], ◌∷◌, ◌++◌, option_to_list}
use Rattle.std.specs.Option.{option_map}
use Rattle.fidl_names.specs.declared.methods.Method.TheVariants as method
use Rattle.fidl_wire.specs.Written.{Written}
use Rattle.io_messages.specs.Replies.{Answered, done}
use Rattle.io_messages.specs.ReplyWriting.{reply_bytes, reply_handles}
use Rattle.node_graph.specs.Graph.{Kept, KeepsNames, Leads, SameHolds}
use Rattle.node_graph.specs.Tree.{Change, EdgeKey, make, add, cut, move, fill, stay}
use Rattle.conn_rules.specs.declared.births.Birth as code
use Rattle.conn_rules.specs.declared.changes.At.{At}
use Rattle.conn_rules.specs.declared.changes.Changes.{Changes}
use Rattle.conn_rules.specs.declared.served.Served.{Served}
use Rattle.conn_rules.specs.declared.served.Served.TheVariants as served
use Rattle.conn_rules.specs.Births.{Birth, Connection, born}
use Rattle.conn_rules.specs.Answers.{Act, Answer, Happening, replies, closes, binds, refuses, ends}
use Rattle.conn_rules.specs.Answers.{nothing_told, removed, added, deleted}
use Rattle.conn_rules.specs.Shared.{CanBeBound}

-- the output is this reply
pub record HasReply (txid : ℕ) (a : Answered) (out : Written) : Type 0 where
  pub bytes : out.bytes ≡ reply_bytes txid a
  pub handles : out.handles ≡ reply_handles a

-- the output is empty
pub record HasNothing (out : Written) : Type 0 where
  pub bytes : out.bytes ≡ []
  pub handles : out.handles ≡ []

-- a birth of the code is this one, and says whether it is announced
pub record IsBirth (birth : Birth) (announced : Bool) (found : code.Birth) : Type 0 where
  pub same : born found ≡ birth
  pub told : found.announce ≡ announced

-- the call gives this answer to a request with this transaction id
abbrev pub Gives : Answer → ℕ → Served → Written → Type 0
Gives (replies a) txid result out = (result ≡ served.Reply) × HasReply txid a out
Gives closes txid result out = (result ≡ served.ReplyEnd) × HasReply txid (done method.Close) out
Gives (binds birth announced) txid result out =
    ((found : code.Birth) × (result ≡ served.Bind found) × IsBirth birth announced found)
    × HasNothing out
Gives (refuses status) txid result out = (result ≡ served.Refused status) × HasNothing out
Gives (ends status) txid result out = (result ≡ served.End status) × HasNothing out
Gives _ txid result out = ⊥

-- ---- whole servings

-- whatever is answered, a connection is bound as it was, and each node has its holds and its
-- reference
pub record KeepsHolds (old new : Connection) (before after : Kept) : Type 0 where
  pub birth : new.birth ≡ old.birth
  pub holds : SameHolds before after
  pub names : KeepsNames before after

-- a request is served as its act says, on a connection at whose requests no name comes or goes:
-- this is answered, the connection stands where the act leaves it, and the tree takes the act's
-- change
pub record IsServed (act : Act) (txid : ℕ) (result : Served) (out : Written) (new : Connection)
    (before after : Kept) : Type 0 where
  pub answer : Gives act.answer txid result out
  pub told : act.told ≡ nothing_told
  pub position : new.position ≡ act.position
  pub change : Leads before after act.change
  pub bound : (found : code.Birth) → result ≡ served.Bind found → CanBeBound after found

-- so with nothing changed
abbrev pub IsAnswered : Act → ℕ → Served → Written → Connection → Kept → Type 0
IsAnswered act txid result out connection graph =
    IsServed act txid result out connection graph graph

-- ---- want of memory

-- a change for which memory may be wanting: it makes a node or a name, moves a name, or leaves
-- bytes in a file
abbrev pub takes_memory : Change → Bool
takes_memory (make key row mask) = true
takes_memory (add key to) = true
takes_memory (cut key) = false
takes_memory (move from to) = true
takes_memory (fill number []) = false
takes_memory (fill number (byte ∷ bytes)) = true
takes_memory stay = false

-- nothing was done
pub record IsUntouched (out : Written) (old new : Connection) (before after : Kept) : Type 0 where
  pub connection : new ≡ old
  pub graph : after ≡ before
  pub empty : HasNothing out

-- ---- what a call tells

abbrev pub key_at : At → EdgeKey
key_at at = record { directory = at.dir; name = at.name.now }

-- what watchers are told, as a list
abbrev pub told_by : Changes → List Happening
told_by changes =
    option_to_list (option_map (λ at. removed (key_at at)) changes.removed)
    ++ option_to_list (option_map (λ at. added (key_at at)) changes.added)
    ++ option_to_list (option_map deleted changes.deleted)

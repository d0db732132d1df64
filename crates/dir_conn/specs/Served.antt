-- What a directory's connection answers, what then stands in its output, and what watchers are
-- told.
use Rattle.std.specs.Prelude.{◌≡◌, ℕ, List, Option, Some, None}
use Rattle.fidl_names.specs.declared.methods.Method.TheVariants as method
use Rattle.fidl_wire.specs.Written.{Written}
use Rattle.io_messages.specs.Asked.{Asked}
use Rattle.io_messages.specs.Replies.{done, settled}
use Rattle.io_messages.specs.Tokens.{token_of}
use Rattle.node_graph.specs.Graph.{Kept, Leads}
use Rattle.conn_rules.specs.declared.births.Birth as code
use Rattle.conn_rules.specs.declared.changes.Changes.{Changes}
use Rattle.conn_rules.specs.Answers.{Act, Answer, Happening, nothing_told, replies, closes, binds}
use Rattle.conn_rules.specs.Answers.{watches, forwards, refuses}
use Rattle.dirents.specs.declared.place.Place.{Place}
use Rattle.conn_rules.specs.Births.{Connection, Position}
use Rattle.conn_rules.specs.Served.{HasReply, HasNothing, IsBirth, told_by}
use Rattle.conn_rules.specs.Shared.{CanBeBound}
use Rattle.dir_conn.specs.declared.served.DirServed.{DirServed}
use Rattle.dir_conn.specs.declared.served.DirServed.TheVariants as served

-- the call gives this answer to a request with this transaction id
abbrev pub DirGives : Answer → ℕ → DirServed → Written → Type 0
DirGives (replies a) txid result out =
    ((changes : Changes) × (result ≡ served.Reply changes)) × HasReply txid a out
DirGives closes txid result out = (result ≡ served.ReplyEnd) × HasReply txid (done method.Close) out
DirGives (binds birth announced) txid result out =
    ((found : code.Birth) × ((changes : Changes) × (result ≡ served.Bind found changes)) ×
    IsBirth birth announced found) × HasNothing out
DirGives (watches mask) txid result out =
    (result ≡ served.WatchBy mask) × HasReply txid (settled method.Watch) out
DirGives (forwards mount flags rest) txid result out =
    (result ≡ served.Forward mount flags rest) × HasNothing out
DirGives (refuses status) txid result out = (result ≡ served.Refused status) × HasNothing out
DirGives _ txid result out = ⊥

-- what it tells for watchers
abbrev pub told_with : DirServed → List Happening
told_with (served.Reply changes) = told_by changes
told_with (served.Bind birth changes) = told_by changes
told_with _ = nothing_told

-- a request is served as its act says: this is answered and told, the connection stands where the
-- act leaves it, and the tree takes the act's change
pub record IsDirServed (act : Act) (txid : ℕ) (result : DirServed) (out : Written)
    (new : Connection) (before after : Kept) : Type 0 where
  pub answer : DirGives act.answer txid result out
  pub told : act.told ≡ told_with result
  pub position : new.position ≡ act.position
  pub change : Leads before after act.change
  pub bound : (found : code.Birth) (changes : Changes) → result ≡ served.Bind found changes →
      CanBeBound after found

-- the directory that a token names, where there is a token
abbrev pub named_by : (ℕ → Option ℕ) → Option ℕ → Option ℕ
named_by directory None = None
named_by directory (Some token) = directory token

-- the directory that a request's token names; none where it has no token
abbrev pub directory_named : (ℕ → Option ℕ) → Asked → Option ℕ
directory_named directory request = named_by directory (token_of request)

-- where a connection to a directory stands, by the place of its listing
abbrev pub standing_at : Place → Position
standing_at place = record { offset = 0; place = place }

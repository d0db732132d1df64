-- What a connection of any kind gives does what its act says.
use Rattle.std.proofs.Common.{◌≡◌, ◌≢◌, ◌∙◌, ℕ, List, refl, sym, ap, subst, rules}
use Rattle.fidl_wire.specs.Written.{Written}
use Rattle.node_graph.specs.Graph.{Kept}
use Rattle.conn_rules.specs.declared.births.Birth as code
use Rattle.conn_rules.specs.declared.changes.Changes.{Changes}
use Rattle.conn_rules.specs.declared.served.Served.{Served}
use Rattle.conn_rules.specs.declared.served.Served.TheVariants as served
use Rattle.conn_rules.specs.Answers.{Act, Answer, Happening, nothing_told, replies, closes, binds, watches, forwards, refuses, ends, hangs_up, silent}
use Rattle.conn_rules.specs.Births.{Connection}
use Rattle.conn_rules.specs.Served.{Gives, IsServed, KeepsHolds}
use Rattle.dir_conn.specs.declared.served.DirServed.{DirServed}
use Rattle.dir_conn.specs.declared.served.DirServed.TheVariants as dir
use Rattle.dir_conn.specs.Served.{DirGives, IsDirServed, told_with}
use Rattle.vfs_server.specs.Given.{Given}
use Rattle.vfs_server.specs.Given as given
use Rattle.vfs_server.specs.Steps.{Acts, IsGiven, of_directory, of_other}

-- ---- of a directory's connection

answer_of_directory : (answer : Answer) (txid : ℕ) (what : DirServed) (out : Written) → DirGives answer txid what out → IsGiven answer txid (of_directory what) out
answer_of_directory (replies a) txid what out h = (ap of_directory h.0.1, h.1)
answer_of_directory closes txid what out h = (ap of_directory h.0, h.1)
answer_of_directory (binds birth announced) txid what out h = ((h.0.0, ap of_directory h.0.1.1, h.0.2), h.1)
answer_of_directory (watches mask) txid what out h = (ap of_directory h.0, h.1)
answer_of_directory (forwards mount flags rest) txid what out h = (ap of_directory h.0, h.1)
answer_of_directory (refuses status) txid what out h = (ap of_directory h.0, h.1)
answer_of_directory (ends status) txid what out h = absurd h
answer_of_directory hangs_up txid what out h = absurd h
answer_of_directory silent txid what out h = absurd h

bound_of_directory : (what : DirServed) (birth : code.Birth) → of_directory what ≡ given.Bind birth → (changes : Changes) × (what ≡ dir.Bind birth changes)
bound_of_directory (dir.Reply found) birth is = search rules
bound_of_directory dir.ReplyEnd birth is = search rules
bound_of_directory (dir.Bind found told) birth is = (told, cc)
bound_of_directory (dir.WatchBy mask) birth is = search rules
bound_of_directory (dir.Forward mount flags rest) birth is = search rules
bound_of_directory (dir.Refused status) birth is = search rules
bound_of_directory dir.NoMemory birth is = search rules

pub acts_of_directory : (act : Act) (txid : ℕ) (what : DirServed) (out : Written) (new : Connection) (graph changed : Kept) → IsDirServed act txid what out new graph changed →
    Acts act txid (of_directory what) (told_with what) out new graph changed
acts_of_directory act txid what out new graph changed is = record {
  answer = answer_of_directory act.answer txid what out is.answer;
  tells = is.told;
  position = is.position;
  change = is.change;
  bound = λ birth e. let found = bound_of_directory what birth e in is.bound birth found.0 found.1;
}

-- ---- of any other connection

answer_of : (answer : Answer) (txid : ℕ) (what : Served) (out : Written) → Gives answer txid what out → IsGiven answer txid (of_other what) out
answer_of (replies a) txid what out h = (ap of_other h.0, h.1)
answer_of closes txid what out h = (ap of_other h.0, h.1)
answer_of (binds birth announced) txid what out h = ((h.0.0, ap of_other h.0.1, h.0.2), h.1)
answer_of (watches mask) txid what out h = absurd h
answer_of (forwards mount flags rest) txid what out h = absurd h
answer_of (refuses status) txid what out h = (ap of_other h.0, h.1)
answer_of (ends status) txid what out h = (ap of_other h.0, h.1)
answer_of hangs_up txid what out h = absurd h
answer_of silent txid what out h = absurd h

bound_of : (what : Served) (birth : code.Birth) → of_other what ≡ given.Bind birth → what ≡ served.Bind birth
bound_of served.Reply birth is = search rules
bound_of served.ReplyEnd birth is = search rules
bound_of (served.Bind found) birth is = cc
bound_of (served.Refused status) birth is = search rules
bound_of (served.End status) birth is = search rules
bound_of served.NoMemory birth is = search rules

acts_of : (act : Act) (txid : ℕ) (what : Served) (told : List Happening) (out : Written) (new : Connection) (graph changed : Kept) → told ≡ nothing_told →
    IsServed act txid what out new graph changed → Acts act txid (of_other what) told out new graph changed
acts_of act txid what told out new graph changed none h = record {
  answer = answer_of act.answer txid what out h.answer;
  tells = h.told ∙ sym none;
  position = h.position;
  change = h.change;
  bound = λ birth e. h.bound birth (bound_of what birth e);
}

pub given_other : (act : Act) (txid : ℕ) (what : Served) (g : Given) (told : List Happening) (out : Written) (new : Connection) (graph changed : Kept) → g ≡ of_other what → told ≡ nothing_told →
    IsServed act txid what out new graph changed → Acts act txid g told out new graph changed
given_other act txid what g told out new graph changed is none h = subst (λ one. Acts act txid one told out new graph changed) (sym is) (acts_of act txid what told out new graph changed none h)

pub some_of : (what : Served) → of_other what ≢ given.NoMemory → what ≢ served.NoMemory
some_of what some e = some (ap of_other e)

-- ---- memory

-- memory was wanting, or it wasn't
pub by_memory : (P : Type 0) (what : Served) → (what ≡ served.NoMemory → P) → (what ≢ served.NoMemory → P) → P
by_memory P served.Reply none some = some (λ e. search rules)
by_memory P served.ReplyEnd none some = some (λ e. search rules)
by_memory P (served.Bind birth) none some = some (λ e. search rules)
by_memory P (served.Refused status) none some = some (λ e. search rules)
by_memory P (served.End status) none some = some (λ e. search rules)
by_memory P served.NoMemory none some = none refl

-- what stays as it was
pub all_kept : (connection : Connection) (graph : Kept) → KeepsHolds connection connection graph graph
all_kept connection graph = record { birth = refl; holds = λ number. refl; names = λ node named kept. (named, refl) }

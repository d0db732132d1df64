-- What an answer that is given on a connection says of room, mounts and directories.
use Rattle.std.proofs.Common.{◌≡◌, ◌∙◌, ℕ, false, Some, None, refl, sym, ap, subst, rules}
use Rattle.std.specs.Option.{option_map}
use Rattle.fidl_wire.specs.Written.{Written}
use Rattle.io_messages.specs.declared.protocols.Protocol.{Protocol}
use Rattle.io_messages.specs.declared.protocols.Protocol.TheVariants as protocol
use Rattle.io_messages.specs.Replies.{done, fails, counted, payload, settled, token, attributes, unknown}
use Rattle.node_graph.specs.Tree.{Change, Tree}
use Rattle.conn_rules.specs.declared.births.Birth as code
use Rattle.conn_rules.specs.declared.births.Room.{Room}
use Rattle.conn_rules.specs.Answers.{Answer, replies, closes, binds, watches, forwards, refuses, ends, hangs_up, silent}
use Rattle.conn_rules.specs.Opens.{is_full}
use Rattle.vfs_journal.specs.Outcomes as outcomes
use Rattle.vfs_journal.specs.Outcomes.{Asker, token_of}
use Rattle.vfs_server.specs.Given.{Given}
use Rattle.vfs_server.specs.Given as given
use Rattle.vfs_server.specs.Serving.{HasMount}
use Rattle.vfs_server.specs.Steps.{BindsBy, GoesOnBehind, IsGiven}
use Rattle.vfs_server.proofs.Acting.{CanAnswer, CanBeWatched}

-- no answer but a token's gives one
no_token : (asker : Asker) (answer : Answer) (found : outcomes.Given) → token_of asker answer ≡ None → token_of asker answer ≡ Some found → ⊥
no_token asker answer found none is = let wrong : None ≡ Some found = sym none ∙ is in cc

pub token_of_directory : (p : Protocol) (room : Room) (tree : Tree) (change : Change) (asker : Asker) (answer : Answer) (found : outcomes.Given) → CanAnswer p room tree change answer → token_of asker answer ≡ Some found →
    (p ≡ protocol.Directory) × (room.token ≡ Some found.token)
token_of_directory p room tree change asker (replies (done m)) found h is = absurd (no_token asker (replies (done m)) found refl is)
token_of_directory p room tree change asker (replies (fails m s)) found h is = absurd (no_token asker (replies (fails m s)) found refl is)
token_of_directory p room tree change asker (replies (counted m x)) found h is = absurd (no_token asker (replies (counted m x)) found refl is)
token_of_directory p room tree change asker (replies (payload m bytes)) found h is = absurd (no_token asker (replies (payload m bytes)) found refl is)
token_of_directory p room tree change asker (replies (settled m)) found h is = absurd (no_token asker (replies (settled m)) found refl is)
token_of_directory p room tree change asker (replies (token n)) found h is = (h.0, h.1 ∙ ap (option_map (λ (given : outcomes.Given). given.token)) is)
token_of_directory p room tree change asker (replies (attributes a)) found h is = absurd (no_token asker (replies (attributes a)) found refl is)
token_of_directory p room tree change asker (replies (unknown ordinal)) found h is = absurd (no_token asker (replies (unknown ordinal)) found refl is)
token_of_directory p room tree change asker closes found h is = absurd (no_token asker closes found refl is)
token_of_directory p room tree change asker (binds birth announced) found h is = absurd (no_token asker (binds birth announced) found refl is)
token_of_directory p room tree change asker (watches mask) found h is = absurd (no_token asker (watches mask) found refl is)
token_of_directory p room tree change asker (forwards mount flags rest) found h is = absurd (no_token asker (forwards mount flags rest) found refl is)
token_of_directory p room tree change asker (refuses status) found h is = absurd (no_token asker (refuses status) found refl is)
token_of_directory p room tree change asker (ends status) found h is = absurd (no_token asker (ends status) found refl is)
token_of_directory p room tree change asker hangs_up found h is = absurd (no_token asker hangs_up found refl is)
token_of_directory p room tree change asker silent found h is = absurd (no_token asker silent found refl is)

pub bound_has_room : (p : Protocol) (room : Room) (tree : Tree) (change : Change) (answer : Answer) (txid : ℕ) (what : Given) (out : Written) (birth : code.Birth) → IsGiven answer txid what out → CanAnswer p room tree change answer →
    BindsBy birth what → is_full room ≡ false
bound_has_room p room tree change (replies a) txid what out birth h can e = let wrong = sym h.0 ∙ e in search rules
bound_has_room p room tree change closes txid what out birth h can e = let wrong = sym h.0 ∙ e in search rules
bound_has_room p room tree change (binds b announced) txid what out birth h can e = can
bound_has_room p room tree change (watches mask) txid what out birth h can e = let wrong = sym h.0 ∙ e in search rules
bound_has_room p room tree change (forwards mount flags rest) txid what out birth h can e = let wrong = sym h.0 ∙ e in search rules
bound_has_room p room tree change (refuses status) txid what out birth h can e = let wrong = sym h.0 ∙ e in search rules
bound_has_room p room tree change (ends status) txid what out birth h can e = let wrong = sym h.0 ∙ e in search rules
bound_has_room p room tree change hangs_up txid what out birth h can e = absurd h
bound_has_room p room tree change silent txid what out birth h can e = absurd h

pub onward_is_mounted : (p : Protocol) (room : Room) (tree : Tree) (change : Change) (answer : Answer) (txid : ℕ) (what : Given) (out : Written) (mount : ℕ) → IsGiven answer txid what out → CanAnswer p room tree change answer →
    GoesOnBehind mount what → HasMount tree mount
onward_is_mounted p room tree change (replies a) txid what out mount h can on = absurd (subst (GoesOnBehind mount) h.0 on)
onward_is_mounted p room tree change closes txid what out mount h can on = absurd (subst (GoesOnBehind mount) h.0 on)
onward_is_mounted p room tree change (binds b announced) txid what out mount h can on = absurd (subst (GoesOnBehind mount) h.0.1 on)
onward_is_mounted p room tree change (watches mask) txid what out mount h can on = absurd (subst (GoesOnBehind mount) h.0 on)
onward_is_mounted p room tree change (forwards index flags rest) txid what out mount h can on = subst (HasMount tree) (subst (GoesOnBehind mount) h.0 on) can
onward_is_mounted p room tree change (refuses status) txid what out mount h can on = absurd (subst (GoesOnBehind mount) h.0 on)
onward_is_mounted p room tree change (ends status) txid what out mount h can on = absurd (subst (GoesOnBehind mount) h.0 on)
onward_is_mounted p room tree change hangs_up txid what out mount h can on = absurd h
onward_is_mounted p room tree change silent txid what out mount h can on = absurd h

-- a directory that is to be watched can be
pub watch_has_room : (p : Protocol) (room : Room) (tree : Tree) (change : Change) (answer : Answer) (txid : ℕ) (what : Given) (out : Written) (mask : ℕ) → IsGiven answer txid what out → CanAnswer p room tree change answer →
    what ≡ given.WatchBy mask → CanBeWatched p room change
watch_has_room p room tree change (replies a) txid what out mask h can e = let wrong = sym h.0 ∙ e in search rules
watch_has_room p room tree change closes txid what out mask h can e = let wrong = sym h.0 ∙ e in search rules
watch_has_room p room tree change (binds b announced) txid what out mask h can e = let wrong = sym h.0.1 ∙ e in search rules
watch_has_room p room tree change (watches of) txid what out mask h can e = can
watch_has_room p room tree change (forwards mount flags rest) txid what out mask h can e = let wrong = sym h.0 ∙ e in search rules
watch_has_room p room tree change (refuses status) txid what out mask h can e = let wrong = sym h.0 ∙ e in search rules
watch_has_room p room tree change (ends status) txid what out mask h can e = let wrong = sym h.0 ∙ e in search rules
watch_has_room p room tree change hangs_up txid what out mask h can e = absurd h
watch_has_room p room tree change silent txid what out mask h can e = absurd h

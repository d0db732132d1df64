-- How a row is served, by the replies that stand in the output and what came of the file.
use Rattle.std.proofs.Common.{◌≡◌, ◌∙◌, ℕ, ◌+◌, ◌≤◌, true, List, [], ◌∷◌, length, Option, Some, None, refl, sym, ap, subst, rules}
use Rattle.fidl_names.specs.declared.limits.TheConstants as limit
use Rattle.fidl_names.specs.declared.methods.Method.{Method}
use Rattle.fidl_names.specs.declared.methods.Method.TheVariants as method
use Rattle.fidl_names.specs.declared.statuses.Status.{Status}
use Rattle.fidl_wire.specs.Written.{Written}
use Rattle.io_messages.specs.Replies.{Answered, payload}
use Rattle.node_graph.specs.Graph.{Kept, Leads, Names, StandsFor, bytes_at, number_of}
use Rattle.node_graph.specs.Tree.{Change, Tree}
use Rattle.dirents.specs.declared.place.Place.{Place}
use Rattle.dirents.specs.declared.place.Place.TheVariants.{Start}
use Rattle.conn_rules.specs.declared.births.Birth as code
use Rattle.conn_rules.specs.declared.births.Room.{Room}
use Rattle.conn_rules.specs.declared.served.Served.{Served}
use Rattle.conn_rules.specs.declared.served.Served.TheVariants as served
use Rattle.conn_rules.specs.Answers.{Act, Answer, only, failure_of, replies, nothing_told}
use Rattle.conn_rules.specs.Births.{Connection, Position, connection_with}
use Rattle.conn_rules.specs.Contexts.{context_of}
use Rattle.conn_rules.specs.FileRows.{at_byte, behind_written, part_from, read_act, read_at_act}
use Rattle.conn_rules.specs.Nodes.{bytes_of}
use Rattle.conn_rules.specs.Refusals.{unless}
use Rattle.conn_rules.specs.Served.{IsAnswered, IsServed, takes_memory}
use Rattle.file_conn.proofs.Rows.{bytes_of_row, read_row, read_at_row}

-- an answer that is so on every connection that stays where it is
abbrev pub Answers : Answer → ℕ → Served → Written → Type 0
Answers answer txid result out = (connection : Connection) (graph : Kept) → IsAnswered (only connection.position answer) txid result out connection graph

-- a connection to a file, by its fields
abbrev pub file_at : code.Birth → ℕ → Connection
file_at birth offset = connection_with birth (record { offset = offset; place = Start })

-- the tree has the bytes that were read, or written over
pub held_here : (birth : code.Birth) (old : Connection) (tree : Tree) (graph : Kept) (held : List ℕ) → birth ≡ old.birth → StandsFor graph tree → Names graph old.birth.node →
    held ≡ bytes_at graph (number_of birth.node) → bytes_of tree (number_of old.birth.node) ≡ held
held_here birth old tree graph held same stands named kept =
    bytes_of_row graph tree old.birth.node stands named ∙ sym (subst (λ b. held ≡ bytes_at graph (number_of b.node)) same kept)

no_bind : (result : Served) (found : code.Birth) → result ≡ served.Reply → result ≡ served.Bind found → ⊥
no_bind result found replied bound = let wrong = sym replied ∙ bound in search rules

-- a reply on a connection that moved
pub moved_served : (position : Position) (answered : Answered) (txid : ℕ) (result : Served) (out : Written) (new : Connection) (graph : Kept) → new.position ≡ position →
    Answers (replies answered) txid result out → IsAnswered (only position (replies answered)) txid result out new graph
moved_served position answered txid result out new graph at replied =
    subst (λ p. IsAnswered (only p (replies answered)) txid result out new graph) at (replied new graph)

-- a reply where the change was made
pub made_served : (refusal : Option Status) (old : Position) (m : Method) (answered : Answered) (position : Position) (change : Change) (txid : ℕ) (result : Served) (out : Written) (new : Connection) (before after : Kept) →
    refusal ≡ None → new.position ≡ position → Leads before after change → Answers (replies answered) txid result out →
    IsServed (unless refusal old m (record { answer = replies answered; position = position; change = change; told = nothing_told })) txid result out new before after
made_served refusal old m answered position change txid result out new before after is at leads replied =
    subst (λ r. IsServed (unless r old m (record { answer = replies answered; position = position; change = change; told = nothing_told })) txid result out new before after) (sym is)
    (record {
      answer = (replied new before).answer;
      told = refl;
      position = at;
      change = leads;
      bound = λ found bound. absurd (no_bind result found (replied new before).answer.0 bound);
    })

-- a failure where the change was refused
pub refused_served : (refusal : Option Status) (given : Status) (m : Method) (act : Act) (txid : ℕ) (result : Served) (out : Written) (old : Connection) (before after : Kept) →
    refusal ≡ Some given → after ≡ before → Answers (failure_of m given) txid result out → IsServed (unless refusal old.position m act) txid result out old before after
refused_served refusal given m act txid result out old before after is same failed =
    subst (λ r. IsServed (unless r old.position m act) txid result out old before after) (sym is)
    (subst (λ graph. IsServed (only old.position (failure_of m given)) txid result out old before graph) (sym same) (failed old before))

-- what isn't refused takes memory where its change does
pub wanting_takes : (refusal : Option Status) (position : Position) (m : Method) (act : Act) → refusal ≡ None → takes_memory act.change ≡ true → takes_memory (unless refusal position m act).change ≡ true
wanting_takes refusal position m act is takes = subst (λ r. takes_memory (unless r position m act).change ≡ true) (sym is) takes

-- ---- reading

pub read_served : (birth : code.Birth) (offset : ℕ) (old : Connection) (room : Room) (tree : Tree) (directory : ℕ → Option ℕ) (graph : Kept) (count : ℕ) (held part : List ℕ) (txid : ℕ) (result : Served) (out : Written) →
    file_at birth offset ≡ old → StandsFor graph tree → Names graph old.birth.node → held ≡ bytes_at graph (number_of birth.node) → count ≤ limit.MAX_CHUNK → part ≡ part_from offset count held →
    Answers (replies (payload method.Read part)) txid result out →
    IsAnswered (read_act (context_of old room tree directory) count) txid result out (file_at birth (offset + length part)) graph
read_served birth offset old room tree directory graph count held part txid result out same stands named kept few is replied =
    subst (λ act. IsAnswered act txid result out (file_at birth (offset + length part)) graph)
    (sym (read_row (context_of old room tree directory) count held part (held_here birth old tree graph held (ap (λ conn. conn.birth) same) stands named kept) few (subst (λ conn. part ≡ part_from conn.position.offset count held) same is)))
    (moved_served (at_byte old.position (old.position.offset + length part)) (payload method.Read part) txid result out (file_at birth (offset + length part)) graph
    (ap (λ conn. at_byte conn.position (conn.position.offset + length part)) same) replied)

pub read_at_served : (birth : code.Birth) (old : Connection) (room : Room) (tree : Tree) (directory : ℕ → Option ℕ) (graph : Kept) (count offset : ℕ) (held part : List ℕ) (txid : ℕ) (result : Served) (out : Written) →
    birth ≡ old.birth → StandsFor graph tree → Names graph old.birth.node → held ≡ bytes_at graph (number_of birth.node) → count ≤ limit.MAX_CHUNK → part ≡ part_from offset count held →
    Answers (replies (payload method.ReadAt part)) txid result out →
    IsAnswered (read_at_act (context_of old room tree directory) count offset) txid result out old graph
read_at_served birth old room tree directory graph count offset held part txid result out same stands named kept few is replied =
    subst (λ act. IsAnswered act txid result out old graph)
    (sym (read_at_row (context_of old room tree directory) count offset held part (held_here birth old tree graph held same stands named kept) few is))
    (replied old graph)

-- ---- positions of files

at_place : (position : Position) (offset : ℕ) (place : Place) → offset ≡ position.offset → position.place ≡ place → record { offset = offset; place = place } ≡ position
at_place position offset place at is =
    subst (λ p. record { offset = offset; place = p } ≡ position) is (ap (λ o. at_byte position o) at)

place_behind : (position : Position) (from : ℕ) (bytes : List ℕ) → (behind_written position from bytes).place ≡ position.place
place_behind position from [] = refl
place_behind position from (byte ∷ bytes) = refl

-- where a connection stands behind what was written
pub behind_at : (birth : code.Birth) (offset : ℕ) (old : Connection) (from : ℕ) (bytes : List ℕ) (found : ℕ) → file_at birth offset ≡ old → found ≡ (behind_written old.position from bytes).offset →
    (file_at birth found).position ≡ behind_written old.position from bytes
behind_at birth offset old from bytes found same at =
    at_place (behind_written old.position from bytes) found Start at (place_behind old.position from bytes ∙ sym (ap (λ conn. conn.position.place) same))

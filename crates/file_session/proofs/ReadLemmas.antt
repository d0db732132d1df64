-- A Read that was served on the connection to the one file.
use Rattle.std.proofs.Common.{◌≡◌, ◌≢◌, ℕ, Bool, true, List, [], ◌++◌, Option, None, sym, ap, ◌∙◌, subst, append-nil}
use Rattle.fidl_wire.specs.Written.{Written}
use Rattle.io_messages.specs.Asked as asks
use Rattle.link_frames.specs.Frames.{frame_with, spelling, spellings}
use Rattle.link_frames.specs.declared.kinds.FrameKind.TheVariants as kind
use Rattle.node_graph.specs.Graph.{Kept, StandsFor}
use Rattle.node_graph.specs.Tree.{Tree}
use Rattle.conn_rules.specs.declared.served.Served.{Served}
use Rattle.conn_rules.specs.declared.served.Served.TheVariants as served
use Rattle.conn_rules.specs.Acts.{act_of}
use Rattle.conn_rules.specs.Answers.{Act}
use Rattle.conn_rules.specs.Births.{Connection, Position, born}
use Rattle.conn_rules.specs.Births as births
use Rattle.conn_rules.specs.Contexts.{context_of, context_with}
use Rattle.conn_rules.specs.FileRows.{is_too_much}
use Rattle.conn_rules.specs.Served.{IsServed, KeepsHolds, takes_memory}
use Rattle.file_session.specs.Bound.{IsBoundTo}
use Rattle.file_session.specs.OneFile.{Hears, in_use, read_at, read_outcome, tree_of, birth}
use Rattle.file_session.proofs.BoundLemmas.{stays_bound}
use Rattle.file_session.proofs.RowLemmas.{no_memory, read_frames, read_row, row_of, served_row}

-- the row that the code comes to is the session's
as_bound : (file : List ℕ) (connection : Connection) (count : ℕ) → born connection.birth ≡ birth →
    act_of (context_of connection in_use (tree_of file) (λ _. None)) (asks.read count) ≡ read_at file connection.position count
as_bound file connection count is =
    ap (λ (b : births.Birth). act_of (context_with b connection.position in_use (tree_of file) (λ _. None)) (asks.read count)) is

module _ (file : List ℕ) (old new : Connection) (before later : Kept) (count txid : ℕ) (result : Served) (out : Written) (bound : IsBoundTo file before old) where
  pub has_memory : ((tree : Tree) (directory : ℕ → Option ℕ) → StandsFor before tree → result ≡ served.NoMemory →
      takes_memory (act_of (context_of old in_use tree directory) (asks.read count)).change ≡ true) → result ≢ served.NoMemory
  has_memory memory = λ wants.
      no_memory file old.position count
      (subst (λ (act : Act). takes_memory act.change ≡ true) (as_bound file old count bound.birth_is) (memory (tree_of file) (λ _. None) bound.tree wants))

  pub is_served : ((tree : Tree) (directory : ℕ → Option ℕ) → StandsFor before tree → result ≢ served.NoMemory →
      IsServed (act_of (context_of old in_use tree directory) (asks.read count)) txid result out new before later) → result ≢ served.NoMemory →
      IsServed (row_of file old.position count (is_too_much count)) txid result out new before later
  is_served serves has =
      served_row file old.position count txid result out new before later
      (subst (λ (act : Act). IsServed act txid result out new before later) (as_bound file old count bound.birth_is) (serves (tree_of file) (λ _. None) bound.tree has))

  pub still_bound : IsServed (row_of file old.position count (is_too_much count)) txid result out new before later → KeepsHolds old new before later → IsBoundTo file later new
  still_bound is keeps = stays_bound file old new before later bound keeps is.change

  pub read_is_heard : (live : Bool) (held held' : List ℕ) → IsServed (row_of file old.position count (is_too_much count)) txid result out new before later →
      held' ≡ held ++ spelling (frame_with 1 kind.Message [] out.bytes) →
      Hears (read_outcome file (record { live = live; position = old.position }) txid count) (record { live = live; position = new.position }) held held'
  read_is_heard live held held' is put = record {
    frames =
        put ∙ ap (λ l. held ++ l) (sym (append-nil (spelling (frame_with 1 kind.Message [] out.bytes))))
        ∙ ap (λ fs. held ++ spellings fs) (read_frames file old.position count txid out.bytes is.answer.1.bytes);
    stands =
        ap (λ (p : Position). record { live = live; position = p }) (is.position ∙ sym (ap (λ (act : Act). act.position) (read_row file old.position count)));
  }

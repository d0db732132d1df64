-- What the row of Read says of the one file.
use Rattle.std.proofs.Common.{◌≡◌, ℕ, ◌+◌, Bool, true, false, List, [], ◌∷◌, length, map, refl, sym, ap, ◌∙◌, subst}
use Rattle.fidl_names.specs.declared.methods.Method.TheVariants as method
use Rattle.fidl_names.specs.declared.statuses.Status.TheVariants as status
use Rattle.fidl_names.specs.HandleNumber.{number_of_handle}
use Rattle.fidl_names.specs.First.{cause_if, first_of}
use Rattle.fidl_wire.specs.Written.{Written}
use Rattle.io_messages.specs.Replies.{Answered, fails, payload}
use Rattle.io_messages.specs.ReplyWriting.{reply_bytes, reply_handles}
use Rattle.io_rights.specs.Operations.{is_within}
use Rattle.link_frames.specs.Frames.{frame_with}
use Rattle.link_frames.specs.declared.kinds.FrameKind.TheVariants as kind
use Rattle.node_graph.specs.Graph.{Kept}
use Rattle.conn_rules.specs.declared.served.Served.{Served}
use Rattle.conn_rules.specs.Acts.{act_of}
use Rattle.conn_rules.specs.Answers.{Act, only, replies}
use Rattle.conn_rules.specs.Births.{Connection, Position}
use Rattle.conn_rules.specs.FileRows.{at_byte, is_too_much, part_from}
use Rattle.conn_rules.specs.Refusals.{unless}
use Rattle.conn_rules.specs.Served.{IsServed, takes_memory}
use Rattle.vfs_journal.specs.Outcomes.{frames_of}
use Rattle.file_session.specs.OneFile.{asker, read_at}

-- the reply to a Read and the position that it leaves, by whether it asks for too much
abbrev pub reply_of : List ℕ → Position → ℕ → Bool → Answered
reply_of file position count true = fails method.Read status.OutOfRange
reply_of file position count false = payload method.Read (part_from position.offset count file)

abbrev pub place_of : List ℕ → Position → ℕ → Bool → Position
place_of file position count true = position
place_of file position count false = at_byte position (position.offset + length (part_from position.offset count file))

abbrev pub row_of : List ℕ → Position → ℕ → Bool → Act
row_of file position count much = only (place_of file position count much) (replies (reply_of file position count much))

by_size : (file : List ℕ) (position : Position) (count : ℕ) (much : Bool) →
    unless (first_of (cause_if much status.OutOfRange ∷ [])) position method.Read
    (only (at_byte position (position.offset + length (part_from position.offset count file))) (replies (payload method.Read (part_from position.offset count file))))
    ≡ row_of file position count much
by_size file position count true = refl
by_size file position count false = refl

pub read_row : (file : List ℕ) (position : Position) (count : ℕ) → read_at file position count ≡ row_of file position count (is_too_much count)
unfolding act_of is_within
read_row file position count = by_size file position count (is_too_much count)

no_handles : (file : List ℕ) (position : Position) (count : ℕ) (much : Bool) → map number_of_handle (reply_handles (reply_of file position count much)) ≡ []
no_handles file position count true = refl
no_handles file position count false = refl

-- ---- as it is served

pub served_row : (file : List ℕ) (position : Position) (count txid : ℕ) (result : Served) (out : Written) (new : Connection) (before after : Kept) →
    IsServed (read_at file position count) txid result out new before after → IsServed (row_of file position count (is_too_much count)) txid result out new before after
served_row file position count txid result out new before after is =
    subst (λ act. IsServed act txid result out new before after) (read_row file position count) is

-- it takes no memory
pub no_memory : (file : List ℕ) (position : Position) (count : ℕ) → takes_memory (read_at file position count).change ≡ true → ⊥
no_memory file position count takes =
    let wrong : false ≡ true = sym (ap (λ (act : Act). takes_memory act.change) (read_row file position count)) ∙ takes in
    absurd (cc)

-- the reply is one frame without handles
pub read_frames : (file : List ℕ) (position : Position) (count txid : ℕ) (bytes : List ℕ) → bytes ≡ reply_bytes txid (reply_of file position count (is_too_much count)) →
    frame_with 1 kind.Message [] bytes ∷ [] ≡ frames_of (asker txid) (read_at file position count).answer
read_frames file position count txid bytes is =
    ap (λ b. frame_with 1 kind.Message [] b ∷ []) is
    ∙ ap (λ hs. frame_with 1 kind.Message hs (reply_bytes txid (reply_of file position count (is_too_much count))) ∷ []) (sym (no_handles file position count (is_too_much count)))
    ∙ sym (ap (λ (act : Act). frames_of (asker txid) act.answer) (read_row file position count))

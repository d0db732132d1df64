-- What comes back for the frames of one file's client.
use Rattle.std.proofs.Common.{◌≡◌, ℕ, ◌+◌, Bool, true, false, if◌then◌else◌, length, ◌&&◌, ◌==◌, List, [], ◌∷◌, ◌++◌, refl, sym, ap, ◌∙◌, subst, append_assoc, append-nil, ◌⊎◌, inl, inr}
use Rattle.std.specs.Prelude.{nat_le}
use Rattle.std.proofs.lemmas.Bool.{eqb-true}
use Rattle.link_frames.specs.Frames.{Frame, frame_with}
use Rattle.fidl_names.specs.First.{cause_if}
use Rattle.fidl_names.specs.HandleNumber.{is_client}
use Rattle.link_frames.specs.declared.kinds.FrameKind.{FrameKind}
use Rattle.link_frames.specs.declared.kinds.FrameKind.TheVariants as kind
use Rattle.link_frames.specs.declared.kinds.Refusal.TheVariants as refusal
use Rattle.fidl_names.specs.declared.methods.Method.TheVariants as method
use Rattle.fidl_names.specs.declared.statuses.Status.TheVariants as status
use Rattle.io_messages.specs.Replies.{fails, payload}
use Rattle.io_messages.specs.ReplyWriting.{reply_bytes}
use Rattle.conn_rules.specs.Answers.{Act}
use Rattle.dirents.specs.declared.place.Place.TheVariants.{Start}
use Rattle.conn_rules.specs.Births.{Position}
use Rattle.conn_rules.specs.FileRows.{is_too_much, part_from}
use Rattle.vfs_journal.specs.Outcomes.{frames_of}
use Rattle.file_session.specs.OneFile.{Standing, Outcome, Meaning, Reads, Ends, meaning_of, asker, outcome, by_refusal, read_outcome, answered, answers, after}
use Rattle.file_session.proofs.RowLemmas.{row_of, place_of, read_row}
use Rattle.file_session.specs.Seen.{reply_to, position_after, Use, Asks, EndsIt, Idle, use_of, use_by, use_of_message, reads_by, reads_of, epitaph_by, epitaph_of, message_in, messages_of, replies, position_after_all}

messages_of-append : (a b : List Frame) → messages_of (a ++ b) ≡ messages_of a ++ messages_of b
messages_of-append [] b = refl
messages_of-append (f ∷ a) b =
    ap (λ l. message_in f.kind f.bytes ++ l) (messages_of-append a b) ∙ sym (append_assoc (message_in f.kind f.bytes) (messages_of a) (messages_of b))

abbrev at_byte : ℕ → Position
at_byte p = record { offset = p; place = Start }

abbrev live_at : ℕ → Standing
live_at p = record { live = true; position = at_byte p }

abbrev dead_at : ℕ → Standing
dead_at p = record { live = false; position = at_byte p }

-- what a frame leads to, by what it is for the live endpoint
abbrev Leads : Use → List ℕ → ℕ → Outcome → Type 0
Leads (Asks read) file p o = (messages_of o.frames ≡ reply_to file p read ∷ []) × (o.next ≡ live_at (position_after file p read))
Leads (EndsIt told) file p o = (messages_of o.frames ≡ told) × (o.next ≡ dead_at p)
Leads Idle file p o = (messages_of o.frames ≡ []) × (o.next ≡ live_at p)

-- a frame that is written for no message, and changes nothing
abbrev Passes : Standing → Outcome → Type 0
Passes now o = (messages_of o.frames ≡ []) × (o.next ≡ now)

read_told : (file : List ℕ) (p txid count : ℕ) (much : Bool) →
    messages_of (frames_of (asker txid) (row_of file (at_byte p) count much).answer)
    ≡ (if much then reply_bytes txid (fails method.Read status.OutOfRange) else reply_bytes txid (payload method.Read (part_from p count file))) ∷ []
read_told file p txid count true = refl
read_told file p txid count false = refl

read_moves : (file : List ℕ) (p count : ℕ) (much : Bool) → place_of file (at_byte p) count much ≡ at_byte (if much then p else p + length (part_from p count file))
read_moves file p count true = refl
read_moves file p count false = refl

read_leads : (file : List ℕ) (p txid count : ℕ) → Leads (Asks (record { txid = txid; count = count })) file p (read_outcome file (live_at p) txid count)
read_leads file p txid count =
    let row = read_row file (at_byte p) count in (
      ap (λ (act : Act). messages_of (frames_of (asker txid) act.answer)) row ∙ read_told file p txid count (is_too_much count),
      ap (λ (position : Position). record { live = true; position = position }) (ap (λ (act : Act). act.position) row ∙ read_moves file p count (is_too_much count)),
    )

answered_leads : (file : List ℕ) (p : ℕ) (m : Meaning) → Leads (use_of_message m) file p (answered file (live_at p) m)
answered_leads file p (Reads txid count) = read_leads file p txid count
answered_leads file p (Ends status) = (refl, refl)

and-false : (b : Bool) → (b && false) ≡ false
and-false true = refl
and-false false = refl

-- a refusal, or nothing for a Turn
turn_passes : (file : List ℕ) (now : Standing) (e : ℕ) (hs b : List ℕ) (late : Bool)
    → Passes now (by_refusal file now (frame_with e kind.Turn hs b) (cause_if late refusal.BadHandle))
turn_passes file now e hs b true = (refl, refl)
turn_passes file now e hs b false = (refl, refl)

-- frames on endpoint 1
one_leads : (file : List ℕ) (p : ℕ) (k : FrameKind) (hs b : List ℕ) → Leads (use_by k hs b) file p (outcome file (live_at p) (frame_with 1 k hs b))
unfolding outcome
one_leads file p kind.Message [] b = answered_leads file p (meaning_of b)
one_leads file p kind.Message (h ∷ hs) b = rw (and-false (is_client h)) (refl, refl)
one_leads file p kind.Close hs b = (refl, refl)
one_leads file p kind.Turn hs b = (refl, refl)
one_leads file p kind.Pick hs b = (refl, refl)
one_leads file p kind.Refused hs b = (refl, refl)

-- frames on other numbers are refused, or serve nothing
other_passes : (file : List ℕ) (now : Standing) (e : ℕ) (k : FrameKind) (hs b : List ℕ) → (e == 1) ≡ false → Passes now (outcome file now (frame_with e k hs b))
unfolding outcome
other_passes file now e kind.Message hs b other = rw other (refl, refl)
other_passes file now e kind.Close hs b other = rw other (refl, refl)
other_passes file now e kind.Turn hs b other = turn_passes file now e hs b (nat_le 1 e)
other_passes file now e kind.Pick hs b other = rw other (refl, refl)
other_passes file now e kind.Refused hs b other = (refl, refl)

-- frames behind the end of endpoint 1 are refused, or serve nothing
dead_passes : (file : List ℕ) (p : ℕ) (k : FrameKind) (hs b : List ℕ) → Passes (dead_at p) (outcome file (dead_at p) (frame_with 1 k hs b))
unfolding outcome
dead_passes file p kind.Message hs b = (refl, refl)
dead_passes file p kind.Close hs b = (refl, refl)
dead_passes file p kind.Turn hs b = (refl, refl)
dead_passes file p kind.Pick hs b = (refl, refl)
dead_passes file p kind.Refused hs b = (refl, refl)

-- a number is 1 or another
one_or_other : (e : ℕ) (b : Bool) → (e == 1) ≡ b → (e ≡ 1) ⊎ ((e == 1) ≡ false)
one_or_other e true h = inl (eqb-true e 1 h)
one_or_other e false h = inr h

idle_leads : (file : List ℕ) (p : ℕ) (f : Frame) → (f.endpoint == 1) ≡ false → Leads (use_of f) file p (outcome file (live_at p) f)
idle_leads file p f other =
    rw other (other_passes file (live_at p) f.endpoint f.kind f.handles f.bytes other)

leads_by : (file : List ℕ) (p e : ℕ) (k : FrameKind) (hs b : List ℕ) → (e ≡ 1) ⊎ ((e == 1) ≡ false) → Leads (use_of (frame_with e k hs b)) file p (outcome file (live_at p) (frame_with e k hs b))
leads_by file p e k hs b (inl one) =
    subst (λ n. Leads (use_of (frame_with n k hs b)) file p (outcome file (live_at p) (frame_with n k hs b))) (sym one) (one_leads file p k hs b)
leads_by file p e k hs b (inr other) = idle_leads file p (frame_with e k hs b) other

pub leads : (file : List ℕ) (p : ℕ) (f : Frame) → Leads (use_of f) file p (outcome file (live_at p) f)
leads file p f = leads_by file p f.endpoint f.kind f.handles f.bytes (one_or_other f.endpoint (f.endpoint == 1) refl)

dead_by : (file : List ℕ) (p e : ℕ) (k : FrameKind) (hs b : List ℕ) → (e ≡ 1) ⊎ ((e == 1) ≡ false) → Passes (dead_at p) (outcome file (dead_at p) (frame_with e k hs b))
dead_by file p e k hs b (inl one) =
    subst (λ n. Passes (dead_at p) (outcome file (dead_at p) (frame_with n k hs b))) (sym one) (dead_passes file p k hs b)
dead_by file p e k hs b (inr other) = other_passes file (dead_at p) e k hs b other

-- behind the end nothing is told, and the position stays
dead_law : (file : List ℕ) (p : ℕ) (frames : List Frame) → (messages_of (answers file (dead_at p) frames) ≡ []) × (after file (dead_at p) frames ≡ dead_at p)
dead_law file p [] = (refl, refl)
dead_law file p (f ∷ frames) =
    let o = outcome file (dead_at p) f in
    let step = dead_by file p f.endpoint f.kind f.handles f.bytes (one_or_other f.endpoint (f.endpoint == 1) refl) in
    let rest = dead_law file p frames in (
      messages_of-append o.frames (answers file o.next frames) ∙ ap (λ l. l ++ messages_of (answers file o.next frames)) step.0
          ∙ ap (λ (s : Standing). messages_of (answers file s frames)) step.1 ∙ rest.0,
      ap (λ (s : Standing). after file s frames) step.1 ∙ rest.1,
    )

-- one frame more, by what it is
step_by : (file : List ℕ) (p : ℕ) (frames : List Frame) (u : Use) (o : Outcome) → Leads u file p o
    → ((q : ℕ) → (messages_of (answers file (live_at q) frames) ≡ replies file q (reads_of frames) ++ epitaph_of frames) × ((after file (live_at q) frames).position.offset ≡ position_after_all file q (reads_of frames)))
    → (messages_of o.frames ++ messages_of (answers file o.next frames) ≡ replies file p (reads_by u (reads_of frames)) ++ epitaph_by u (epitaph_of frames))
    × ((after file o.next frames).position.offset ≡ position_after_all file p (reads_by u (reads_of frames)))
step_by file p frames (Asks read) o l next =
    let q = position_after file p read in (
      ap (λ m. m ++ messages_of (answers file o.next frames)) l.0 ∙ ap (λ (s : Standing). reply_to file p read ∷ messages_of (answers file s frames)) l.1
          ∙ ap (λ m. reply_to file p read ∷ m) (next q).0,
      ap (λ (s : Standing). (after file s frames).position.offset) l.1 ∙ (next q).1,
    )
step_by file p frames (EndsIt told) o l next =
    let dead = dead_law file p frames in (
      ap (λ m. m ++ messages_of (answers file o.next frames)) l.0 ∙ ap (λ (s : Standing). told ++ messages_of (answers file s frames)) l.1
          ∙ ap (λ m. told ++ m) dead.0 ∙ append-nil told,
      ap (λ (s : Standing). (after file s frames).position.offset) l.1 ∙ ap (λ (s : Standing). s.position.offset) dead.1,
    )
step_by file p frames Idle o l next = (
  ap (λ m. m ++ messages_of (answers file o.next frames)) l.0 ∙ ap (λ (s : Standing). messages_of (answers file s frames)) l.1 ∙ (next p).0,
  ap (λ (s : Standing). (after file s frames).position.offset) l.1 ∙ (next p).1,
)

pub live_law : (file : List ℕ) (frames : List Frame) (p : ℕ) → (messages_of (answers file (live_at p) frames) ≡ replies file p (reads_of frames) ++ epitaph_of frames)
    × ((after file (live_at p) frames).position.offset ≡ position_after_all file p (reads_of frames))
live_law file [] p = (refl, refl)
live_law file (f ∷ frames) p =
    let o = outcome file (live_at p) f in
    let step = step_by file p frames (use_of f) o (leads file p f) (live_law file frames) in
    (messages_of-append o.frames (answers file o.next frames) ∙ step.0, step.1)

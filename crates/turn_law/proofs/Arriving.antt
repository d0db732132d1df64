-- The invariant behind a frame that arrives.
use Rattle.std.proofs.Common.{◌≡◌, ℕ, zero, suc, ◌==◌, ◌&&◌, ◌||◌, Bool, true, false, not, is_some, List, [], ◌∷◌, ◌++◌, length, filter_map, reverse, take, Option, Some, None, if◌then◌else◌, refl, sym, ap, ◌∙◌, length-append, arith}
use Rattle.std.specs.List.{list_all, list_any}
use Rattle.std.specs.Prelude.{option_to_list}
use Rattle.std.proofs.lemmas.Bool.{eqb-false, eqb-true, or_parts, true≢false}
use Rattle.std.proofs.lemmas.List.{map-append}
use Rattle.fidl_names.specs.HandleNumber.{is_client}
use Rattle.wire_laws.specs.Laws.{SpelledWhereRead}
use Rattle.link_frames.specs.Frames.{Frame}
use Rattle.link_admission.specs.Numbering.{among}
use Rattle.conn_rules.specs.Births.{Position}
use Rattle.vfs_journal.specs.Entries.{Sending, Sent}
use Rattle.vfs_journal.specs.Starts.{Bound, Start}
use Rattle.journal_laws.specs.Soundness.{IsStart}
use Rattle.journal_laws.proofs.Lists.{filter_map-more}
use Rattle.turn_law.specs.Counting.{before, counting, counts_on, is_close, is_named, is_open, last_sendings}
use Rattle.turn_law.specs.Invariant.{IsAsTold}
use Rattle.turn_law.specs.Tables.{SaySame}
use Rattle.turn_law.specs.Told.{is_heard, is_new, sending_by, table_of}
use Rattle.turn_law.proofs.Hearing.{first_open, unheard_table}
use Rattle.turn_law.proofs.Touching.{frames_touch}

-- ---- what no frame names

unnamed_parts : (a b c : Bool) → (a || (b || c)) ≡ false → (b ≡ false) × ((a || c) ≡ false)
unnamed_parts true b c h = absurd (cc)
unnamed_parts false true c h = absurd (cc)
unnamed_parts false false c h = (refl, h)

pub no_life : (start : Start) (frame : Frame) (frames : List Frame) (n : ℕ) → (table_of start frames).life n ≡ None → frame.endpoint ≡ n → is_heard start (table_of start frames) frame ≡ false
no_life start frame frames n none at =
    ap (λ (m : ℕ). is_client m && (is_some ((table_of start frames).life m) && list_all (is_new start) frame.handles)) at
    ∙ ap (λ (o : Option (Bound × Position)). is_client n && (is_some o && list_all (is_new start) frame.handles)) none
    ∙ none_right (is_client n) where
      none_right : (b : Bool) → (b && false) ≡ false
      none_right true = refl
      none_right false = refl

-- it has no life, and is told nothing
pub record IsUntold (start : Start) (frames : List Frame) (n : ℕ) : Type 0 where
  pub life : (table_of start frames).life n ≡ None
  pub told : (table_of start frames).told n ≡ []

untold_by : SpelledWhereRead → (start : Start) (frame : Frame) (frames : List Frame) (n : ℕ) → is_client n ≡ true → among n frame.handles ≡ false → IsUntold start frames n → (here : Bool) → (frame.endpoint == n) ≡ here → IsUntold start (frame ∷ frames) n
untold_by law start frame frames n client uncarried before true e =
    let same = unheard_table start frame frames (no_life start frame frames n before.life (eqb-true frame.endpoint n e)) in
    record { life = ap (λ t. t.life n) same ∙ before.life; told = ap (λ t. t.told n) same ∙ before.told }
untold_by law start frame frames n client uncarried before false e =
    let same = frames_touch law start frame frames n client (eqb-false frame.endpoint n e) uncarried in
    record { life = same.life ∙ before.life; told = same.told ∙ before.told }

pub unnamed_untold : SpelledWhereRead → (start : Start) (frames : List Frame) (n : ℕ) → IsStart start → is_client n ≡ true → is_named start frames n ≡ false → IsUntold start frames n
unfolding table_of
unnamed_untold law start [] n s client unnamed = record { life = by_life ((table_of start []).life n) refl; told = refl } where
  by_life : (o : Option (Bound × Position)) → (table_of start []).life n ≡ o → (table_of start []).life n ≡ None
  by_life None e = e
  by_life (Some pair) e =
      absurd (true≢false (sym (first_open start n pair s client e) ∙ (or_parts (list_any (λ bound. bound.endpoint == n) start.firsts) false unnamed).0))
unnamed_untold law start (frame ∷ frames) n s client unnamed =
    let parts = unnamed_parts (list_any (λ bound. bound.endpoint == n) start.firsts) (among n frame.handles) (list_any (λ f. among n f.handles) frames) unnamed in
    untold_by law start frame frames n client parts.0 (unnamed_untold law start frames n s client parts.1) (frame.endpoint == n) refl

pub unnamed_closed : (start : Start) (frames : List Frame) (n : ℕ) → is_named start frames n ≡ false → is_open start n frames ≡ false
unfolding is_open
unnamed_closed start [] n unnamed = (or_parts (list_any (λ bound. bound.endpoint == n) start.firsts) false unnamed).0
unnamed_closed start (frame ∷ frames) n unnamed =
    let parts = unnamed_parts (list_any (λ bound. bound.endpoint == n) start.firsts) (among n frame.handles) (list_any (λ f. among n f.handles) frames) unnamed in
    ap (λ (b : Bool). (b && is_new start n) || (is_open start n frames && not (is_close frame.kind && (frame.endpoint == n)))) parts.0
    ∙ ap (λ (b : Bool). b && not (is_close frame.kind && (frame.endpoint == n))) (unnamed_closed start frames n parts.1)

pub closed_counts : (start : Start) (frames : List Frame) (frame : Frame) (n : ℕ) → is_open start n frames ≡ false → counts_on start n frames frame ≡ false
closed_counts start frames frame n closed =
    ap (λ (b : Bool). (frame.endpoint == n) && (b && list_all (is_new start) frame.handles)) closed ∙ none_right (frame.endpoint == n) where
      none_right : (b : Bool) → (b && false) ≡ false
      none_right true = refl
      none_right false = refl

pub unnamed_counting : (start : Start) (frames : List Frame) (n : ℕ) → is_named start frames n ≡ false → counting start n frames ≡ []
unfolding counting
unnamed_counting start [] n unnamed = refl
unnamed_counting start (frame ∷ frames) n unnamed =
    let parts = unnamed_parts (list_any (λ bound. bound.endpoint == n) start.firsts) (among n frame.handles) (list_any (λ f. among n f.handles) frames) unnamed in
    ap (λ (b : Bool). if b then frame ∷ counting start n frames else counting start n frames) (closed_counts start frames frame n (unnamed_closed start frames n parts.1))
    ∙ unnamed_counting start frames n parts.1

-- ---- one frame more

pub uncounted_more : (start : Start) (n : ℕ) (frame : Frame) (frames : List Frame) → counts_on start n frames frame ≡ false → counting start n (frame ∷ frames) ≡ counting start n frames
unfolding counting
uncounted_more start n frame frames uncounted = ap (λ (b : Bool). if b then frame ∷ counting start n frames else counting start n frames) uncounted

pub counted_more : (start : Start) (n : ℕ) (frame : Frame) (frames : List Frame) → counts_on start n frames frame ≡ true → counting start n (frame ∷ frames) ≡ frame ∷ counting start n frames
unfolding counting
counted_more start n frame frames counts = ap (λ (b : Bool). if b then frame ∷ counting start n frames else counting start n frames) counts

pub before_uncounted : (start : Start) (n ahead : ℕ) (frame : Frame) (frames : List Frame) → counts_on start n frames frame ≡ false → SaySame n (table_of start (frame ∷ frames)) (table_of start frames) →
    SaySame n (table_of start (before start n ahead (frame ∷ frames))) (table_of start (before start n ahead frames))
unfolding before
before_uncounted start n zero frame frames uncounted same = same
before_uncounted start n (suc ahead) frame frames uncounted same =
    let e = ap (λ (b : Bool). table_of start (if b then before start n ahead frames else before start n (suc ahead) frames)) uncounted in
    record { life = ap (λ t. t.life n) e; told = ap (λ t. t.told n) e }

pub before_counted : (start : Start) (n ahead : ℕ) (frame : Frame) (frames : List Frame) → counts_on start n frames frame ≡ true → before start n (suc ahead) (frame ∷ frames) ≡ before start n ahead frames
unfolding before
before_counted start n ahead frame frames counts = ap (λ (b : Bool). if b then before start n ahead frames else before start n (suc ahead) frames) counts

-- who is bound stays as told behind a frame that doesn't count there
pub told_uncounted : (start : Start) (frame : Frame) (frames : List Frame) (bound : Bound) (queue : List Sent) (position : Position) (written : List Frame) → counts_on start bound.endpoint frames frame ≡ false →
    SaySame bound.endpoint (table_of start (frame ∷ frames)) (table_of start frames) → IsAsTold start frames bound queue position written → IsAsTold start (frame ∷ frames) bound queue position written
told_uncounted start frame frames bound queue position written uncounted same h =
    let both = before_uncounted start bound.endpoint (length queue) frame frames uncounted same in
    record {
      waits = h.waits ∙ sym (ap (λ (fs : List Frame). filter_map (λ (f : Frame). sending_by f.kind f) (reverse (take (length queue) fs))) (uncounted_more start bound.endpoint frame frames uncounted));
      life = both.life ∙ h.life;
      told = both.told ∙ h.told;
    }

longer : (queue : List Sent) (one : Sent) → length (queue ++ one ∷ []) ≡ suc (length queue)
longer queue one = omega (arith, length-append queue (one ∷ []))

-- and behind one that does, where what it sends waits behind the others
pub told_counted : (start : Start) (frame : Frame) (frames : List Frame) (bound : Bound) (queue : List Sent) (one : Sent) (position : Position) (written : List Frame) → counts_on start bound.endpoint frames frame ≡ true →
    sending_by frame.kind frame ≡ Some one.sending → IsAsTold start frames bound queue position written → IsAsTold start (frame ∷ frames) bound (queue ++ one ∷ []) position written
told_counted start frame frames bound queue one position written counts sends' h =
    let more = longer queue one in
    let table = ap (λ (k : ℕ). table_of start (before start bound.endpoint k (frame ∷ frames))) more ∙ ap (table_of start) (before_counted start bound.endpoint (length queue) frame frames counts) in
    let sending = λ (f : Frame). sending_by f.kind f in
    record {
      waits =
          map-append (λ (x : Sent). x.sending) queue (one ∷ [])
          ∙ ap (λ (ss : List Sending). ss ++ one.sending ∷ []) h.waits
          ∙ sym (ap (λ (k : ℕ). last_sendings start bound.endpoint k (frame ∷ frames)) more
          ∙ ap (λ (fs : List Frame). filter_map sending (reverse (take (suc (length queue)) fs))) (counted_more start bound.endpoint frame frames counts)
          ∙ filter_map-more sending frame (take (length queue) (counting start bound.endpoint frames))
          ∙ ap (λ (o : Option Sending). last_sendings start bound.endpoint (length queue) frames ++ option_to_list o) sends');
      life = ap (λ t. t.life bound.endpoint) table ∙ h.life;
      told = ap (λ t. t.told bound.endpoint) table ∙ h.told;
    }

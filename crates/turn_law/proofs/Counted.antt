-- The frame that waits first on an endpoint: the table before it, and that nothing is said of the endpoint until the next frame that counts.
use Rattle.std.proofs.Common.{◌≡◌, ℕ, zero, suc, ◌<◌, ◌==◌, ◌&&◌, ◌⊎◌, Bool, true, false, is_some, List, [], ◌∷◌, ◌++◌, length, filter_map, reverse, take, All, if◌then◌else◌, refl, sym, ap, ◌∙◌, inl, inr, append-nil, append_assoc, arith}
use Rattle.std.specs.Prelude.{option_to_list}
use Rattle.std.proofs.lemmas.Bool.{and_parts, cases_Bool, eqb-false, eqb-true, false_from_ne_true, true≢false}
use Rattle.std.proofs.lemmas.List.Elements.{All-tail}
use Rattle.fidl_names.specs.HandleNumber.{is_client}
use Rattle.wire_laws.specs.Laws.{SpelledWhereRead}
use Rattle.link_frames.specs.declared.kinds.Side.TheVariants.{ToServers}
use Rattle.link_frames.specs.Frames.{Frame, IsFrame}
use Rattle.link_admission.specs.Numbering.{among}
use Rattle.vfs_journal.specs.Entries.{Sending}
use Rattle.vfs_journal.specs.Starts.{Start}
use Rattle.journal_laws.specs.Soundness.{IsStart}
use Rattle.journal_laws.proofs.Among.{member_of}
use Rattle.journal_laws.proofs.Lists.{filter_map-more}
use Rattle.turn_law.specs.Counting.{before, counting, counts_on, is_named, last_sendings}
use Rattle.turn_law.specs.Premises.{HandlesStandOnce}
use Rattle.turn_law.specs.Tables.{SaySame}
use Rattle.turn_law.specs.Told.{Table, is_heard, is_new, sending_by, table_of}
use Rattle.turn_law.proofs.Arriving.{before_counted, counted_more, uncounted_more, unnamed_counting}
use Rattle.turn_law.proofs.Hearing.{heard_parts, heard_where_counted, unheard_table}
use Rattle.turn_law.proofs.Linked.{named_uncarried}
use Rattle.turn_law.proofs.LinkedSteps.{fewer_once, new_each}
use Rattle.turn_law.proofs.Touching.{frames_touch, same_table, then_same}

-- ---- what doesn't count says nothing

pub table_same : (n : ℕ) (one other : Table) → one ≡ other → SaySame n one other
table_same n one other e = record { life = ap (λ t. t.life n) e; told = ap (λ t. t.told n) e }

pub uncounted_steady : SpelledWhereRead → (start : Start) (n : ℕ) (frame : Frame) (frames : List Frame) → IsStart start → All (IsFrame ToServers) (frame ∷ frames) → HandlesStandOnce (frame ∷ frames) → is_client n ≡ true →
    is_named start frames n ≡ true → counts_on start n frames frame ≡ false → SaySame n (table_of start (frame ∷ frames)) (table_of start frames)
uncounted_steady law start n frame frames s all once client named uncounted = by_place (cases_Bool (frame.endpoint == n)) (cases_Bool (among n frame.handles)) where
  unheard : is_heard start (table_of start frames) frame ≡ false → SaySame n (table_of start (frame ∷ frames)) (table_of start frames)
  unheard none = table_same n (table_of start (frame ∷ frames)) (table_of start frames) (unheard_table start frame frames none)

  by_place : ((frame.endpoint == n) ≡ true) ⊎ ((frame.endpoint == n) ≡ false) → (among n frame.handles ≡ true) ⊎ (among n frame.handles ≡ false) → SaySame n (table_of start (frame ∷ frames)) (table_of start frames)
  by_place (inl at) carried =
      unheard
      (false_from_ne_true (is_heard start (table_of start frames) frame)
      (λ heard.
      let both = sym (heard_where_counted law start frame frames s all) ∙ heard in
      let counts = (and_parts (is_some ((table_of start frames).life frame.endpoint)) (counts_on start frame.endpoint frames frame) both).1 in
      true≢false (sym (ap (λ (m : ℕ). counts_on start m frames frame) (sym (eqb-true frame.endpoint n at)) ∙ counts) ∙ uncounted)))
  by_place (inr other) (inl carried) =
      unheard
      (false_from_ne_true (is_heard start (table_of start frames) frame)
      (λ heard.
      let new = new_each start frame.handles (heard_parts start (table_of start frames) frame heard).2 n (member_of n frame.handles carried) in
      true≢false (sym (ap (λ (b : Bool). b && is_new start n) carried ∙ new) ∙ named_uncarried start n frame frames once named)))
  by_place (inr other) (inr uncarried) = frames_touch law start frame frames n client (eqb-false frame.endpoint n other) uncarried

-- ---- the frame that waits first

-- the last but so many that counts on an endpoint: what stood before it, and that behind it nothing was said of the endpoint until the next
pub record IsCounted (start : Start) (n ahead : ℕ) (frames : List Frame) : Type 0 where
  pub later : List Frame
  pub frame : Frame
  pub earlier : List Frame
  pub split : frames ≡ later ++ frame ∷ earlier
  pub counts : counts_on start n earlier frame ≡ true
  pub is_before : before start n (suc ahead) frames ≡ earlier
  pub mid : List Frame
  pub newer : before start n ahead frames ≡ mid ++ frame ∷ earlier
  pub steady : SaySame n (table_of start (before start n ahead frames)) (table_of start (frame ∷ earlier))
  pub first : last_sendings start n (suc ahead) frames ≡ option_to_list (sending_by frame.kind frame) ++ last_sendings start n ahead frames

pub before_later : (start : Start) (n ahead : ℕ) (frame : Frame) (frames : List Frame) → counts_on start n frames frame ≡ false → before start n (suc ahead) (frame ∷ frames) ≡ before start n (suc ahead) frames
unfolding before
before_later start n ahead frame frames uncounted = ap (λ (b : Bool). if b then before start n ahead frames else before start n (suc ahead) frames) uncounted

pub sends_later : (start : Start) (n ahead : ℕ) (frame : Frame) (frames : List Frame) → counts_on start n frames frame ≡ false → last_sendings start n ahead (frame ∷ frames) ≡ last_sendings start n ahead frames
sends_later start n ahead frame frames uncounted = ap (λ (fs : List Frame). filter_map (λ (f : Frame). sending_by f.kind f) (reverse (take ahead fs))) (uncounted_more start n frame frames uncounted)

pub sends_more : (start : Start) (n ahead : ℕ) (frame : Frame) (frames : List Frame) → counts_on start n frames frame ≡ true →
    last_sendings start n (suc ahead) (frame ∷ frames) ≡ last_sendings start n ahead frames ++ option_to_list (sending_by frame.kind frame)
sends_more start n ahead frame frames counts =
    ap (λ (fs : List Frame). filter_map (λ (f : Frame). sending_by f.kind f) (reverse (take (suc ahead) fs))) (counted_more start n frame frames counts)
    ∙ filter_map-more (λ (f : Frame). sending_by f.kind f) frame (take ahead (counting start n frames))

counted_here : (start : Start) (n ahead : ℕ) (frame : Frame) (frames : List Frame) → counts_on start n frames frame ≡ true → ((k : ℕ) → suc k ≡ ahead → IsCounted start n k frames) → IsCounted start n ahead (frame ∷ frames)
unfolding before
counted_here start n zero frame frames counts rest = record {
  later = [];
  frame = frame;
  earlier = frames;
  split = refl;
  counts = counts;
  is_before = before_counted start n 0 frame frames counts;
  mid = [];
  newer = refl;
  steady = same_table n (table_of start (frame ∷ frames));
  first = sends_more start n 0 frame frames counts ∙ sym (append-nil (option_to_list (sending_by frame.kind frame)));
}
counted_here start n (suc ahead) frame frames counts rest =
    let old = rest ahead refl in
    record {
      later = frame ∷ old.later;
      frame = old.frame;
      earlier = old.earlier;
      split = ap (λ (fs : List Frame). frame ∷ fs) old.split;
      counts = old.counts;
      is_before = before_counted start n (suc ahead) frame frames counts ∙ old.is_before;
      mid = old.mid;
      newer = before_counted start n ahead frame frames counts ∙ old.newer;
      steady = then_same (table_same n _ _ (ap (table_of start) (before_counted start n ahead frame frames counts))) old.steady;
      first =
          sends_more start n (suc ahead) frame frames counts
          ∙ ap (λ (ss : List Sending). ss ++ option_to_list (sending_by frame.kind frame)) old.first
          ∙ append_assoc (option_to_list (sending_by old.frame.kind old.frame)) (last_sendings start n ahead frames) (option_to_list (sending_by frame.kind frame))
          ∙ sym (ap (λ (ss : List Sending). option_to_list (sending_by old.frame.kind old.frame) ++ ss) (sends_more start n ahead frame frames counts));
    }

counted_later : (start : Start) (n ahead : ℕ) (frame : Frame) (frames : List Frame) → counts_on start n frames frame ≡ false → SaySame n (table_of start (frame ∷ frames)) (table_of start frames) → IsCounted start n ahead frames → IsCounted start n ahead (frame ∷ frames)
unfolding before
counted_later start n ahead frame frames uncounted same old = record {
  later = frame ∷ old.later;
  frame = old.frame;
  earlier = old.earlier;
  split = ap (λ (fs : List Frame). frame ∷ fs) old.split;
  counts = old.counts;
  is_before = before_later start n ahead frame frames uncounted ∙ old.is_before;
  mid = (newer_by ahead old.mid old.newer).0;
  newer = (newer_by ahead old.mid old.newer).1;
  steady = then_same (steady_by ahead) old.steady;
  first =
      sends_later start n (suc ahead) frame frames uncounted
      ∙ old.first
      ∙ sym (ap (λ (ss : List Sending). option_to_list (sending_by old.frame.kind old.frame) ++ ss) (sends_later start n ahead frame frames uncounted));
} where
  newer_by : (k : ℕ) (mid : List Frame) → before start n k frames ≡ mid ++ old.frame ∷ old.earlier → (more : List Frame) × (before start n k (frame ∷ frames) ≡ more ++ old.frame ∷ old.earlier)
  newer_by zero mid e = (frame ∷ mid, ap (λ (fs : List Frame). frame ∷ fs) e)
  newer_by (suc k) mid e = (mid, before_later start n k frame frames uncounted ∙ e)

  steady_by : (k : ℕ) → SaySame n (table_of start (before start n k (frame ∷ frames))) (table_of start (before start n k frames))
  steady_by zero = same
  steady_by (suc k) = table_same n _ _ (ap (table_of start) (before_later start n k frame frames uncounted))

counting_named : (start : Start) (n ahead : ℕ) (frames : List Frame) → ahead < length (counting start n frames) → is_named start frames n ≡ true
counting_named start n ahead frames more = by_test (is_named start frames n) refl where
  by_test : (b : Bool) → is_named start frames n ≡ b → is_named start frames n ≡ true
  by_test true e = e
  by_test false e = let none = ap length (unnamed_counting start frames n e) in absurd (omega arith)

counted_by : SpelledWhereRead → (start : Start) (n ahead : ℕ) (frame : Frame) (frames : List Frame) → IsStart start → All (IsFrame ToServers) (frame ∷ frames) → HandlesStandOnce (frame ∷ frames) → is_client n ≡ true →
    ahead < length (counting start n (frame ∷ frames)) → ((k : ℕ) → k < length (counting start n frames) → IsCounted start n k frames) → (counts_on start n frames frame ≡ true) ⊎ (counts_on start n frames frame ≡ false) → IsCounted start n ahead (frame ∷ frames)
counted_by law start n ahead frame frames s all once client more rest (inl counts) =
    let longer = ap length (counted_more start n frame frames counts) in
    counted_here start n ahead frame frames counts (λ k e. rest k (omega (arith, longer, more, e)))
counted_by law start n ahead frame frames s all once client more rest (inr uncounted) =
    let same = ap length (uncounted_more start n frame frames uncounted) in
    let still : ahead < length (counting start n frames) = omega (arith, same, more) in
    counted_later start n ahead frame frames uncounted
    (uncounted_steady law start n frame frames s all once client (counting_named start n ahead frames still) uncounted)
    (rest ahead still)

pub is_counted : SpelledWhereRead → (start : Start) (n ahead : ℕ) (frames : List Frame) → IsStart start → All (IsFrame ToServers) frames → HandlesStandOnce frames → is_client n ≡ true →
    ahead < length (counting start n frames) → IsCounted start n ahead frames
unfolding counting
is_counted law start n ahead [] s all once client more = absurd (omega arith)
is_counted law start n ahead (frame ∷ frames) s all once client more =
    counted_by law start n ahead frame frames s all once client more
    (λ k less. is_counted law start n k frames s (All-tail (IsFrame ToServers) frame frames all) (fewer_once frame frames once) client less)
    (cases_Bool (counts_on start n frames frame))

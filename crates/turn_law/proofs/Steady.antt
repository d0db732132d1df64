-- When nothing more is said of an endpoint: once it has no life, and from its carrier on until the first frame that counts there.
use Rattle.std.proofs.Common.{◌≡◌, ℕ, ◌==◌, ◌&&◌, ◌⊎◌, Bool, true, false, List, [], ◌∷◌, ◌++◌, length, None, All, sym, ap, ◌∙◌, inl, inr}
use Rattle.std.proofs.lemmas.Bool.{cases_Bool, eqb-false, eqb-true, false_from_ne_true, true≢false}
use Rattle.std.proofs.lemmas.List.Elements.{All-tail}
use Rattle.fidl_names.specs.HandleNumber.{is_client}
use Rattle.wire_laws.specs.Laws.{SpelledWhereRead}
use Rattle.link_frames.specs.declared.kinds.Side.TheVariants.{ToServers}
use Rattle.link_frames.specs.Frames.{Frame, IsFrame}
use Rattle.link_admission.specs.Numbering.{among}
use Rattle.vfs_journal.specs.Starts.{Start}
use Rattle.journal_laws.specs.Soundness.{IsStart}
use Rattle.journal_laws.proofs.Among.{member_of}
use Rattle.turn_law.specs.Counting.{before, counting, counts_on, is_named}
use Rattle.turn_law.specs.Premises.{HandlesStandOnce}
use Rattle.turn_law.specs.Tables.{SaySame}
use Rattle.turn_law.specs.Told.{is_heard, is_new, table_of}
use Rattle.turn_law.proofs.Arriving.{before_counted, before_uncounted, closed_counts, counted_more, no_life, uncounted_more, unnamed_closed, unnamed_counting}
use Rattle.turn_law.proofs.Counted.{table_same, uncounted_steady}
use Rattle.turn_law.proofs.Hearing.{heard_parts, unheard_table}
use Rattle.turn_law.proofs.Linked.{named_more, named_uncarried}
use Rattle.turn_law.proofs.LinkedSteps.{fewer_once, new_each}
use Rattle.turn_law.proofs.Touching.{frames_touch, same_table, then_same}

pub named_later : (start : Start) (later base : List Frame) (n : ℕ) → is_named start base n ≡ true → is_named start (later ++ base) n ≡ true
named_later start [] base n named = named
named_later start (frame ∷ later) base n named = named_more start n frame (later ++ base) (named_later start later base n named)

-- ---- who has no life has none any more

dead_step : SpelledWhereRead → (start : Start) (n : ℕ) (frame : Frame) (frames : List Frame) → HandlesStandOnce (frame ∷ frames) → is_client n ≡ true → is_named start frames n ≡ true → (table_of start frames).life n ≡ None →
    SaySame n (table_of start (frame ∷ frames)) (table_of start frames)
dead_step law start n frame frames once client named none = by_place (cases_Bool (frame.endpoint == n)) (cases_Bool (among n frame.handles)) where
  unheard : is_heard start (table_of start frames) frame ≡ false → SaySame n (table_of start (frame ∷ frames)) (table_of start frames)
  unheard h = table_same n (table_of start (frame ∷ frames)) (table_of start frames) (unheard_table start frame frames h)

  by_place : ((frame.endpoint == n) ≡ true) ⊎ ((frame.endpoint == n) ≡ false) → (among n frame.handles ≡ true) ⊎ (among n frame.handles ≡ false) → SaySame n (table_of start (frame ∷ frames)) (table_of start frames)
  by_place (inl at) carried = unheard (no_life start frame frames n none (eqb-true frame.endpoint n at))
  by_place (inr other) (inl carried) =
      unheard
      (false_from_ne_true (is_heard start (table_of start frames) frame)
      (λ heard.
      let new = new_each start frame.handles (heard_parts start (table_of start frames) frame heard).2 n (member_of n frame.handles carried) in
      true≢false (sym (ap (λ (b : Bool). b && is_new start n) carried ∙ new) ∙ named_uncarried start n frame frames once named)))
  by_place (inr other) (inr uncarried) = frames_touch law start frame frames n client (eqb-false frame.endpoint n other) uncarried

pub dead_steady : SpelledWhereRead → (start : Start) (n : ℕ) (later base : List Frame) → HandlesStandOnce (later ++ base) → is_client n ≡ true → is_named start base n ≡ true → (table_of start base).life n ≡ None →
    SaySame n (table_of start (later ++ base)) (table_of start base)
dead_steady law start n [] base once client named none = same_table n (table_of start base)
dead_steady law start n (frame ∷ later) base once client named none =
    let rest = dead_steady law start n later base (fewer_once frame (later ++ base) once) client named none in
    then_same (dead_step law start n frame (later ++ base) once client (named_later start later base n named) (rest.life ∙ none)) rest

-- ---- from its carrier on

-- no frame counts on it before its carrier, nor is that one
pub carried_counting : (start : Start) (n : ℕ) (frame : Frame) (earlier : List Frame) → is_named start earlier n ≡ false → counting start n (frame ∷ earlier) ≡ []
carried_counting start n frame earlier unnamed =
    uncounted_more start n frame earlier (closed_counts start earlier frame n (unnamed_closed start earlier n unnamed)) ∙ unnamed_counting start earlier n unnamed

-- the table before all frames that count on it says of it what the table behind its carrier does
steady_by : SpelledWhereRead → (start : Start) (n : ℕ) (frame : Frame) (frames base : List Frame) → IsStart start → All (IsFrame ToServers) (frame ∷ frames) → HandlesStandOnce (frame ∷ frames) → is_client n ≡ true → is_named start frames n ≡ true →
    SaySame n (table_of start (before start n (length (counting start n frames)) frames)) (table_of start base) → (counts_on start n frames frame ≡ true) ⊎ (counts_on start n frames frame ≡ false) →
    SaySame n (table_of start (before start n (length (counting start n (frame ∷ frames))) (frame ∷ frames))) (table_of start base)
steady_by law start n frame frames base s all once client named rest (inl counts) =
    then_same
    (table_same n _ _
    (ap (λ (k : ℕ). table_of start (before start n k (frame ∷ frames))) (ap length (counted_more start n frame frames counts))
    ∙ ap (table_of start) (before_counted start n (length (counting start n frames)) frame frames counts)))
    rest
steady_by law start n frame frames base s all once client named rest (inr uncounted) =
    then_same
    (table_same n _ _ (ap (λ (k : ℕ). table_of start (before start n k (frame ∷ frames))) (ap length (uncounted_more start n frame frames uncounted))))
    (then_same
    (before_uncounted start n (length (counting start n frames)) frame frames uncounted (uncounted_steady law start n frame frames s all once client named uncounted))
    rest)

pub carried_steady : SpelledWhereRead → (start : Start) (n : ℕ) (later base : List Frame) → IsStart start → All (IsFrame ToServers) (later ++ base) → HandlesStandOnce (later ++ base) → is_client n ≡ true → is_named start base n ≡ true → counting start n base ≡ [] →
    SaySame n (table_of start (before start n (length (counting start n (later ++ base))) (later ++ base))) (table_of start base)
unfolding before
carried_steady law start n [] base s all once client named none = table_same n _ _ (ap (λ (fs : List Frame). table_of start (before start n (length fs) base)) none)
carried_steady law start n (frame ∷ later) base s all once client named none =
    steady_by law start n frame (later ++ base) base s all once client (named_later start later base n named)
    (carried_steady law start n later base s (All-tail (IsFrame ToServers) frame (later ++ base) all) (fewer_once frame (later ++ base) once) client named none)
    (cases_Bool (counts_on start n (later ++ base) frame))

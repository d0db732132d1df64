-- A frame changes in the table what is said of the endpoint that it is sent on, and of those that it carries.
use Rattle.std.proofs.Common.{◌≡◌, ◌≢◌, ℕ, zero, suc, ◌==◌, ◌&&◌, ◌||◌, Bool, true, false, List, [], ◌∷◌, ◌++◌, Option, Some, None, All, find, if◌then◌else◌, refl, sym, ap, ◌∙◌, subst, inl, inr, append-nil}
use Rattle.std.specs.Option.{option_map, option_map_or}
use Rattle.std.proofs.lemmas.Bool.{eqb-true, false_from_ne_true, ne_eqb, true≢false}
use Rattle.std.proofs.lemmas.List.Elements.{All-head, All-tail, All-weaker}
use Rattle.fidl_names.specs.HandleNumber.{is_client}
use Rattle.wire_laws.specs.Laws.{SpelledWhereRead}
use Rattle.link_frames.specs.declared.kinds.FrameKind.{FrameKind}
use Rattle.link_frames.specs.declared.kinds.FrameKind.TheVariants as kind
use Rattle.link_frames.specs.Frames.{Frame}
use Rattle.link_admission.specs.Numbering.{among}
use Rattle.conn_rules.specs.Births.{Position}
use Rattle.vfs_journal.specs.Entries.{Sending, handles_of, hang_up, message}
use Rattle.vfs_journal.specs.Outcomes.{Forwarded, Outcome}
use Rattle.vfs_journal.specs.Output.{is_message}
use Rattle.vfs_journal.specs.Serving.{outcome_of_sending}
use Rattle.vfs_journal.specs.Session.{weight_of}
use Rattle.vfs_journal.specs.Starts.{Bound, Start}
use Rattle.vfs_journal.specs.View.{moved}
use Rattle.journal_laws.proofs.Members.{found}
use Rattle.turn_law.specs.Tables.{FramesTouchTheirOwn, SaySame}
use Rattle.turn_law.specs.Told.{Table, answer_on, answered, answers, behind_frame, by_answer, is_heard, messages_on, newborn, onward, sending_by, sent_on, still, table_at_start, table_of}
use Rattle.turn_law.proofs.Within.{IsTouched, StaysWithin, sending_within}

-- ---- who lives lives on its own endpoint

pub record AreNamed (table : Table) : Type 0 where
  pub own : (n : ℕ) (pair : Bound × Position) → table.life n ≡ Some pair → pair.0.endpoint ≡ n

pub pair_same : {x y : Bound × Position} → Some x ≡ Some y → x ≡ y
pair_same e = cc

pub start_named : (start : Start) → AreNamed (table_at_start start)
start_named start = record { own = λ n pair e. by_find n pair (find (λ bound. bound.endpoint == n) (start.firsts ++ start.mounts)) refl e } where
  by_find : (n : ℕ) (pair : Bound × Position) (o : Option Bound) → find (λ bound. bound.endpoint == n) (start.firsts ++ start.mounts) ≡ o → option_map newborn o ≡ Some pair → pair.0.endpoint ≡ n
  by_find n pair None is e = absurd (cc)
  by_find n pair (Some bound) is e =
      ap (λ (p : Bound × Position). p.0.endpoint) (sym (pair_same e)) ∙ eqb-true bound.endpoint n (found (λ b. b.endpoint == n) (start.firsts ++ start.mounts) bound is).1

moved_endpoint : (served : ℕ) (position : Position) (pair : Bound × Position) → (moved served position pair).0.endpoint ≡ pair.0.endpoint
moved_endpoint served position pair = by_test (pair.0.endpoint == served) where
  by_test : (b : Bool) → (if b then (pair.0, position) else pair).0.endpoint ≡ pair.0.endpoint
  by_test true = refl
  by_test false = refl

pub life_by : Bool → Bool → Option (Bound × Position) → Option (Bound × Position) → Option (Bound × Position)
life_by ended bound new old = if ended then None else if bound then new else old

named_by : (n : ℕ) (pair : Bound × Position) (served : ℕ) (o : Outcome) (old : Option (Bound × Position)) → ((p : Bound × Position) → old ≡ Some p → p.0.endpoint ≡ n) → (ended : Bool) (is_bound : Bool) →
    option_map_or (λ bound. bound.endpoint == n) o.bound false ≡ is_bound →
    life_by ended is_bound (option_map newborn o.bound) (option_map (moved served o.position) old) ≡ Some pair → pair.0.endpoint ≡ n
unfolding life_by
named_by n pair served o old own true b is e = absurd (cc)
named_by n pair served o old own false true is e = by_bound o.bound is e where
  by_bound : (x : Option Bound) → option_map_or (λ bound. bound.endpoint == n) x false ≡ true → option_map newborn x ≡ Some pair → pair.0.endpoint ≡ n
  by_bound None is' e' = absurd (cc)
  by_bound (Some bound) is' e' = ap (λ (p : Bound × Position). p.0.endpoint) (sym (pair_same e')) ∙ eqb-true bound.endpoint n is'
named_by n pair served o old own false false is e = by_old old own e where
  by_old : (x : Option (Bound × Position)) → ((p : Bound × Position) → x ≡ Some p → p.0.endpoint ≡ n) → option_map (moved served o.position) x ≡ Some pair → pair.0.endpoint ≡ n
  by_old None own' e' = absurd (cc)
  by_old (Some p) own' e' = ap (λ (q : Bound × Position). q.0.endpoint) (sym (pair_same e')) ∙ moved_endpoint served o.position p ∙ own' p refl

pub answered_named : (table : Table) (served : ℕ) (o : Outcome) → AreNamed table → AreNamed (answered table served o)
unfolding life_by
answered_named table served o named = record {
  own = λ n pair e. named_by n pair served o (table.life n) (named.own n) (among n o.ends) (option_map_or (λ bound. bound.endpoint == n) o.bound false) refl e;
}

named_onward : (start : Start) (more : ℕ) (table : Table) → ((endpoint : ℕ) (sending : Sending) (t : Table) → AreNamed t → AreNamed (answers more start endpoint sending t)) → (o : Option Forwarded) → AreNamed table → AreNamed (onward (answers more start) o table)
named_onward start more table rest None named = named
named_onward start more table rest (Some forward) named = rest forward.endpoint (message forward.bytes (forward.object ∷ [])) table named

answers_named : (more : ℕ) (start : Start) (endpoint : ℕ) (sending : Sending) (table : Table) → AreNamed table → AreNamed (answers more start endpoint sending table)
unfolding answers
answers_named zero start endpoint sending table named = named
answers_named (suc more) start endpoint sending table named = by_outcome (λ e s t g. answers_named more start e s t g) (answer_on start table endpoint sending) where
  by_outcome : ((e : ℕ) (s : Sending) (t : Table) → AreNamed t → AreNamed (answers more start e s t)) → (o : Option Outcome) → AreNamed (by_answer (answers more start) endpoint table o)
  by_outcome rest None = named
  by_outcome rest (Some o) = named_onward start more (answered table endpoint o) rest o.forward (answered_named table endpoint o named)

-- ---- one answer

pub nothing_on : (n : ℕ) (frames : List Frame) → All (λ frame. frame.endpoint ≢ n) frames → messages_on n frames ≡ []
nothing_on n [] h = refl
nothing_on n (frame ∷ frames) h =
    ap (λ (b : Bool). if is_message frame.kind && b then frame ∷ messages_on n frames else messages_on n frames) (ne_eqb frame.endpoint n (All-head (λ f. f.endpoint ≢ n) frame frames h))
    ∙ none (is_message frame.kind) (frame ∷ messages_on n frames) (messages_on n frames)
    ∙ nothing_on n frames (All-tail (λ f. f.endpoint ≢ n) frame frames h) where
      none : (b : Bool) (x y : List Frame) → (if b && false then x else y) ≡ y
      none true x y = refl
      none false x y = refl

untouched : (n served : ℕ) (handles : List ℕ) → served ≢ n → among n handles ≡ false → (m : ℕ) → IsTouched served handles m → m ≢ n
untouched n served handles other uncarried m (inl e) same = other (sym e ∙ same)
untouched n served handles other uncarried m (inr h) same = true≢false (sym h ∙ ap (λ (k : ℕ). among k handles) same ∙ uncarried)

pub all_untouched : (n served : ℕ) (handles : List ℕ) (frames : List Frame) → served ≢ n → among n handles ≡ false → All (λ frame. IsTouched served handles frame.endpoint) frames → All (λ frame. frame.endpoint ≢ n) frames
all_untouched n served handles frames other uncarried h = All-weaker (λ (f : Frame). IsTouched served handles f.endpoint) (λ (f : Frame). f.endpoint ≢ n) (λ f. untouched n served handles other uncarried f.endpoint) frames h

pub unbound_by : (n : ℕ) (handles : List ℕ) → among n handles ≡ false → (o : Option Bound) → ((bound : Bound) → o ≡ Some bound → among bound.endpoint handles ≡ true) → option_map_or (λ bound. bound.endpoint == n) o false ≡ false
unbound_by n handles uncarried None h = refl
unbound_by n handles uncarried (Some bound) h = ne_eqb bound.endpoint n (λ e. true≢false (sym (h bound refl) ∙ ap (λ (k : ℕ). among k handles) e ∙ uncarried))

pub unmoved : (n served : ℕ) (position : Position) (old : Option (Bound × Position)) → ((pair : Bound × Position) → old ≡ Some pair → pair.0.endpoint ≡ n) → served ≢ n → option_map (moved served position) old ≡ old
unmoved n served position None own other = refl
unmoved n served position (Some pair) own other =
    ap (λ (b : Bool). Some (if b then (pair.0, position) else pair)) (ne_eqb pair.0.endpoint served (λ e. other (sym e ∙ own pair refl)))

pub answered_touches : (table : Table) (served : ℕ) (handles : List ℕ) (o : Outcome) (n : ℕ) → AreNamed table → StaysWithin served handles o → served ≢ n → among n handles ≡ false → SaySame n (answered table served o) table
unfolding life_by
answered_touches table served handles o n named within other uncarried = record {
  life =
      ap (λ (b : Bool). life_by b (option_map_or (λ bound. bound.endpoint == n) o.bound false) (option_map newborn o.bound) (option_map (moved served o.position) (table.life n)))
      (false_from_ne_true (among n o.ends) (λ h. untouched n served handles other uncarried n (within.ends n h) refl))
      ∙ ap (λ (b : Bool). life_by false b (option_map newborn o.bound) (option_map (moved served o.position) (table.life n))) (unbound_by n handles uncarried o.bound within.bound)
      ∙ unmoved n served o.position (table.life n) (named.own n) other;
  told =
      ap (λ (fs : List Frame). table.told n ++ fs) (nothing_on n o.frames (all_untouched n served handles o.frames other uncarried within.frames))
      ∙ append-nil (table.told n);
}

-- ---- all answers to one sending

pub then_same : {n : ℕ} {one other third : Table} → SaySame n one other → SaySame n other third → SaySame n one third
then_same h g = record { life = h.life ∙ g.life; told = h.told ∙ g.told }

pub same_table : (n : ℕ) (table : Table) → SaySame n table table
same_table n table = record { life = refl; told = refl }

pub uncarried_object : (n object : ℕ) (handles : List ℕ) → among n handles ≡ false → among object handles ≡ true → among n (object ∷ []) ≡ false
uncarried_object n object handles uncarried carried =
    ap (λ (b : Bool). b || false) (ne_eqb object n (λ e. true≢false (sym carried ∙ ap (λ (k : ℕ). among k handles) e ∙ uncarried)))

pub onward_touches : (start : Start) (more : ℕ) (table : Table) (handles : List ℕ) (n : ℕ) →
    ((endpoint : ℕ) (sending : Sending) (t : Table) → AreNamed t → endpoint ≢ n → among n (handles_of sending) ≡ false → SaySame n (answers more start endpoint sending t) t) →
    is_client n ≡ true → among n handles ≡ false → AreNamed table → (o : Option Forwarded) → ((forward : Forwarded) → o ≡ Some forward → (among forward.object handles ≡ true) × (is_client forward.endpoint ≡ false)) →
    SaySame n (onward (answers more start) o table) table
onward_touches start more table handles n rest client uncarried named None h = same_table n table
onward_touches start more table handles n rest client uncarried named (Some forward) h =
    rest forward.endpoint (message forward.bytes (forward.object ∷ [])) table named
    (λ e. true≢false (sym client ∙ ap is_client (sym e) ∙ (h forward refl).1))
    (uncarried_object n forward.object handles uncarried (h forward refl).0)

pub answers_touch : SpelledWhereRead → (more : ℕ) (start : Start) (endpoint : ℕ) (sending : Sending) (table : Table) (n : ℕ) → is_client n ≡ true → AreNamed table → endpoint ≢ n → among n (handles_of sending) ≡ false →
    SaySame n (answers more start endpoint sending table) table
unfolding answers
answers_touch law zero start endpoint sending table n client named other uncarried = same_table n table
answers_touch law (suc more) start endpoint sending table n client named other uncarried =
    by_life (λ e s t g o u. answers_touch law more start e s t n client g o u) (table.life endpoint) refl where
      by_life : ((e : ℕ) (s : Sending) (t : Table) → AreNamed t → e ≢ n → among n (handles_of s) ≡ false → SaySame n (answers more start e s t) t) → (o : Option (Bound × Position)) → table.life endpoint ≡ o →
          SaySame n (by_answer (answers more start) endpoint table (option_map (λ pair. outcome_of_sending (still start pair) sending) o)) table
      by_life rest None is = same_table n table
      by_life rest (Some pair) is =
          let o = outcome_of_sending (still start pair) sending in
          let within : StaysWithin endpoint (handles_of sending) o = subst (λ (e : ℕ). StaysWithin e (handles_of sending) o) (named.own endpoint pair is) (sending_within law (still start pair) sending) in
          then_same
          (onward_touches start more (answered table endpoint o) (handles_of sending) n rest client uncarried (answered_named table endpoint o named) o.forward within.forward)
          (answered_touches table endpoint (handles_of sending) o n named within other uncarried)

-- ---- frames

behind_named : (start : Start) (frame : Frame) (table : Table) → AreNamed table → AreNamed (behind_frame start frame table)
behind_named start frame table named = by_heard (is_heard start table frame) frame.kind where
  by_kind : (k : FrameKind) → AreNamed (option_map_or (λ sending. sent_on start frame.endpoint sending table) (sending_by k frame) table)
  by_kind kind.Message = answers_named (weight_of (message frame.bytes frame.handles)) start frame.endpoint (message frame.bytes frame.handles) table named
  by_kind kind.Close = answers_named (weight_of hang_up) start frame.endpoint hang_up table named
  by_kind kind.Turn = named
  by_kind kind.Pick = named
  by_kind kind.Refused = named

  by_heard : (b : Bool) (k : FrameKind) → AreNamed (if b then option_map_or (λ sending. sent_on start frame.endpoint sending table) (sending_by k frame) table else table)
  by_heard true k = by_kind k
  by_heard false k = named

pub table_named : (start : Start) (frames : List Frame) → AreNamed (table_of start frames)
unfolding table_of
table_named start [] = start_named start
table_named start (frame ∷ frames) = behind_named start frame (table_of start frames) (table_named start frames)

pub frames_touch : SpelledWhereRead → FramesTouchTheirOwn
unfolding table_of
frames_touch law start frame earlier n client other uncarried = by_heard (is_heard start (table_of start earlier) frame) frame.kind where
  table : Table
  table = table_of start earlier

  by_kind : (k : FrameKind) → SaySame n (option_map_or (λ sending. sent_on start frame.endpoint sending table) (sending_by k frame) table) table
  by_kind kind.Message = answers_touch law (weight_of (message frame.bytes frame.handles)) start frame.endpoint (message frame.bytes frame.handles) table n client (table_named start earlier) other uncarried
  by_kind kind.Close = answers_touch law (weight_of hang_up) start frame.endpoint hang_up table n client (table_named start earlier) other refl
  by_kind kind.Turn = same_table n table
  by_kind kind.Pick = same_table n table
  by_kind kind.Refused = same_table n table

  by_heard : (b : Bool) (k : FrameKind) → SaySame n (if b then option_map_or (λ sending. sent_on start frame.endpoint sending table) (sending_by k frame) table else table) table
  by_heard true k = by_kind k
  by_heard false k = same_table n table

-- What the auditor holds, from one record to the next.
use Rattle.std.proofs.Common.{◌≡◌, ◌≤◌, ◌+◌, ◌-◌, ℕ, List, [], ◌∷◌, ◌++◌, drop, length, refl, sym, ap, ◌∙◌, subst, arith, append_assoc, append-nil, length-append}
use Rattle.std.specs.Prelude.{All, None, Option, Some}
use Rattle.std.proofs.lemmas.List.{drop-drop, drop_all}
use Rattle.std.proofs.lemmas.List.Concat.{flat_map-append}
use Rattle.std.proofs.lemmas.List.Elements.{All-head, All-nil, All-tail}
use Rattle.std.proofs.lemmas.List.Sums.{fold-append}
use Rattle.link_frames.specs.declared.kinds.Side.TheVariants as side
use Rattle.link_frames.specs.Frames.{Frame, IsFrame, spelling, spellings}
use Rattle.link_frames.proofs.Spelled.{length-spelling, spelling-injective}
use Rattle.fidl_wire.specs.Names.{AreDistinct}
use Rattle.frame_laws.proofs.Readings.{parts_are_read_back}
use Rattle.frame_laws.specs.Laws.{AreMore}
use Rattle.journal_laws.proofs.Below.{below}
use Rattle.vfs_journal.specs.Entries.{Journal, Sent}
use Rattle.vfs_journal.specs.Output.{frames_behind}
use Rattle.vfs_journal.specs.Past.{history_of}
use Rattle.vfs_journal.specs.Session.{head}
use Rattle.vfs_journal.specs.Starts.{Start}
use Rattle.vfs_world.specs.World.{LeadsTo, StandsFor, World}
use Rattle.link_audit.specs.Auditing.{Auditing, Audits}
use Rattle.link_audit.specs.Records.{Record, ends, goes_out}
use Rattle.link_audit.specs.Recorded.{CanServe, IsAllOut, IsNext, behind_record, journal_of, out_of, outs}

-- ---- records, one more

pub journal_more : (start : Start) (before : List Record) (one : Record) → journal_of start (before ++ one ∷ []) ≡ behind_record start (journal_of start before) one
journal_more start before one = fold-append (behind_record start) [] before (one ∷ [])

pub outs_more : (before : List Record) (one : Record) → outs (before ++ one ∷ []) ≡ outs before ++ out_of one
outs_more before one = flat_map-append out_of before (one ∷ []) ∙ ap (λ (l : List Frame). outs before ++ l) (append-nil (out_of one))

length_more : {A : Type 0} (xs : List A) (x : A) → length (xs ++ x ∷ []) ≡ length xs + 1
length_more xs x = length-append xs (x ∷ [])

pub no_length : {A : Type 0} (xs : List A) → length xs ≡ 0 → xs ≡ []
no_length [] e = refl
no_length (x ∷ xs) e = absurd (omega (arith, e))

-- ---- what is owed

pub none_owed : (owing : List Frame) → spellings owing ≡ [] → owing ≡ []
none_owed [] e = refl
none_owed (f ∷ owing) e = absurd (omega (arith, length-spelling f, length-append (spelling f) (spellings owing), ap length e))

append-cancel : {A : Type 0} (xs ys zs : List A) → xs ++ ys ≡ xs ++ zs → ys ≡ zs
append-cancel [] ys zs e = e
append-cancel (x ∷ xs) ys zs e =
    let e' : x ∷ (xs ++ ys) ≡ x ∷ (xs ++ zs) = e in
    let tail : xs ++ ys ≡ xs ++ zs = cc in
    append-cancel xs ys zs tail

first_owed : (owing : List Frame) → All (IsFrame side.Any) owing → (frame : Frame) (more : List ℕ) → IsFrame side.Any frame → spellings owing ≡ spelling frame ++ more
    → (later : List Frame) × (owing ≡ frame ∷ later) × (more ≡ spellings later)
first_owed [] each frame more is e = absurd (omega (arith, length-spelling frame, length-append (spelling frame) more, ap length e))
first_owed (g ∷ owing) each frame more is e =
    let same = spelling-injective side.Any g frame (spellings owing) more (All-head (IsFrame side.Any) g owing each) is e in
    (owing, ap (λ (h : Frame). h ∷ owing) same.0, sym same.1)

module _ (start : Start) (before : List Record) (now : Auditing) (audits : Audits start before now) where
  -- where nothing is owed all is out
  pub all_out : now.owed ≡ [] → IsAllOut start before
  all_out none =
      let owing : audits.owing ≡ [] = none_owed audits.owing (sym audits.owed ∙ none) in
      sym (audits.all ∙ (ap (λ (l : List Frame). outs before ++ l) owing ∙ append-nil (outs before)))

  -- and else not
  pub not_all_out : (now.owed ≡ [] → ⊥) → IsAllOut start before → ⊥
  not_all_out some all =
      let joined : outs before ++ [] ≡ outs before ++ audits.owing = append-nil (outs before) ∙ (all ∙ audits.all) in
      some (audits.owed ∙ ap spellings (sym (append-cancel (outs before) [] audits.owing joined)))

  -- the next frame stands in front of what is owed
  pub next_in_front : (frame : Frame) → IsNext start before frame → (more : List ℕ) × (now.owed ≡ spelling frame ++ more)
  next_in_front frame next =
      let joined : outs before ++ (frame ∷ next.0) ≡ outs before ++ audits.owing = sym next.1 ∙ audits.all in
      (spellings next.0, audits.owed ∙ ap spellings (sym (append-cancel (outs before) (frame ∷ next.0) audits.owing joined)))

  -- and a frame that stands there is the next
  pub in_front_next : (frame : Frame) (more : List ℕ) → IsFrame side.Any frame → now.owed ≡ spelling frame ++ more
      → (later : List Frame) × (audits.owing ≡ frame ∷ later) × (more ≡ spellings later)
  in_front_next frame more is e = first_owed audits.owing audits.each frame more is (sym audits.owed ∙ e)

-- ---- the next record

-- a frame went out: the world stays, and what is owed is less
pub passed_on : (start : Start) (before : List Record) (frame : Frame) (old new : Auditing) (audits : Audits start before old) → IsFrame side.Any frame
    → new.world ≡ old.world → old.owed ≡ spelling frame ++ new.owed → IsNext start before frame × Audits start (before ++ goes_out frame ∷ []) new
passed_on start before frame old new audits is same owed =
    let next = in_front_next start before old audits frame new.owed is owed in
    let all : frames_behind start (journal_of start before) ≡ outs before ++ frame ∷ next.0 = audits.all ∙ ap (λ (l : List Frame). outs before ++ l) next.1 in
    let journal = journal_more start before (goes_out frame) in
    let out : outs (before ++ goes_out frame ∷ []) ++ next.0 ≡ outs before ++ frame ∷ next.0 =
    ap (λ (l : List Frame). l ++ next.0) (outs_more before (goes_out frame)) ∙ append_assoc (outs before) (frame ∷ []) next.0 in (
      (next.0, all),
      record {
        distinct = audits.distinct;
        stands = subst (StandsFor start new.world) (sym journal) (subst (λ (w : World). StandsFor start w (journal_of start before)) (sym same) audits.stands);
        owing = next.0;
        all = ap (frames_behind start) journal ∙ (all ∙ sym out);
        each = All-tail (IsFrame side.Any) frame next.0 (subst (All (IsFrame side.Any)) next.1 audits.each);
        owed = next.2;
        few = omega (arith, audits.few, ap (λ (w : World). w.frames) same, length_more before (goes_out frame));
      },
    )

-- the world went on: what it wrote is owed
pub went_on : (start : Start) (before : List Record) (one : Record) (old new : Auditing) (held held' : List ℕ) (audits : Audits start before old)
    → old.owed ≡ [] → out_of one ≡ [] → new.world.frames ≤ old.world.frames + 1
    → LeadsTo start (behind_record start (journal_of start before) one) new.world (journal_of start before) held held'
    → ((part : List ℕ) → held' ≡ held ++ part → new.owed ≡ part) → Audits start (before ++ one ∷ []) new
went_on start before one old new held held' audits none quiet few led owes =
    let earlier = journal_of start before in
    let later = behind_record start earlier one in
    let journal = journal_more start before one in
    let more : AreMore start earlier later led.part =
    parts_are_read_back (below audits.distinct) start earlier later led.part audits.stands.sound audits.stands.lawful led.stands.lawful led.more in
    let out : outs (before ++ one ∷ []) ≡ frames_behind start earlier =
    outs_more before one ∙ (ap (λ (l : List Frame). outs before ++ l) quiet ∙ (append-nil (outs before) ∙ all_out start before old audits none)) in
    record {
      distinct = audits.distinct;
      stands = subst (StandsFor start new.world) (sym journal) led.stands;
      owing = more.more;
      all = ap (frames_behind start) journal ∙ (more.grown ∙ ap (λ (l : List Frame). l ++ more.more) (sym out));
      each = more.read.each;
      owed = owes led.part led.written ∙ (more.read.reads.split ∙ append-nil (spellings more.more));
      few = omega (arith, audits.few, few, length_more before one);
    }

-- the end: nothing changes
pub ended_on : (start : Start) (before : List Record) (now : Auditing) → Audits start before now → Audits start (before ++ ends ∷ []) now
ended_on start before now audits =
    let journal = journal_more start before ends in
    record {
      distinct = audits.distinct;
      stands = subst (StandsFor start now.world) (sym journal) audits.stands;
      owing = audits.owing;
      all = ap (frames_behind start) journal
          ∙ (audits.all ∙ ap (λ (l : List Frame). l ++ audits.owing) (sym (outs_more before ends ∙ append-nil (outs before))));
      each = audits.each;
      owed = audits.owed;
      few = omega (arith, audits.few, length_more before ends);
    }

-- before the first record
pub begins : (start : Start) (now : Auditing) → AreDistinct → StandsFor start now.world [] → now.world.frames ≡ 0 → now.owed ≡ []
    → Audits start [] now
unfolding history_of
begins start now distinct stands frames owed = record {
  distinct = distinct;
  stands = stands;
  owing = [];
  all = refl;
  each = All-nil (IsFrame side.Any);
  owed = owed;
  few = omega (arith, frames);
}

-- something can be served where what is first isn't nothing
pub can_serve : (start : Start) (before : List Record) (endpoint : ℕ) → (head start (history_of start (journal_of start before)) endpoint ≡ None → ⊥)
    → CanServe start before endpoint
can_serve start before endpoint some = by_head (head start (history_of start (journal_of start before)) endpoint) refl
  where
    by_head : (first : Option Sent) → head start (history_of start (journal_of start before)) endpoint ≡ first → CanServe start before endpoint
    by_head None e = absurd (some e)
    by_head (Some sent) e = (sent, e)

-- ---- the auditor's fields

abbrev pub held_as : World → List ℕ → Auditing
held_as world owed = record { world = world; owed = owed }

-- a world that writes into an outbox that was forgotten
pub written_anew : (start : Start) (before : List Record) (one : Record) (now : Auditing) (world new : World) (held : List ℕ) (owed : List ℕ)
    → held_as world owed ≡ now → Audits start before now → now.owed ≡ [] → out_of one ≡ [] → new.frames ≤ world.frames + 1
    → ((journal : Journal) → StandsFor start world journal → LeadsTo start (behind_record start journal one) new journal [] held)
    → Audits start (before ++ one ∷ []) (held_as new held)
written_anew start before one now world new held owed view audits none quiet few leads =
    let journal = journal_of start before in
    let same : world ≡ now.world = ap (λ (a : Auditing). a.world) view in
    let led = leads journal (subst (λ (w : World). StandsFor start w journal) (sym same) audits.stands) in
    went_on start before one now (held_as new held) [] held audits none quiet (subst (λ (w : World). new.frames ≤ w.frames + 1) same few) led (λ part e. e)

-- all that was written is left
pub all_left : (held : List ℕ) (count : ℕ) → count ≡ length held → drop (length held - count) held ≡ held
all_left held count is = let none : length held - count ≡ 0 = omega (arith, is) in ap (λ (n : ℕ). drop n held) none

-- less is left
pub less_left : (held : List ℕ) (left count : ℕ) → left ≤ length held → count ≤ left
    → drop (length held - (left - count)) held ≡ drop count (drop (length held - left) held)
less_left held left count within fewer =
    let place : length held - (left - count) ≡ (length held - left) + count = omega (arith, within, fewer) in
    ap (λ (n : ℕ). drop n held) place ∙ sym (drop-drop count (length held - left) held)

pub nothing_left : (held : List ℕ) (left : ℕ) → held ≡ [] → drop (length held - left) held ≡ []
nothing_left held left none = drop_all (length held - left) held (omega (arith, ap length none))

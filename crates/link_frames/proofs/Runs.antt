-- Calls of a deframer one after another.
use Rattle.std.proofs.Common.{◌≡◌, ◌⊎◌, ◌<◌, ◌≤◌, ◌+◌, ℕ, List, [], ◌∷◌, ◌++◌, length, take, refl, sym, ap, ◌∙◌, subst, arith, length-append, append_assoc, inl, inr}
use Rattle.std.specs.Prelude.{All, Option, Some, None}
use Rattle.std.proofs.lemmas.Bool.{cases_lt}
use Rattle.std.proofs.lemmas.List.{take_all, append-nil, drop_at}
use Rattle.std.proofs.lemmas.List.Elements.{All-nil, All-cons, All-append, All-drop}
use Rattle.link_frames.specs.declared.kinds.FrameReason.{FrameReason}
use Rattle.link_frames.specs.declared.kinds.Side.{Side}
use Rattle.fidl_names.specs.Numbers.{AreBytes}
use Rattle.link_frames.specs.Frames.{Frame, IsFrame, spelling, spellings, size_of, IsPartial, IsBadFront, Frames, Bad}
use Rattle.link_frames.specs.Deframing.{Deframing, fresh, flaw, end_of, IsKept, Call, Feeds, Shows, Drops, Step, Run, bytes_of, frames_of, stream_of, dropped_by, Follows}
use Rattle.link_frames.proofs.Spelled.{frame_in, spelling-frame_in, first_reason-append}
use Rattle.link_frames.proofs.Streams.{Short, Wrong, Begun, Whole, front_of, begun_partial, one_fault, not_both}
use Rattle.link_frames.proofs.Feeding.{flaw_short, flaw_long, end_sound, end_of-long, front_within}

-- what stands after every call
pub record Holds (s : Side) (stream : List ℕ) (frames : List Frame) (d : Deframing) : Type 0 where
  pub split : stream ≡ spellings frames ++ d.kept
  pub each : All (IsFrame s) frames
  pub place : d.start ≡ length (spellings frames)
  pub same : d.side ≡ s
  pub within : length d.kept ≤ end_of s d.kept

pub spellings-append : (fs gs : List Frame) → spellings (fs ++ gs) ≡ spellings fs ++ spellings gs
spellings-append [] gs = refl
spellings-append (f ∷ fs) gs =
    ap (λ (l : List ℕ). spelling f ++ l) (spellings-append fs gs) ∙ sym (append_assoc (spelling f) (spellings fs) (spellings gs))

-- one more frame at the end
pub spellings-push : (fs : List Frame) (f : Frame) → spellings (fs ++ f ∷ []) ≡ spellings fs ++ spelling f
spellings-push fs f =
    spellings-append fs (f ∷ []) ∙ ap (λ (l : List ℕ). spellings fs ++ l) (append-nil (spelling f))

pub step_holds : (s : Side) (stream : List ℕ) (frames : List Frame) (old new : Deframing) (call : Call) → Holds s stream frames old → Step old call new → Holds s (stream ++ bytes_of call) (frames ++ frames_of call) new
step_holds s stream frames old new (Feeds taken left answer) h fed = record {
  split = ap (λ (l : List ℕ). l ++ taken) h.split ∙ (append_assoc (spellings frames) old.kept taken ∙ (ap (λ (l : List ℕ). spellings frames ++ l) (sym fed.kept) ∙ ap (λ (l : List Frame). spellings l ++ new.kept) (sym (append-nil frames))));
  each = subst (All (IsFrame s)) (sym (append-nil frames)) h.each;
  place = fed.same_start ∙ (h.place ∙ ap (λ (l : List Frame). length (spellings l)) (sym (append-nil frames)));
  same = fed.same_side ∙ h.same;
  within =
      let f = subst (λ (t : Side). new.kept ≡ take (end_of t (old.kept ++ taken ++ left)) (old.kept ++ taken ++ left)) h.same fed.as_many in
      subst (λ (l : List ℕ). length l ≤ end_of s l) (sym f) (front_within s (old.kept ++ taken ++ left));
}
step_holds s stream frames old new (Shows shown) h stays =
    subst (Holds s (stream ++ []) (frames ++ [])) (sym stays.1)
    (subst (λ (b : List ℕ). Holds s b (frames ++ []) old) (sym (append-nil stream)) (subst (λ (l : List Frame). Holds s stream l old) (sym (append-nil frames)) h))
step_holds s stream frames old new (Drops f) h drops =
    let is : IsFrame s f = subst (λ (t : Side). IsFrame t f) h.same drops.0.sound in
    let all : stream ≡ spellings (frames ++ f ∷ []) = h.split ∙ (ap (λ (l : List ℕ). spellings frames ++ l) (sym drops.0.spelled) ∙ sym (spellings-push frames f)) in
    subst (Holds s (stream ++ []) (frames ++ f ∷ [])) (sym drops.1)
    (record {
      split = append-nil stream ∙ (all ∙ sym (append-nil (spellings (frames ++ f ∷ []))));
      each = All-append (IsFrame s) frames (f ∷ []) h.each (All-cons (IsFrame s) f [] is (All-nil (IsFrame s)));
      place = omega (arith, h.place, ap length h.split, ap length all, length-append (spellings frames) old.kept);
      same = h.same;
      within = omega (arith, end_of-long s []);
    })

pub run_holds : (s : Side) (calls : List Call) (stream : List ℕ) (frames : List Frame) (old new : Deframing) → Holds s stream frames old → Run old calls new → Holds s (stream ++ stream_of calls) (frames ++ dropped_by calls) new
run_holds s [] stream frames old new h run =
    subst (Holds s (stream ++ []) (frames ++ [])) (sym run)
    (subst (λ (b : List ℕ). Holds s b (frames ++ []) old) (sym (append-nil stream)) (subst (λ (l : List Frame). Holds s stream l old) (sym (append-nil frames)) h))
run_holds s (call ∷ calls) stream frames old new h run =
    let first = step_holds s stream frames old run.0 call h run.1 in
    let rest = run_holds s calls (stream ++ bytes_of call) (frames ++ frames_of call) run.0 new first run.2 in
    subst (λ (b : List ℕ). Holds s b (frames ++ dropped_by (call ∷ calls)) new) (append_assoc stream (bytes_of call) (stream_of calls))
    (subst (λ (l : List Frame). Holds s (stream ++ bytes_of call ++ stream_of calls) l new) (append_assoc frames (frames_of call) (dropped_by calls)) rest)

-- a flaw is a reason against a whole fixed part
pub bad_front : (s : Side) (b : List ℕ) (why : FrameReason) → flaw s b ≡ Some why → IsBadFront s b why
bad_front s b why e =
    elim (cases_lt (length b) 12) [
      | inl short ↦ (let none = flaw_short s b short in absurd (let bad : None ≡ Some why = sym none ∙ e in cc))
      | inr long ↦ record { whole = long; reason = sym (flaw_long s b long) ∙ e }
    ]

-- what is kept without a flaw is the beginning of a frame, or the whole of it
pub sound_kept : (s : Side) (k : List ℕ) → AreBytes k → length k ≤ end_of s k → flaw s k ≡ None → IsPartial s k ⊎ ((f : Frame) × IsFrame s f × (spelling f ≡ k))
sound_kept s k are within e =
    elim (front_of s k) [
      | Short short ↦ inl (inl short)
      | Wrong why bad ↦ (let none = flaw_long s k bad.whole in absurd (let wrong : None ≡ Some why = sym e ∙ (none ∙ bad.reason) in cc))
      | Begun long none short ↦ inl (begun_partial s k are long none short)
      | Whole long none whole ↦
          let read = spelling-frame_in s k are long none whole in
          inr (frame_in s k, read.0, read.1 ∙ take_all (size_of k) k (omega (arith, within, end_sound s k long none)))
    ]

pub begun_by : (s : Side) (stream : List ℕ) (frames : List Frame) (d : Deframing) → Holds s stream frames d → IsPartial s d.kept → Frames s stream frames d.kept
begun_by s stream frames d h partial = record { split = h.split; each = h.each; partial = partial }

pub whole_by : (s : Side) (stream : List ℕ) (frames : List Frame) (d : Deframing) → Holds s stream frames d → (f : Frame) → IsKept d f → Frames s stream (frames ++ f ∷ []) []
whole_by s stream frames d h f kept =
    let is : IsFrame s f = subst (λ (t : Side). IsFrame t f) h.same kept.sound in
    record {
      split = h.split ∙ (ap (λ (l : List ℕ). spellings frames ++ l) (sym kept.spelled) ∙ (sym (spellings-push frames f) ∙ sym (append-nil (spellings (frames ++ f ∷ [])))));
      each = All-append (IsFrame s) frames (f ∷ []) h.each (All-cons (IsFrame s) f [] is (All-nil (IsFrame s)));
      partial = inl (omega arith);
    }

pub fault_by : (s : Side) (stream : List ℕ) (frames : List Frame) (d : Deframing) → Holds s stream frames d → (why : FrameReason) → flaw s d.kept ≡ Some why → Bad s stream d.start why
fault_by s stream frames d h why e = record {
  frames = frames;
  tail = d.kept;
  split = h.split;
  each = h.each;
  place = sym h.place;
  front = bad_front s d.kept why e;
}

pub sound_by : (s : Side) (stream : List ℕ) (frames : List Frame) (d : Deframing) → AreBytes stream → Holds s stream frames d → flaw s d.kept ≡ None → IsPartial s d.kept ⊎ ((f : Frame) × IsKept d f)
sound_by s stream frames d are h e =
    let bytes = subst AreBytes (drop_at (spellings frames) d.kept (length (spellings frames)) refl) (All-drop (λ x. x < 256) (length (spellings frames)) (spellings frames ++ d.kept) (subst AreBytes h.split are)) in
    elim (sound_kept s d.kept bytes h.within e) [
      | inl partial ↦ inl partial
      | inr kept ↦ inr (kept.0, record { sound = subst (λ (t : Side). IsFrame t kept.0) (sym h.same) kept.1; spelled = kept.2 })
    ]

-- a stream is bad only where what is kept has a flaw
only_by : (s : Side) (stream : List ℕ) (frames : List Frame) (d : Deframing) → AreBytes stream → Holds s stream frames d → (at : ℕ) (why : FrameReason) → Bad s stream at why → (o : Option FrameReason) → flaw s d.kept ≡ o → (at ≡ d.start) × (flaw s d.kept ≡ Some why)
only_by s stream frames d are h at why bad (Some reason) e =
    let same = one_fault s stream at d.start why reason bad (fault_by s stream frames d h reason e) in
    (same.0, e ∙ ap (λ (r : FrameReason). Some r) (sym same.1))
only_by s stream frames d are h at why bad None e =
    elim (sound_by s stream frames d are h e) [
      | inl partial ↦ absurd (not_both s stream frames d.kept at why (begun_by s stream frames d h partial) bad)
      | inr kept ↦ absurd (not_both s stream (frames ++ kept.0 ∷ []) [] at why (whole_by s stream frames d h kept.0 kept.1) bad)
    ]

pub follows_by : (s : Side) (stream : List ℕ) (frames : List Frame) (d : Deframing) → AreBytes stream → Holds s stream frames d → Follows s stream frames d
follows_by s stream frames d are h = record {
  begun = begun_by s stream frames d h;
  whole = whole_by s stream frames d h;
  fault = fault_by s stream frames d h;
  only = λ at why bad. only_by s stream frames d are h at why bad (flaw s d.kept) refl;
  sound = sound_by s stream frames d are h;
  taken = omega (arith, h.place, ap length h.split, length-append (spellings frames) d.kept);
}

-- the frames that a run of calls shows are those of the bytes that were fed
pub any_cut : (s : Side) (calls : List Call) (now : Deframing) → AreBytes (stream_of calls) → Run (fresh s) calls now → Follows s (stream_of calls) (dropped_by calls) now
any_cut s calls now are run =
    follows_by s (stream_of calls) (dropped_by calls) now are
    (run_holds s calls [] [] (fresh s) now (record { split = refl; each = All-nil (IsFrame s); place = refl; same = refl; within = omega (arith, end_of-long s []) }) run)

-- a frame is a stream
pub one_frame : (s : Side) (f : Frame) → IsFrame s f → Frames s (spelling f) (f ∷ []) []
one_frame s f is = record {
  split = sym (append-nil (spelling f)) ∙ sym (append-nil (spelling f ++ []));
  each = All-cons (IsFrame s) f [] is (All-nil (IsFrame s));
  partial = inl (omega arith);
}

-- streams one after another
pub joined : (s : Side) (a b : List ℕ) (fs gs : List Frame) (rest : List ℕ) → Frames s a fs [] → Frames s b gs rest → Frames s (a ++ b) (fs ++ gs) rest
joined s a b fs gs rest h k = record {
  split = ap (λ (l : List ℕ). l ++ b) (h.split ∙ append-nil (spellings fs)) ∙ (ap (λ (l : List ℕ). spellings fs ++ l) k.split ∙ (sym (append_assoc (spellings fs) (spellings gs) rest) ∙ ap (λ (l : List ℕ). l ++ rest) (sym (spellings-append fs gs))));
  each = All-append (IsFrame s) fs gs h.each k.each;
  partial = k.partial;
}

pub bad_behind : (s : Side) (a b : List ℕ) (fs : List Frame) (at : ℕ) (why : FrameReason) → Frames s a fs [] → Bad s b at why → Bad s (a ++ b) (length a + at) why
bad_behind s a b fs at why h k =
    let whole : a ≡ spellings fs = h.split ∙ append-nil (spellings fs) in
    record {
      frames = fs ++ k.frames;
      tail = k.tail;
      split = ap (λ (l : List ℕ). l ++ b) whole ∙ (ap (λ (l : List ℕ). spellings fs ++ l) k.split ∙ (sym (append_assoc (spellings fs) (spellings k.frames) k.tail) ∙ ap (λ (l : List ℕ). l ++ k.tail) (sym (spellings-append fs k.frames))));
      each = All-append (IsFrame s) fs k.frames h.each k.each;
      place = omega (arith, k.place, ap length whole, ap length (spellings-append fs k.frames), length-append (spellings fs) (spellings k.frames));
      front = k.front;
    }

pub bad_stays : (s : Side) (b more : List ℕ) (at : ℕ) (why : FrameReason) → Bad s b at why → Bad s (b ++ more) at why
bad_stays s b more at why h = record {
  frames = h.frames;
  tail = h.tail ++ more;
  split = ap (λ (l : List ℕ). l ++ more) h.split ∙ append_assoc (spellings h.frames) h.tail more;
  each = h.each;
  place = h.place;
  front = record { whole = omega (arith, h.front.whole, length-append h.tail more); reason = first_reason-append s h.tail more h.front.whole ∙ h.front.reason };
}

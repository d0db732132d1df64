-- Whole streams: every one has one reading.
use Rattle.std.proofs.Common.{◌≡◌, ◌⊎◌, ◌<◌, ◌≤◌, ◌+◌, ◌-◌, ℕ, zero, suc, List, [], ◌∷◌, ◌++◌, length, drop, refl, sym, ap, ◌∙◌, subst, arith, length-append, length-drop, append_assoc, inl, inr}
use Rattle.std.specs.Prelude.{All, Option, Some, None, replicate}
use Rattle.std.proofs.lemmas.Bool.{cases_lt}
use Rattle.std.proofs.lemmas.List.{take_all, take-append-drop, append-nil, length-replicate}
use Rattle.std.proofs.lemmas.List.Elements.{All-nil, All-cons, All-drop, All-append, All-head, All-tail, All-replicate}
use Rattle.link_frames.specs.declared.kinds.FrameReason.{FrameReason}
use Rattle.link_frames.specs.declared.kinds.Side.{Side}
use Rattle.fidl_names.specs.Numbers.{AreBytes}
use Rattle.link_frames.specs.Frames.{Frame, IsFrame, spelling, spellings, first_reason, size_of, IsPartial, IsBadFront, Frames, Bad}
use Rattle.link_frames.specs.Laws.{HasFrames, IsBad}
use Rattle.link_frames.proofs.Spelled.{length-spelling, first_reason-spelling, size_of-spelling, frame_in, spelling-injective, first_reason-append, size_of-append, size_of-long, spelling-frame_in}

-- no frame stands in front
abbrev pub NoFront : Side → List ℕ → Type 0
NoFront s b = (f : Frame) (more : List ℕ) → IsFrame s f → b ≡ spelling f ++ more → ⊥

pub spelling-long : (f : Frame) → 12 ≤ length (spelling f)
spelling-long f = omega (arith, length-spelling f)

pub partial_no_front : (s : Side) (b : List ℕ) → IsPartial s b → NoFront s b
partial_no_front s b (inl short) f more is e =
    omega (arith, spelling-long f, length-append (spelling f) more, ap length e, short)
partial_no_front s b (inr begins) f more is e =
    let g = begins.0 in
    let rest = begins.1 in
    let joined : spelling g ++ [] ≡ spelling f ++ (more ++ rest) = append-nil (spelling g) ∙ (begins.4 ∙ (ap (λ (l : List ℕ). l ++ rest) e ∙ append_assoc (spelling f) more rest)) in
    let same = spelling-injective s g f [] (more ++ rest) begins.2 is joined in
    omega (arith, ap length same.1, length-append more rest, begins.3)

pub bad_no_front : (s : Side) (b : List ℕ) (why : FrameReason) → IsBadFront s b why → NoFront s b
bad_no_front s b why bad f more is e =
    let none = first_reason-spelling s f more is in
    let some = ap (first_reason s) (sym e) ∙ bad.reason in
    cc

-- the beginning of a frame has no reason against it, and is shorter than the frame
pub partial_sound : (s : Side) (b : List ℕ) → IsPartial s b → 12 ≤ length b → (first_reason s b ≡ None) × (length b < size_of b)
partial_sound s b (inl short) long = absurd (omega (arith, short))
partial_sound s b (inr begins) long =
    let f = begins.0 in
    let more = begins.1 in
    let whole : spelling f ++ [] ≡ b ++ more = append-nil (spelling f) ∙ begins.4 in
    let none : first_reason s b ≡ None = sym (first_reason-append s b more long) ∙ (ap (first_reason s) (sym whole) ∙ first_reason-spelling s f [] begins.2) in
    let size : size_of b ≡ length (spelling f) = sym (size_of-append b more long) ∙ (ap size_of (sym whole) ∙ size_of-spelling s f [] begins.2) in
    (none, omega (arith, size, ap length begins.4, length-append b more, begins.3))

-- a sound fixed part with too few bytes behind it is the beginning of a frame
pub begun_partial : (s : Side) (b : List ℕ) → AreBytes b → 12 ≤ length b → first_reason s b ≡ None → length b < size_of b → IsPartial s b
begun_partial s b are long none short =
    let n : ℕ = size_of b - length b in
    let zeros : List ℕ = replicate n 0 in
    let count : length zeros ≡ n = length-replicate n 0 in
    let many : length (b ++ zeros) ≡ length b + length zeros = length-append b zeros in
    let size : size_of (b ++ zeros) ≡ size_of b = size_of-append b zeros long in
    let are' = All-append (λ x. x < 256) b zeros are (All-replicate (λ x. x < 256) n 0 (omega arith)) in
    let read = spelling-frame_in s (b ++ zeros) are' (omega (arith, many)) (first_reason-append s b zeros long ∙ none) (omega (arith, size, many, count)) in
    inr (frame_in s (b ++ zeros), zeros, read.0, omega (arith, count), read.1 ∙ take_all (size_of (b ++ zeros)) (b ++ zeros) (omega (arith, size, many, count)))

-- what can stand in front of some bytes
pub data Front (s : Side) (b : List ℕ) : Type 0 where
  Short : length b < 12 → Front s b
  Wrong : (why : FrameReason) → IsBadFront s b why → Front s b
  Begun : 12 ≤ length b → first_reason s b ≡ None → length b < size_of b → Front s b
  Whole : 12 ≤ length b → first_reason s b ≡ None → size_of b ≤ length b → Front s b

front_by : (s : Side) (b : List ℕ) (o : Option FrameReason) → first_reason s b ≡ o → 12 ≤ length b → (length b < size_of b) ⊎ (size_of b ≤ length b) → Front s b
front_by s b (Some why) e long size = Wrong why (record { whole = long; reason = e })
front_by s b None e long (inl short) = Begun long e short
front_by s b None e long (inr whole) = Whole long e whole

pub front_of : (s : Side) (b : List ℕ) → Front s b
front_of s b =
    elim (cases_lt (length b) 12)
    [ inl short ↦ Short short | inr long ↦ front_by s b (first_reason s b) refl long (cases_lt (length b) (size_of b)) ]

-- a whole frame in front, and the rest
pub whole_front : (s : Side) (b : List ℕ) → AreBytes b → 12 ≤ length b → first_reason s b ≡ None → size_of b ≤ length b → IsFrame s (frame_in s b) × (b ≡ spelling (frame_in s b) ++ drop (size_of b) b)
whole_front s b are long none whole =
    let read = spelling-frame_in s b are long none whole in
    (read.0, sym (take-append-drop (size_of b) b) ∙ ap (λ (l : List ℕ). l ++ drop (size_of b) b) (sym read.1))

-- a frame in front of a reading
pub Frames-cons : (s : Side) (f : Frame) (b : List ℕ) (frames : List Frame) (rest : List ℕ) → IsFrame s f → Frames s b frames rest → Frames s (spelling f ++ b) (f ∷ frames) rest
Frames-cons s f b frames rest is h = record {
  split = ap (λ (l : List ℕ). spelling f ++ l) h.split ∙ sym (append_assoc (spelling f) (spellings frames) rest);
  each = All-cons (IsFrame s) f frames is h.each;
  partial = h.partial;
}

pub Bad-cons : (s : Side) (f : Frame) (b : List ℕ) (at : ℕ) (why : FrameReason) → IsFrame s f → Bad s b at why → Bad s (spelling f ++ b) (length (spelling f) + at) why
Bad-cons s f b at why is h = record {
  frames = f ∷ h.frames;
  tail = h.tail;
  split = ap (λ (l : List ℕ). spelling f ++ l) h.split ∙ sym (append_assoc (spelling f) (spellings h.frames) h.tail);
  each = All-cons (IsFrame s) f h.frames is h.each;
  place = omega (arith, h.place, length-append (spelling f) (spellings h.frames));
  front = h.front;
}

some_reading : (s : Side) (n : ℕ) (b : List ℕ) → length b ≤ n → AreBytes b → Front s b → HasFrames s b ⊎ IsBad s b
some_reading s n b few are (Short short) =
    inl ([], b, record { split = refl; each = All-nil (IsFrame s); partial = inl short })
some_reading s n b few are (Wrong why bad) =
    inr (0, why, record { frames = []; tail = b; split = refl; each = All-nil (IsFrame s); place = refl; front = bad })
some_reading s n b few are (Begun long none short) =
    inl ([], b, record { split = refl; each = All-nil (IsFrame s); partial = begun_partial s b are long none short })
some_reading s zero b few are (Whole long none whole) = absurd (omega arith)
some_reading s (suc n) b few are (Whole long none whole) =
    let front = whole_front s b are long none whole in
    let rest = drop (size_of b) b in
    let back = sym front.1 in
    let shorter : length rest ≤ n = omega (arith, length-drop (size_of b) b, size_of-long b) in
    elim (some_reading s n rest shorter (All-drop (λ x. x < 256) (size_of b) b are) (front_of s rest)) [
      | inl h ↦ inl (frame_in s b ∷ h.0, h.1, subst (λ (l : List ℕ). Frames s l (frame_in s b ∷ h.0) h.1) back (Frames-cons s (frame_in s b) rest h.0 h.1 front.0 h.2))
      | inr h ↦ inr (length (spelling (frame_in s b)) + h.0, h.1, subst (λ (l : List ℕ). Bad s l (length (spelling (frame_in s b)) + h.0) h.1) back (Bad-cons s (frame_in s b) rest h.0 h.1 front.0 h.2))
    ]

-- every stream has a reading
pub every_reading : (s : Side) (b : List ℕ) → AreBytes b → HasFrames s b ⊎ IsBad s b
every_reading s b are = some_reading s (length b) b (omega arith) are (front_of s b)

-- bytes split in one way into frames and what begins with no frame
pub one_split : (s : Side) (fs gs : List Frame) (r q : List ℕ) → All (IsFrame s) fs → All (IsFrame s) gs → NoFront s r → NoFront s q → spellings fs ++ r ≡ spellings gs ++ q → (fs ≡ gs) × (r ≡ q)
one_split s [] [] r q hf hg nr nq e = (refl, e)
one_split s [] (g ∷ gs) r q hf hg nr nq e =
    absurd (nr g (spellings gs ++ q) (All-head (IsFrame s) g gs hg) (e ∙ append_assoc (spelling g) (spellings gs) q))
one_split s (f ∷ fs) [] r q hf hg nr nq e =
    absurd (nq f (spellings fs ++ r) (All-head (IsFrame s) f fs hf) (sym e ∙ append_assoc (spelling f) (spellings fs) r))
one_split s (f ∷ fs) (g ∷ gs) r q hf hg nr nq e =
    let joined = sym (append_assoc (spelling f) (spellings fs) r) ∙ (e ∙ append_assoc (spelling g) (spellings gs) q) in
    let first = spelling-injective s f g (spellings fs ++ r) (spellings gs ++ q) (All-head (IsFrame s) f fs hf) (All-head (IsFrame s) g gs hg) joined in
    let rest = one_split s fs gs r q (All-tail (IsFrame s) f fs hf) (All-tail (IsFrame s) g gs hg) nr nq first.1 in
    (cc, rest.1)

pub one_list : (s : Side) (b : List ℕ) (fs gs : List Frame) (r q : List ℕ) → Frames s b fs r → Frames s b gs q → (fs ≡ gs) × (r ≡ q)
one_list s b fs gs r q h k =
    one_split s fs gs r q h.each k.each (partial_no_front s r h.partial) (partial_no_front s q k.partial) (sym h.split ∙ k.split)

pub one_fault : (s : Side) (b : List ℕ) (at at' : ℕ) (why why' : FrameReason) → Bad s b at why → Bad s b at' why' → (at ≡ at') × (why ≡ why')
one_fault s b at at' why why' h k =
    let same = one_split s h.frames k.frames h.tail k.tail h.each k.each (bad_no_front s h.tail why h.front) (bad_no_front s k.tail why' k.front) (sym h.split ∙ k.split) in
    let places : at ≡ at' = sym h.place ∙ (ap (λ (l : List Frame). length (spellings l)) same.0 ∙ k.place) in
    let reasons : Some why ≡ Some why' = sym h.front.reason ∙ (ap (first_reason s) same.1 ∙ k.front.reason) in
    (places, cc)

pub not_both : (s : Side) (b : List ℕ) (fs : List Frame) (r : List ℕ) (at : ℕ) (why : FrameReason) → Frames s b fs r → Bad s b at why → ⊥
not_both s b fs r at why h k =
    let same = one_split s fs k.frames r k.tail h.each k.each (partial_no_front s r h.partial) (bad_no_front s k.tail why k.front) (sym h.split ∙ k.split) in
    let sound = partial_sound s r h.partial (subst (λ (l : List ℕ). 12 ≤ length l) (sym same.1) k.front.whole) in
    let none : None ≡ Some why = sym sound.0 ∙ (ap (first_reason s) same.1 ∙ k.front.reason) in
    cc

-- of two ways to begin the same bytes with frames, one that leaves no whole frame goes on where the other ends
front_split : (s : Side) (fs gs : List Frame) (r q : List ℕ) → All (IsFrame s) fs → All (IsFrame s) gs → NoFront s q → spellings fs ++ r ≡ spellings gs ++ q → (later : List Frame) × (gs ≡ fs ++ later)
front_split s [] gs r q hf hg nq e = (gs, refl)
front_split s (f ∷ fs) [] r q hf hg nq e =
    absurd (nq f (spellings fs ++ r) (All-head (IsFrame s) f fs hf) (sym e ∙ append_assoc (spelling f) (spellings fs) r))
front_split s (f ∷ fs) (g ∷ gs) r q hf hg nq e =
    let joined = sym (append_assoc (spelling f) (spellings fs) r) ∙ (e ∙ append_assoc (spelling g) (spellings gs) q) in
    let first = spelling-injective s f g (spellings fs ++ r) (spellings gs ++ q) (All-head (IsFrame s) f fs hf) (All-head (IsFrame s) g gs hg) joined in
    let rest = front_split s fs gs r q (All-tail (IsFrame s) f fs hf) (All-tail (IsFrame s) g gs hg) nq first.1 in
    (rest.0, ap (λ (h : Frame). h ∷ gs) (sym first.0) ∙ ap (λ (l : List Frame). f ∷ l) rest.1)

pub frames_stay : (s : Side) (b more : List ℕ) (fs gs : List Frame) (r q : List ℕ) → Frames s b fs r → Frames s (b ++ more) gs q → (later : List Frame) × (gs ≡ fs ++ later)
frames_stay s b more fs gs r q h k =
    front_split s fs gs (r ++ more) q h.each k.each (partial_no_front s q k.partial)
    (sym (append_assoc (spellings fs) r more) ∙ (ap (λ (l : List ℕ). l ++ more) (sym h.split) ∙ k.split))

-- the beginning of a frame is shorter than the longest frame
pub partial_short : (s : Side) (rest : List ℕ) → IsPartial s rest → length rest < 65804
partial_short s rest (inl short) = omega (arith, short)
partial_short s rest (inr begins) =
    let f = begins.0 in
    let is = begins.2 in
    omega (arith, length-spelling f, is.shape.few_handles, is.shape.few_bytes, ap length begins.4, length-append rest begins.1, begins.3)

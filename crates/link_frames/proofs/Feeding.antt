-- What is taken of a stream for the frame in hand.
use Rattle.std.proofs.Common.{◌≡◌, ◌⊎◌, ◌<◌, ◌≤◌, ◌+◌, ◌-◌, ◌^◌, ℕ, min, List, [], ◌++◌, length, take, drop, get_or, refl, sym, ap, ◌∙◌, subst, arith, length-append, append_assoc, inl, inr, lt-ltb, le-ltb}
use Rattle.std.specs.Prelude.{Some, None, Result, Ok, Err, MatchOption}
use Rattle.std.proofs.lemmas.Bool.{cases_lt}
use Rattle.std.proofs.lemmas.List.{take_all, take-append-drop, append-nil, length-take, take_at, drop_at, take_min, nil_from_length}
use Rattle.std.proofs.lemmas.List.Elements.{All-append, All-take}
use Rattle.link_frames.specs.declared.kinds.FrameReason.{FrameReason}
use Rattle.link_frames.specs.declared.deframer.LinkFault.{LinkFault}
use Rattle.link_frames.specs.declared.kinds.Side.{Side}
use Rattle.fidl_names.specs.Numbers.{AreBytes}
use Rattle.link_frames.specs.Numbers.{word_in, half_in}
use Rattle.link_frames.specs.Frames.{Frame, IsFrame, spelling, kind_of, first_reason, size_of}
use Rattle.link_frames.specs.Deframing.{flaw, end_of, front, Fed, KeepsFrame}
use Rattle.link_frames.proofs.Words.{take-add}
use Rattle.link_frames.proofs.Spelled.{sound_fields, first_reason-append, size_of-append, size_of-long, size_of-spelling, first_reason-spelling}
use Rattle.link_frames.specs.Views.{IsWholeFront, Reads}
use Rattle.link_frames.specs.declared.frame.Reading.{Reading}
use Rattle.link_frames.specs.declared.frame.Reading.TheVariants as reading
use Rattle.link_frames.proofs.Streams.{Short, Wrong, Begun, Whole, front_of, spelling-long, NoFront, partial_no_front, bad_no_front}

pub flaw_short : (s : Side) (b : List ℕ) → length b < 12 → flaw s b ≡ None
flaw_short s b h = rw (lt-ltb (length b) 12 h) refl

pub flaw_long : (s : Side) (b : List ℕ) → 12 ≤ length b → flaw s b ≡ first_reason s b
flaw_long s b h = rw (le-ltb (length b) 12 h) refl

pub end_short : (s : Side) (b : List ℕ) → length b < 12 → end_of s b ≡ 12
end_short s b h = rw (lt-ltb (length b) 12 h) refl

pub end_wrong : (s : Side) (b : List ℕ) (why : FrameReason) → 12 ≤ length b → first_reason s b ≡ Some why → end_of s b ≡ 12
end_wrong s b why h e = rw (le-ltb (length b) 12 h, e) refl

pub end_sound : (s : Side) (b : List ℕ) → 12 ≤ length b → first_reason s b ≡ None → end_of s b ≡ size_of b
end_sound s b h e = rw (le-ltb (length b) 12 h, e) refl

-- the end is known once the fixed part is in
pub end_of-append : (s : Side) (b more : List ℕ) → 12 ≤ length b → end_of s (b ++ more) ≡ end_of s b
end_of-append s b more h =
    let long : 12 ≤ length (b ++ more) = omega (arith, length-append b more) in
    rw (le-ltb (length b) 12 h, le-ltb (length (b ++ more)) 12 long, first_reason-append s b more h, size_of-append b more h) refl

pub end_of-long : (s : Side) (b : List ℕ) → 12 ≤ end_of s b
end_of-long s b =
    elim (front_of s b) [
      | Short h ↦ omega (arith, end_short s b h)
      | Wrong why bad ↦ omega (arith, end_wrong s b why bad.whole bad.reason)
      | Begun long none short ↦ omega (arith, end_sound s b long none, size_of-long b)
      | Whole long none whole ↦ omega (arith, end_sound s b long none, size_of-long b)
    ]

-- what is kept goes no further when more comes
pub end_grows : (s : Side) (b more : List ℕ) → length b ≤ end_of s b → length b ≤ end_of s (b ++ more)
end_grows s b more h =
    elim (cases_lt (length b) 12)
    [ inl short ↦ omega (arith, end_of-long s (b ++ more), short) | inr long ↦ omega (arith, end_of-append s b more long, h) ]

-- a frame that may go this way has at most so many bytes
pub size_of-small : (s : Side) (b : List ℕ) → first_reason s b ≡ None → size_of b ≤ 65804
unfolding first_reason size_of
size_of-small s b none =
    let is = sound_fields (kind_of s (get_or b 4 0)) (half_in (drop 6 b)) (get_or b 5 0) (word_in (drop 8 b)) none in
    omega (arith, is.3.few_handles, is.3.few_bytes)

-- bytes topped up to a length from what comes
pub topped : (k p : List ℕ) (e : ℕ) → length k ≤ e → k ++ take (min (e - length k) (length p)) p ≡ take e (k ++ p)
topped k p e h =
    let parts : e ≡ length k + (e - length k) = omega arith in
    let whole : take (length k + (e - length k)) (k ++ p) ≡ k ++ take (e - length k) p =
    take-add (length k) (e - length k) (k ++ p) ∙ (ap (λ (l : List ℕ). l ++ take (e - length k) (drop (length k) (k ++ p))) (take_at k p (length k) refl) ∙ ap (λ (l : List ℕ). k ++ take (e - length k) l) (drop_at k p (length k) refl)) in
    ap (λ (l : List ℕ). k ++ l) (take_min (e - length k) p) ∙ (sym whole ∙ ap (λ (m : ℕ). take m (k ++ p)) (sym parts))

-- what is taken of the bytes in front goes no further than they tell
pub front_within : (s : Side) (b : List ℕ) → length (front s b) ≤ end_of s (front s b)
front_within s b =
    elim (cases_lt (length b) 12) [
      | inl short ↦
          let all : front s b ≡ b = ap (λ (m : ℕ). take m b) (end_short s b short) ∙ take_all 12 b (omega arith) in
          subst (λ (l : List ℕ). length l ≤ end_of s l) (sym all) (omega (arith, end_short s b short))
      | inr long ↦
          let e = end_of s b in
          let size = length-take e b in
          let many : 12 ≤ length (front s b) = omega (arith, size, end_of-long s b) in
          let same : end_of s b ≡ end_of s (front s b) = ap (end_of s) (sym (take-append-drop e b)) ∙ end_of-append s (front s b) (drop e b) many in
          omega (arith, same, size)
    ]

-- the whole of what was kept and of what came
rejoined : (k p k1 : List ℕ) (a : ℕ) → k1 ≡ k ++ take a p → k ++ p ≡ k1 ++ drop a p
rejoined k p k1 a e =
    ap (λ (l : List ℕ). k ++ l) (sym (take-append-drop a p)) ∙ (sym (append_assoc k (take a p) (drop a p)) ∙ ap (λ (l : List ℕ). l ++ drop a p) (sym e))

-- how much is kept of a fixed part after a piece
pub first_length : (k p k1 : List ℕ) (a : ℕ) → a ≡ min (12 - length k) (length p) → k1 ≡ k ++ take a p → length k1 ≡ length k + a
first_length k p k1 a ea e =
    omega (arith, ap length e, length-append k (take a p), length-take a p, ea)

-- a fixed part of which more is to come
pub feed_short : (s : Side) (k p k1 : List ℕ) (a : ℕ) → a ≡ min (12 - length k) (length p) → k1 ≡ k ++ take a p → length k1 < 12 → (k1 ≡ front s (k ++ p)) × (flaw s k1 ≡ None) × (length k1 ≡ length k + a)
feed_short s k p k1 a ea e short =
    let n = first_length k p k1 a ea e in
    let whole : k1 ≡ k ++ p = e ∙ ap (λ (l : List ℕ). k ++ l) (take_all a p (omega arith)) in
    let end : end_of s (k ++ p) ≡ 12 = ap (end_of s) (sym whole) ∙ end_short s k1 short in
    let top : k1 ≡ take 12 (k ++ p) = sym (take_all 12 k1 (omega arith)) ∙ ap (λ (l : List ℕ). take 12 l) whole in
    (top ∙ ap (λ (m : ℕ). take m (k ++ p)) (sym end), flaw_short s k1 short, n)

-- a fixed part that is in and bad
pub feed_bad : (s : Side) (k p k1 : List ℕ) (a : ℕ) (why : FrameReason) → length k ≤ end_of s k → a ≡ min (12 - length k) (length p) → k1 ≡ k ++ take a p → 12 ≤ length k1 → first_reason s k1 ≡ Some why → (k1 ≡ front s (k ++ p)) × (flaw s k1 ≡ Some why)
feed_bad s k p k1 a why within ea e long bad =
    let n = first_length k p k1 a ea e in
    let same : 12 ≤ length k → k1 ≡ k = λ h. let none : a ≡ 0 = omega arith in e ∙ (ap (λ (m : ℕ). k ++ take m p) none ∙ append-nil k) in
    let few : length k ≤ 12 =
    elim (cases_lt (length k) 12)
    [ inl h ↦ omega arith | inr h ↦ omega (arith, within, end_wrong s k why h (ap (first_reason s) (sym (same h)) ∙ bad)) ] in
    let top : k1 ≡ take 12 (k ++ p) = e ∙ (ap (λ (m : ℕ). k ++ take m p) ea ∙ topped k p 12 few) in
    let end : end_of s (k ++ p) ≡ 12 = ap (end_of s) (rejoined k p k1 a e) ∙ (end_of-append s k1 (drop a p) long ∙ end_wrong s k1 why long bad) in
    (top ∙ ap (λ (m : ℕ). take m (k ++ p)) (sym end), flaw_long s k1 long ∙ bad)

-- a fixed part that is in and sound, and what comes behind it
pub feed_sound : (s : Side) (k p k1 q all : List ℕ) (a r : ℕ) → length k ≤ end_of s k → a ≡ min (12 - length k) (length p) → k1 ≡ k ++ take a p → 12 ≤ length k1 → first_reason s k1 ≡ None → q ≡ drop a p → r ≡ min (size_of k1 - length k1) (length q) → all ≡ k1 ++ take r q → (all ≡ front s (k ++ p)) × (flaw s all ≡ None) × (length all ≡ length k + (a + r))
feed_sound s k p k1 q all a r within ea e long none eq er ea' =
    let n = first_length k p k1 a ea e in
    let same : 12 ≤ length k → k1 ≡ k = λ h. let zero' : a ≡ 0 = omega arith in e ∙ (ap (λ (m : ℕ). k ++ take m p) zero' ∙ append-nil k) in
    let few : length k1 ≤ size_of k1 =
    elim (cases_lt (length k) 12) [
      | inl h ↦ omega (arith, n, ea, size_of-long k1)
      | inr h ↦ omega (arith, within, ap (end_of s) (same h), ap length (same h), end_sound s k1 long none)
    ] in
    let joined : k ++ p ≡ k1 ++ q = rejoined k p k1 a e ∙ ap (λ (l : List ℕ). k1 ++ l) (sym eq) in
    let top : all ≡ take (size_of k1) (k1 ++ q) = ea' ∙ (ap (λ (m : ℕ). k1 ++ take m q) er ∙ topped k1 q (size_of k1) few) in
    let end : end_of s (k ++ p) ≡ size_of k1 = ap (end_of s) joined ∙ (end_of-append s k1 q long ∙ end_sound s k1 long none) in
    let count : length all ≡ length k + (a + r) = omega (arith, ap length ea', length-append k1 (take r q), length-take r q, er, n) in
    let many : 12 ≤ length all = omega arith in
    let sound : first_reason s all ≡ None = ap (first_reason s) ea' ∙ (first_reason-append s k1 (take r q) long ∙ none) in
    (top ∙ (ap (take (size_of k1)) (sym joined) ∙ ap (λ (m : ℕ). take m (k ++ p)) (sym end)), flaw_long s all many ∙ sound, count)

-- what stands in front of what was kept and of a piece is what was kept, and some first bytes of the piece
pub fed_front : (s : Side) (k p : List ℕ) → length k ≤ end_of s k → let n = length (front s (k ++ p)) - length k in (front s (k ++ p) ≡ k ++ take n p) × (length (take n p) ≡ n)
fed_front s k p within =
    let e = end_of s (k ++ p) in
    let m = min (e - length k) (length p) in
    let top = topped k p e (end_grows s k p within) in
    let count : length (front s (k ++ p)) ≡ length k + m = omega (arith, ap length top, length-append k (take m p), length-take m p) in
    let same : length (front s (k ++ p)) - length k ≡ m = omega arith in
    (sym top ∙ ap (λ (i : ℕ). k ++ take i p) (sym same), omega (arith, length-take (length (front s (k ++ p)) - length k) p, same))

-- from the bytes that are kept after a call to all that it did
pub fed_by : (s : Side) (start : ℕ) (k p all : List ℕ) (answer : Result ℕ LinkFault) → length k ≤ end_of s k → all ≡ front s (k ++ p) → MatchOption (flaw s all) (answer ≡ Ok (length all - length k)) (λ why. answer ≡ Err (record { at = start; reason = why })) → let n = length all - length k in Fed (record { side = s; start = start; kept = k }) (take n p) (drop n p) answer (record { side = s; start = start; kept = all })
fed_by s start k p all answer within e said =
    let n = length all - length k in
    let same : n ≡ length (front s (k ++ p)) - length k = ap (λ (l : List ℕ). length l - length k) e in
    let parts = fed_front s k p within in
    let whole : k ++ take n p ++ drop n p ≡ k ++ p = append_assoc k (take n p) (drop n p) ∙ ap (λ (l : List ℕ). k ++ l) (take-append-drop n p) in
    let count : length (take n p) ≡ n = ap (λ (m : ℕ). length (take m p)) same ∙ (parts.1 ∙ sym same) in
    record {
      same_side = refl;
      same_start = refl;
      kept = e ∙ (parts.0 ∙ ap (λ (m : ℕ). k ++ take m p) (sym same));
      as_many = e ∙ ap (front s) (sym whole);
      answered = subst (λ (m : ℕ). MatchOption (flaw s all) (answer ≡ Ok m) (λ why. answer ≡ Err (record { at = start; reason = why }))) (sym count) said;
    }

-- a whole frame in front of what is kept is all of it
pub whole_kept : (s : Side) (k : List ℕ) (f : Frame) (n : ℕ) → length k ≤ end_of s k → IsWholeFront s k f n → spelling f ≡ k
whole_kept s k f n within is =
    let rest = drop n k in
    let long : 12 ≤ length k = omega (arith, ap length is.split, length-append (spelling f) rest, spelling-long f) in
    let none : first_reason s k ≡ None = ap (first_reason s) is.split ∙ first_reason-spelling s f rest is.sound in
    let size : size_of k ≡ length (spelling f) = ap size_of is.split ∙ size_of-spelling s f rest is.sound in
    let empty : rest ≡ [] = nil_from_length rest (omega (arith, ap length is.split, length-append (spelling f) rest, within, end_sound s k long none, size)) in
    sym (is.split ∙ (ap (λ (l : List ℕ). spelling f ++ l) empty ∙ append-nil (spelling f)))

-- what is read where no whole frame stands in front
pub reads_none : (s : Side) (b : List ℕ) (r : Reading) → Reads s b r → (r ≡ reading.NotWhole) ⊎ ((why : FrameReason) × (r ≡ reading.Bad why)) → NoFront s b
reads_none s b r reads (inl e) = partial_no_front s b (subst (Reads s b) e reads)
reads_none s b r reads (inr e) = bad_no_front s b e.0 (subst (Reads s b) e.1 reads)

-- where no frame stands in front of what is kept, no whole one is kept
pub keeps_none : (s : Side) (k : List ℕ) (f : Frame) → NoFront s k → IsFrame s f → spelling f ≡ k → ⊥
keeps_none s k f front is e = front f [] is (sym e ∙ sym (append-nil (spelling f)))

-- the invariant after a piece
pub kept_after : (s : Side) (start : ℕ) (k p all : List ℕ) (old new : ℕ) → KeepsFrame (record { side = s; start = start; kept = k }) old → old ≤ new → AreBytes p → all ≡ front s (k ++ p) → start + length k + length p ≤ 2 ^ 63 → KeepsFrame (record { side = s; start = start; kept = all }) new
kept_after s start k p all old new was grown are e fits = record {
  bytes = subst AreBytes (sym e) (All-take (λ x. x < 256) (end_of s (k ++ p)) (k ++ p) (All-append (λ x. x < 256) k p was.bytes are));
  no_further = subst (λ (l : List ℕ). length l ≤ end_of s l) (sym e) (front_within s (k ++ p));
  room = omega (arith, was.room, grown);
  countable = omega (arith, ap length e, length-take (end_of s (k ++ p)) (k ++ p), length-append k p, fits);
}

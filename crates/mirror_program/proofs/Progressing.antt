-- How far a copy has come.
use Rattle.std.proofs.Common.{◌≡◌, ◌≢◌, ◌<◌, ◌≤◌, ◌+◌, ◌-◌, ℕ, List, [], ◌∷◌, ◌++◌, Option, None, length, drop, refl, sym, ap, ◌∙◌, subst, arith, append-nil, append_assoc, length-append, inl, inr}
use Rattle.std.specs.Prelude.{All, take}
use Rattle.std.proofs.lemmas.Bool.{cases_lt}
use Rattle.std.proofs.lemmas.List.{take_at}
use Rattle.std.proofs.lemmas.List.Concat.{flat_map-append}
use Rattle.std.proofs.lemmas.List.Elements.{All-append, All-cons, All-head, All-nil}
use Rattle.std.specs.Io.KnownBytes.{IsAtEnd}
use Rattle.fidl_names.specs.declared.limits.TheConstants as limit
use Rattle.host_io.specs.Causes.{Rose}
use Rattle.link_frames.specs.Frames.{Bad, Frame, Frames, IsBadFront, IsFrame, IsPartial, spelling, spellings}
use Rattle.link_frames.specs.Views.{IsWholeFront}
use Rattle.link_frames.specs.declared.kinds.FrameReason.{FrameReason}
use Rattle.link_frames.specs.declared.kinds.Side.TheVariants.{Any}
use Rattle.link_frames.proofs.Streams.{partial_no_front}
use Rattle.link_session.specs.Pieces.{TakesPiece}
use Rattle.link_session.specs.Serving.{HeardOne}
use Rattle.link_session.proofs.Progress.{Grown, Grown-partial, Progress, Progress-heard, Progress-none}
use Rattle.link_session.proofs.SessionEnds.{bad_in_piece}
use Rattle.link_session.proofs.ServingLemmas.{Heard-more, Heard-none}
use Rattle.dir_mirror.specs.Copies.{Copy, HasBadEvents, HasGoodEvents, Mirrors}
use Rattle.mirror_program.specs.Answers.{IsBadEvents, IsBadFrame, IsReadFault, IsTooLong, IsTruncated, ReadsAll, TookGood}
use Rattle.mirror_program.specs.Steps.{IsCopyOf, IsTaking, TakesTo, silent}
use Rattle.mirror_program.specs.declared.reading.Taken.{Taken}

-- one frame more is taken
copy_more : (endpoint : ℕ) (old new : Copy) (frames : List Frame) (frame : Frame) → IsCopyOf endpoint old frames → new.endpoint ≡ old.endpoint
    → Mirrors new (frames ++ frame ∷ []) → HasGoodEvents endpoint frame → IsCopyOf endpoint new (frames ++ frame ∷ [])
copy_more endpoint old new frames frame is same mirrors good = record {
  of_it = same ∙ is.of_it;
  mirrors = mirrors;
  good = All-append (HasGoodEvents endpoint) frames (frame ∷ []) is.good (All-cons (HasGoodEvents endpoint) frame [] good (All-nil (HasGoodEvents endpoint)));
}

pub taken_more : (endpoint : ℕ) (old new : Copy) (before : List Frame) (bytes : List ℕ) (n size : ℕ) (frame : Frame) → TakesTo endpoint old before bytes n
    → IsWholeFront Any (drop n bytes) frame size → new.endpoint ≡ old.endpoint → ((frames : List Frame) → Mirrors old frames → Mirrors new (frames ++ frame ∷ []))
    → HasGoodEvents endpoint frame → TakesTo endpoint new before bytes (n + size)
taken_more endpoint old new before bytes n size frame heard front same mirrors good =
    let one : HeardOne silent (IsCopyOf endpoint new) (before ++ heard.frames) frame [] [] = record {
      stands = copy_more endpoint old new (before ++ heard.frames) frame heard.stands same (mirrors (before ++ heard.frames) heard.stands.mirrors) good;
      part = [];
      more = refl;
      appends = refl;
    } in
    Heard-more Any silent (IsCopyOf endpoint old) (IsCopyOf endpoint new) before bytes None None [] [] n size frame heard front one

-- what a copy was when it refused a frame, it still is
pub taken_same : (endpoint : ℕ) (old new : Copy) (before : List Frame) (bytes : List ℕ) (n : ℕ) → TakesTo endpoint old before bytes n → new ≡ old → TakesTo endpoint new before bytes n
taken_same endpoint old new before bytes n heard same = subst (λ copy. TakesTo endpoint copy before bytes n) (sym same) heard

pub taken_none : (endpoint : ℕ) (copy : Copy) (before : List Frame) (bytes : List ℕ) → IsCopyOf endpoint copy before → TakesTo endpoint copy before bytes 0
taken_none endpoint copy before bytes is = Heard-none Any silent (IsCopyOf endpoint copy) before bytes None [] refl is

-- the bytes of a frame in front
pub front_fits : (n size : ℕ) (bytes : List ℕ) (frame : Frame) → IsWholeFront Any (drop n bytes) frame size → size ≤ length (drop n bytes)
front_fits n size bytes frame front =
    omega (arith, front.size, ap length front.split, length-append (spelling frame) (drop size (drop n bytes)))

-- ---- where a reading stops

module _ (endpoint : ℕ) (left left' : Option (List ℕ)) (faults faults' : ℕ) (copy : Copy) (t : ℕ) (kept : List ℕ)
    (g : Progress Any silent (IsCopyOf endpoint copy) left left' None None t kept) where
  took_good : TookGood endpoint left left' g.bytes g.frames kept
  took_good = record { took = g.took; read = g.read; good = g.stands.good }

  -- at the end of the input, between frames
  pub reads_all : kept ≡ [] → t < limit.MAX_INPUT → IsAtEnd left' → ReadsAll endpoint left left' copy
  reads_all none few end = record {
    taken = g.bytes;
    frames = g.frames;
    took = g.took;
    few = omega (arith, g.size, few);
    read = subst (Frames Any g.bytes g.frames) none g.read;
    at_end = end;
    of_it = g.stands.of_it;
    mirrors = g.stands.mirrors;
  }

  -- or inside one
  pub truncated : (at : ℕ) → kept ≢ [] → at + length kept ≡ t → t < limit.MAX_INPUT → IsAtEnd left' → faults' ≡ faults → IsTruncated endpoint left left' faults faults' at
  truncated at some place few end calm = record {
    taken = g.bytes;
    frames = g.frames;
    rest = kept;
    took = took_good;
    few = omega (arith, g.size, few);
    inside = some;
    place = omega (arith, place, g.size);
    at_end = end;
    calm = calm;
  }

  pub too_long : t ≡ limit.MAX_INPUT → faults' ≡ faults → IsTooLong endpoint left left' faults faults'
  too_long many calm = record { taken = g.bytes; frames = g.frames; rest = kept; took = took_good; many = g.size ∙ many; calm = calm }

  pub read_fault : t < limit.MAX_INPUT → Rose faults faults' → IsReadFault endpoint left left' faults faults'
  read_fault few rose = record { taken = g.bytes; frames = g.frames; rest = kept; took = took_good; few = omega (arith, g.size, few); rose = rose }

-- how many bytes were heard, and that they lie within the piece
pub heard_fits : (endpoint : ℕ) (copy : Copy) (before : List Frame) (bytes : List ℕ) (n : ℕ) → (h : TakesTo endpoint copy before bytes n) → n + length (drop n bytes) ≡ length bytes
heard_fits endpoint copy before bytes n h = omega (arith, h.size, ap length h.split, length-append (spellings h.frames) (drop n bytes))

-- one list cut in two ways, of which the first cut lies in front
cut_in_front : (front more kept piece : List ℕ) → kept ++ piece ≡ front ++ more → length front ≤ length kept → (rest : List ℕ) × (kept ≡ front ++ rest)
cut_in_front [] more kept piece e few = (kept, refl)
cut_in_front (x ∷ front) more [] piece e few = absurd (omega (arith, few))
cut_in_front (x ∷ front) more (y ∷ kept) piece e few =
    let heads : y ≡ x = cc in
    let tails : kept ++ piece ≡ front ++ more = cc in
    let rest = cut_in_front front more kept piece tails (omega (arith, few)) in
    (rest.0, ap (λ z. z ∷ kept) heads ∙ ap (λ l. x ∷ l) rest.1)

-- a rest that has begun a frame at most is shorter than the first of the frames that more bytes make of it
shorter : (kept piece more : List ℕ) (f : Frame) (frames : List Frame) → IsPartial Any kept → All (IsFrame Any) (f ∷ frames) → kept ++ piece ≡ spellings (f ∷ frames) ++ more
    → length kept < length (spellings (f ∷ frames))
shorter kept piece more f frames partial each e =
    let joined : kept ++ piece ≡ spelling f ++ (spellings frames ++ more) = e ∙ append_assoc (spelling f) (spellings frames) more in
    let long = length-append (spelling f) (spellings frames) in
    elim (cases_lt (length kept) (length (spelling f))) as (λ _. length kept < length (spellings (f ∷ frames))) [
      | inl less ↦ omega (arith, less, long)
      | inr whole ↦
          let cut = cut_in_front (spelling f) (spellings frames ++ more) kept piece joined whole in
          absurd (partial_no_front Any kept partial f cut.0 (All-head (IsFrame Any) f frames each) cut.1)
    ]

some_shorter : (kept piece more : List ℕ) (frames : List Frame) (frame : Frame) → IsPartial Any kept → All (IsFrame Any) (frames ++ frame ∷ [])
    → kept ++ piece ≡ spellings (frames ++ frame ∷ []) ++ more → length kept < length (spellings (frames ++ frame ∷ []))
some_shorter kept piece more [] frame partial each e = shorter kept piece more frame [] partial each e
some_shorter kept piece more (f ∷ frames) frame partial each e = shorter kept piece more f (frames ++ frame ∷ []) partial each e

-- these frames and one more
one_more : (frames : List Frame) (frame : Frame) → spellings (frames ++ frame ∷ []) ≡ spellings frames ++ spelling frame
one_more frames frame = flat_map-append spelling frames (frame ∷ []) ∙ ap (λ l. spellings frames ++ l) (append-nil (spelling frame))

module _ (endpoint : ℕ) (left left' left'' : Option (List ℕ)) (faults faults' : ℕ) (copy copy' : Copy) (t t' size n : ℕ) (kept kept' : List ℕ)
    (g : Progress Any silent (IsCopyOf endpoint copy) left left' None None t kept) (piece : TakesPiece left' left'' kept kept' size) (few : size ≤ limit.MAX_PIECE)
    (total : t' ≡ t + size) (within : t' ≤ limit.MAX_INPUT) (counted : length kept' ≤ t') (h : TakesTo endpoint copy' g.frames kept' n) (calm : faults' ≡ faults) where
  grown : Grown Any silent (IsCopyOf endpoint copy') left left'' None None (t + size) [] (drop n kept')
  grown = Progress-heard Any silent (IsCopyOf endpoint copy) (IsCopyOf endpoint copy') _ _ _ _ _ _ t size n kept kept' [] g piece h

  -- what was heard ends there
  front_ends : length (spellings grown.frames) ≡ t' - length kept' + n
  front_ends =
      omega (arith, ap length grown.split, length-append (spellings grown.frames) (drop n kept'), grown.size, heard_fits endpoint copy' g.frames kept' n h, total, counted)

  -- more is read
  pub reads_on : IsPartial Any (drop n kept') → Progress Any silent (IsCopyOf endpoint copy') left left'' None None t' (drop n kept')
  reads_on partial =
      subst (λ k. Progress Any silent (IsCopyOf endpoint copy') left left'' None None k (drop n kept')) (sym total)
      (Grown-partial Any silent (IsCopyOf endpoint copy') _ _ _ _ _ _ _ _ grown partial tt)

  pub bad_frame : (why : FrameReason) → IsBadFront Any (drop n kept') why → IsBadFrame endpoint left left'' faults faults' (t' - length kept' + n) why
  unfolding Progress-heard grown
  bad_frame why front =
      let at = t' - length kept' + n in
      let bad : Bad Any grown.bytes at why =
      record { frames = grown.frames; tail = drop n kept'; split = grown.split; each = grown.each; place = front_ends; front = front } in
      let near = bad_in_piece Any g.bytes piece.0 g.frames kept at why g.read bad in
      record {
        taken = grown.bytes;
        frames = grown.frames;
        took = grown.took;
        within = omega (arith, grown.size, total, within);
        near = omega (arith, grown.size, g.size, near, few);
        bad = bad;
        before_it = record {
          split = ap (take at) grown.split ∙ take_at (spellings grown.frames) (drop n kept') at front_ends ∙ sym (append-nil (spellings grown.frames));
          each = grown.each;
          partial = inl (omega arith);
        };
        good = grown.stands.good;
        calm = calm;
      }

  pub bad_events : (frame : Frame) (length_of : ℕ) → IsWholeFront Any (drop n kept') frame length_of → HasBadEvents endpoint frame
      → IsBadEvents endpoint left left'' faults faults' (t' - length kept' + n)
  bad_events frame length_of front bad =
      let more = one_more grown.frames frame in
      let each = All-append (IsFrame Any) h.frames (frame ∷ []) h.each (All-cons (IsFrame Any) frame [] front.sound (All-nil (IsFrame Any))) in
      let rest = drop length_of (drop n kept') in
      let heard : kept ++ piece.0 ≡ spellings (h.frames ++ frame ∷ []) ++ rest =
      sym piece.2 ∙ h.split ∙ ap (λ l. spellings h.frames ++ l) front.split ∙ sym (append_assoc (spellings h.frames) (spelling frame) rest)
      ∙ ap (λ l. l ++ rest) (sym (one_more h.frames frame)) in
      let less = some_shorter kept piece.0 rest h.frames frame g.read.partial each heard in
      let size_of_all : length (spellings (h.frames ++ frame ∷ [])) ≡ n + length (spelling frame) =
      ap length (one_more h.frames frame) ∙ omega (arith, length-append (spellings h.frames) (spelling frame), h.size) in
      record {
        taken = grown.bytes;
        frames = grown.frames;
        frame = frame;
        took = grown.took;
        within = omega (arith, grown.size, total, within);
        each = All-append (IsFrame Any) grown.frames (frame ∷ []) grown.each (All-cons (IsFrame Any) frame [] front.sound (All-nil (IsFrame Any)));
        begins = (
          drop length_of (drop n kept'),
          grown.split ∙ ap (λ l. spellings grown.frames ++ l) front.split ∙ sym (append_assoc (spellings grown.frames) (spelling frame) (drop length_of (drop n kept')))
              ∙ ap (λ l. l ++ drop length_of (drop n kept')) (sym more),
        );
        place = front_ends;
        near = omega (arith, grown.size, total, few, less, size_of_all, counted, ap length piece.2, length-append kept piece.0, piece.3);
        good = grown.stands.good;
        bad = bad;
        calm = calm;
      }

-- what the frames of a piece led to, by the endpoint that the copy began with
pub taking_of : (e e' : ℕ) (copy copy' : Copy) (frames : List Frame) (bytes : List ℕ) (answer : Taken) → e ≡ e'
    → ((before : List Frame) → IsCopyOf e copy before → IsTaking e copy' before bytes answer) → IsCopyOf e' copy frames → IsTaking e' copy' frames bytes answer
taking_of e e' copy copy' frames bytes answer same takes is =
    subst (λ n. IsTaking n copy' frames bytes answer) same (takes frames (subst (λ n. IsCopyOf n copy frames) (sym same) is))

-- nothing was read
pub read_nothing : (endpoint : ℕ) (copy : Copy) (left : Option (List ℕ)) (kept : List ℕ) → IsCopyOf endpoint copy [] → kept ≡ []
    → Progress Any silent (IsCopyOf endpoint copy) left left None None 0 kept
read_nothing endpoint copy left kept is none = Progress-none Any silent (IsCopyOf endpoint copy) left None kept refl is none

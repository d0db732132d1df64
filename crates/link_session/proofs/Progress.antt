-- How far a session has come: what was taken, which frames these bytes hold, and what was written for them.
use Rattle.std.proofs.Common.{◌≡◌, ℕ, ◌+◌, ◌≤◌, List, [], ◌∷◌, ◌++◌, Option, Some, None, length, drop, refl, sym, ap, ◌∙◌, subst, arith, append_assoc, append-nil, length-append, inl, inr}
use Rattle.std.specs.Prelude.{All, ◌⊎◌, min}
use Rattle.std.proofs.lemmas.List.Elements.{All-append, All-nil}
use Rattle.std.proofs.lemmas.List.Concat.{flat_map-append}
use Rattle.std.specs.Io.KnownBytes.{Appends, Consumes, IsAtEnd, Keeps}
use Rattle.fidl_names.specs.declared.limits.TheConstants as limit
use Rattle.std.proofs.KnownBytes.{Appends-trans, Appends-nil, Consumes-kept, Consumes-trans, Consumes-nil}
use Rattle.host_io.specs.Streams.{AppendsPart, AreFlushed, IsFlushed}
use Rattle.link_frames.specs.Frames.{Frame, Frames, IsFrame, spelling, spellings, IsPartial}
use Rattle.link_frames.specs.Fronts.{Begins}
use Rattle.link_frames.specs.declared.kinds.Side.{Side}
use Rattle.link_frames.proofs.Streams.{frames_stay}
use Rattle.run_status.specs.Outside.{Streams}
use Rattle.link_session.specs.Pieces.{TakesPiece}
use Rattle.link_session.specs.Serving.{IsGrowing, Passes, Heard, HeardPart}
use Rattle.link_session.specs.Session.{Course, KeepsUp, IsCutOff, IsPartSoFar, IsPartByEnd}

-- frames behind a rest that they complete
pub split-more : (bytes piece kept kept' rest : List ℕ) (frames more : List Frame) → bytes ≡ spellings frames ++ kept → kept' ≡ kept ++ piece
    → kept' ≡ spellings more ++ rest → bytes ++ piece ≡ spellings (frames ++ more) ++ rest
split-more bytes piece kept kept' rest frames more s k h =
    ap (λ l. l ++ piece) s ∙ append_assoc (spellings frames) kept piece ∙ ap (λ l. spellings frames ++ l) (sym k ∙ h)
    ∙ sym (append_assoc (spellings frames) (spellings more) rest) ∙ ap (λ l. l ++ rest) (sym (flat_map-append spelling frames more))

-- nothing has no bytes
pub empty : (bytes : List ℕ) → length bytes ≡ 0 → bytes ≡ []
empty [] e = refl
empty (x ∷ bytes) e = absurd (omega (arith, e))

-- one list cut in two ways, of which the first cut lies in front
cut_before : (early late bytes piece : List ℕ) → bytes ++ piece ≡ early ++ late → length piece ≤ length late
    → bytes ≡ early ++ drop (length early) bytes
cut_before [] late bytes piece e h = refl
cut_before (x ∷ early) late [] piece e h = absurd (omega (arith, ap length e, length-append early late))
cut_before (x ∷ early) late (y ∷ bytes) piece e h =
    let heads : y ≡ x = cc in
    let tails : bytes ++ piece ≡ early ++ late = cc in
    ap (λ z. z ∷ bytes) heads ∙ ap (λ l. x ∷ l) (cut_before early late bytes piece tails h)

-- told bytes that grew by these were all flushed, and stay so
flushed_since : (old now : Option (List ℕ)) (bytes : List ℕ) (count later : ℕ) → Appends old now bytes → IsFlushed now count → count ≤ later
    → AreFlushed old bytes later
flushed_since None now bytes count later a f l = tt
flushed_since (Some old) None bytes count later a f l = absurd a
flushed_since (Some old) (Some now) bytes count later a f l = omega (arith, ap length a, length-append old bytes, f, l)

-- a front of what is flushed is flushed
flushed_front : (old : Option (List ℕ)) (front whole : List ℕ) (count : ℕ) → Begins front whole → AreFlushed old whole count → AreFlushed old front count
flushed_front None front whole count f all = tt
flushed_front (Some old) front whole count f all = omega (arith, ap length f.1, length-append front f.0, all)

module _ (side : Side) where
  pub record Progress (course : Course) (Stands : List Frame → Type 0) (left left' written written' : Option (List ℕ)) (taken : ℕ) (kept : List ℕ) : Type 0 where
    pub bytes : List ℕ
    pub frames : List Frame
    pub size : length bytes ≡ taken
    pub took : Consumes left left' bytes
    pub read : Frames side bytes frames kept
    pub got : Appends written written' (course.so_far frames)
    pub stands : Stands frames

  -- nothing was taken yet
  pub Progress-none : (course : Course) (Stands : List Frame → Type 0) (left written : Option (List ℕ)) (kept : List ℕ)
      → course.so_far [] ≡ [] → Stands [] → kept ≡ [] → Progress course Stands left left written written 0 kept
  Progress-none course Stands left written kept e s f = record {
    bytes = [];
    frames = [];
    size = refl;
    took = Consumes-nil left;
    read = record { split = sym f; each = All-nil (IsFrame side); partial = subst (IsPartial side) (sym f) (inl (omega arith)) };
    got = subst (Appends written written) (sym e) (Appends-nil written);
    stands = s;
  }

  -- a piece was taken and its whole frames were heard; what is written for them may be held back
  pub record Grown (course : Course) (Stands : List Frame → Type 0) (left left' written written' : Option (List ℕ)) (taken : ℕ) (held rest : List ℕ) : Type 0 where
    pub bytes : List ℕ
    pub frames : List Frame
    pub size : length bytes ≡ taken
    pub took : Consumes left left' bytes
    pub each : All (IsFrame side) frames
    pub split : bytes ≡ spellings frames ++ rest
    pub passed : Passes written written' (course.so_far frames) held
    pub stands : Stands frames

  unfoldable pub Progress-heard : (course : Course) (Stands Stands' : List Frame → Type 0) (l l' l'' w w' w'' : Option (List ℕ)) (t n k : ℕ) (kept kept' held : List ℕ)
      → (g : Progress course Stands l l' w w' t kept) → TakesPiece l' l'' kept kept' n → Heard side course Stands' g.frames kept' w' w'' held k
      → Grown course Stands' l l'' w w'' (t + n) held (drop k kept')
  Progress-heard course Stands Stands' l l' l'' w w' w'' t n k kept kept' held g piece h = record {
    bytes = g.bytes ++ piece.0;
    frames = g.frames ++ h.frames;
    size = omega (arith, length-append g.bytes piece.0, g.size, piece.3);
    took = Consumes-trans l l' l'' g.bytes piece.0 g.took piece.1;
    each = All-append (IsFrame side) g.frames h.frames g.read.each h.each;
    split = split-more g.bytes piece.0 kept kept' (drop k kept') g.frames h.frames g.read.split piece.2 h.split;
    passed = (
      course.so_far g.frames ++ h.passed.0,
      Appends-trans w w' w'' _ _ g.got h.passed.1,
      append_assoc (course.so_far g.frames) h.passed.0 held ∙ ap (λ b. course.so_far g.frames ++ b) h.passed.2 ∙ sym h.more,
    );
    stands = h.stands;
  }

  -- all of it is written
  pub Grown-got : (course : Course) (Stands : List Frame → Type 0) (l l' w w' w'' : Option (List ℕ)) (t : ℕ) (held rest : List ℕ)
      → (g : Grown course Stands l l' w w' t held rest) → Appends w' w'' held → Appends w w'' (course.so_far g.frames)
  Grown-got course Stands l l' w w' w'' t held rest g a =
      subst (Appends w w'') g.passed.2 (Appends-trans w w' w'' g.passed.0 held g.passed.1 a)

  pub Grown-partial : (course : Course) (Stands : List Frame → Type 0) (l l' w w' w'' : Option (List ℕ)) (t : ℕ) (held rest : List ℕ)
      → Grown course Stands l l' w w' t held rest → IsPartial side rest → Appends w' w'' held → Progress course Stands l l' w w'' t rest
  Grown-partial course Stands l l' w w' w'' t held rest g partial a = record {
    bytes = g.bytes;
    frames = g.frames;
    size = g.size;
    took = g.took;
    read = record { split = g.split; each = g.each; partial = partial };
    got = Grown-got course Stands l l' w w' w'' t held rest g a;
    stands = g.stands;
  }

  -- the session still stands there
  pub Progress-stands : (course : Course) (Stands Stands' : List Frame → Type 0) (l l' w w' : Option (List ℕ)) (t : ℕ) (kept : List ℕ)
      → (g : Progress course Stands l l' w w' t kept) → Stands' g.frames → Progress course Stands' l l' w w' t kept
  Progress-stands course Stands Stands' l l' w w' t kept g s = record {
    bytes = g.bytes;
    frames = g.frames;
    size = g.size;
    took = g.took;
    read = g.read;
    got = g.got;
    stands = s;
  }

  -- no more was taken
  pub Progress-kept : (course : Course) (Stands : List Frame → Type 0) (l l' l'' w w' : Option (List ℕ)) (t : ℕ) (kept : List ℕ)
      → Progress course Stands l l' w w' t kept → Keeps l' l'' → Progress course Stands l l'' w w' t kept
  Progress-kept course Stands l l' l'' w w' t kept g same = record {
    bytes = g.bytes;
    frames = g.frames;
    size = g.size;
    took = Consumes-kept l l' l'' g.bytes g.took same;
    read = g.read;
    got = g.got;
    stands = g.stands;
  }

  -- the end of the input changes nothing
  pub Progress-ended : (course : Course) (Stands : List Frame → Type 0) (l l' l'' w w' : Option (List ℕ)) (t n : ℕ) (kept kept' : List ℕ)
      → Progress course Stands l l' w w' t kept → TakesPiece l' l'' kept kept' n → n ≡ 0 → Progress course Stands l l'' w w' t kept'
  Progress-ended course Stands l l' l'' w w' t n kept kept' g piece e =
      let none : piece.0 ≡ [] = empty piece.0 (piece.3 ∙ e) in
      let same : kept ≡ kept' = sym (append-nil kept) ∙ ap (λ b. kept ++ b) (sym none) ∙ sym piece.2 in
      let all : g.bytes ++ piece.0 ≡ g.bytes = ap (λ b. g.bytes ++ b) none ∙ append-nil g.bytes in
      record {
        bytes = g.bytes;
        frames = g.frames;
        size = g.size;
        took = subst (Consumes l l'') all (Consumes-trans l l' l'' g.bytes piece.0 g.took piece.1);
        read = subst (Frames side g.bytes g.frames) same g.read;
        got = g.got;
        stands = g.stands;
      }

  -- nothing was taken, or all that is written for the frames so far is flushed
  abbrev pub IsPassedOn : Course → Option (List ℕ) → List ℕ → List Frame → ℕ → Type 0
  IsPassedOn course written bytes frames flushed = (bytes ≡ []) ⊎ AreFlushed written (course.so_far frames) flushed

  pub Progress-passed : (course : Course) (Stands : List Frame → Type 0) (l l' w w' : Option (List ℕ)) (t : ℕ) (kept : List ℕ) (same : Type 0) (count later : ℕ)
      → (g : Progress course Stands l l' w w' t kept) → ((t ≡ 0) × same) ⊎ IsFlushed w' count → count ≤ later
      → IsPassedOn course w g.bytes g.frames later
  Progress-passed course Stands l l' w w' t kept same count later g (inl none) still = inl (empty g.bytes (g.size ∙ none.0))
  Progress-passed course Stands l l' w w' t kept same count later g (inr all) still =
      inr (flushed_since w w' (course.so_far g.frames) count later g.got all still)

  -- what is written and flushed keeps up with all pieces but the last
  pub keeps_up : (course : Course) → IsGrowing course → (before after_it : Streams) (bytes piece kept part : List ℕ) (frames : List Frame)
      → Frames side bytes frames kept → length piece ≤ min after_it.last limit.MAX_PIECE → IsPassedOn course before.written bytes frames after_it.flushed
      → KeepsUp side course before after_it (bytes ++ piece) (course.so_far frames ++ part)
  keeps_up course grows before after_it bytes piece kept part frames read small passed early last answered rest e far some early_read =
      let cut = cut_before early last bytes piece e (omega arith) in
      let next = frames_stay side early (drop (length early) bytes) answered frames rest kept early_read (subst (λ b. Frames side b frames kept) cut read) in
      let longer = grows.more answered next.0 in
      let more : course.so_far frames ≡ course.so_far answered ++ longer.0 = ap course.so_far next.1 ∙ longer.1 in (
        (longer.0 ++ part, ap (λ l. l ++ part) more ∙ append_assoc (course.so_far answered) longer.0 part),
        elim passed as (λ _. AreFlushed before.written (course.so_far answered) after_it.flushed) [
          | inl none ↦ absurd (some (empty early (omega (arith, ap length none, ap length cut, length-append early (drop (length early) bytes)))))
          | inr all ↦ flushed_front before.written (course.so_far answered) (course.so_far frames) after_it.flushed (longer.0, more) all
        ],
      )

  -- whole frames alone
  whole : (frames : List Frame) → All (IsFrame side) frames → Frames side (spellings frames) frames []
  whole frames each = record { split = sym (append-nil (spellings frames)); each = each; partial = inl (omega arith) }

  -- an output couldn't be written, or not be made, for frames behind those that were answered
  pub cut_off : (course : Course) → IsGrowing course → (Stands : List Frame → Type 0) (before after_it : Streams)
      (left' written' : Option (List ℕ)) (t n : ℕ) (kept kept' : List ℕ)
      → (g : Progress course Stands before.left left' before.written written' t kept) → TakesPiece left' after_it.left kept kept' n → n ≤ min after_it.last limit.MAX_PIECE
      → t + n ≤ limit.MAX_INPUT → IsPassedOn course before.written g.bytes g.frames after_it.flushed → after_it.read_faults ≡ before.read_faults
      → HeardPart side course g.frames kept' written' after_it.written → IsCutOff side course before after_it
  cut_off course grows Stands before after_it left' written' t n kept kept' g piece last within passed source h = record {
    taken = g.bytes ++ piece.0;
    part = course.so_far g.frames ++ h.part;
    took = Consumes-trans _ _ _ _ _ g.took piece.1;
    within = omega (arith, length-append g.bytes piece.0, g.size, piece.3, within);
    lawful = inl (record {
      front = spellings (g.frames ++ h.frames);
      frames = g.frames ++ h.frames;
      begins = (h.begins.0, split-more g.bytes piece.0 kept kept' h.begins.0 g.frames h.frames g.read.split piece.2 h.begins.1);
      read = whole (g.frames ++ h.frames) (All-append (IsFrame side) g.frames h.frames g.read.each h.each);
      lawful = h.lawful;
    });
    keeps_up = keeps_up course grows before after_it g.bytes piece.0 kept h.part g.frames g.read (omega (arith, piece.3, last)) passed;
    wrote = Appends-trans _ _ _ _ _ g.got h.got;
    source = source;
  }

  -- the end, which the input has reached, couldn't be written whole
  pub cut_behind : (course : Course) → IsGrowing course → (Stands : List Frame → Type 0) (before after_it : Streams)
      (written' : Option (List ℕ)) (t : ℕ) (kept part : List ℕ)
      → (g : Progress course Stands before.left after_it.left before.written written' t kept) → t ≤ limit.MAX_INPUT
      → IsPartSoFar side course g.bytes (course.so_far g.frames ++ part) ⊎ IsPartByEnd side course g.bytes (IsAtEnd after_it.left) (course.so_far g.frames ++ part)
      → Appends written' after_it.written part → IsPassedOn course before.written g.bytes g.frames after_it.flushed
      → after_it.read_faults ≡ before.read_faults → IsCutOff side course before after_it
  cut_behind course grows Stands before after_it written' t kept part g within lawful a passed source = record {
    taken = g.bytes;
    part = course.so_far g.frames ++ part;
    took = g.took;
    within = omega (arith, g.size, within);
    lawful = lawful;
    keeps_up = subst (λ b. KeepsUp side course before after_it b (course.so_far g.frames ++ part)) (append-nil g.bytes)
        (keeps_up course grows before after_it g.bytes [] kept part g.frames g.read (omega arith) passed);
    wrote = Appends-trans _ _ _ _ _ g.got a;
    source = source;
  }

  -- nothing of the end was written
  pub part_so_far : (course : Course) (bytes kept : List ℕ) (frames : List Frame) → Frames side bytes frames kept
      → IsPartSoFar side course bytes (course.so_far frames ++ [])
  part_so_far course bytes kept frames read = record {
    front = spellings frames;
    frames = frames;
    begins = (kept, read.split);
    read = whole frames read.each;
    lawful = ([], sym (append-nil (course.so_far frames)) ∙ sym (append-nil (course.so_far frames ++ [])));
  }

  -- what was held back is the front of a part that couldn't be written whole
  pub heard_part : (course : Course) (Stands : List Frame → Type 0) (before : List Frame) (bytes : List ℕ) (w w' w'' : Option (List ℕ)) (held : List ℕ) (n : ℕ)
      → Heard side course Stands before bytes w w' held n → AppendsPart w' w'' held → HeardPart side course before bytes w w''
  heard_part course Stands before bytes w w' w'' held n h a = record {
    frames = h.frames;
    each = h.each;
    begins = (drop n bytes, h.split);
    part = h.passed.0 ++ a.0;
    lawful = (
      a.1,
      h.more ∙ ap (λ l. course.so_far before ++ l) (sym h.passed.2 ∙ ap (λ l. h.passed.0 ++ l) a.2 ∙ sym (append_assoc h.passed.0 a.0 a.1))
          ∙ sym (append_assoc (course.so_far before) (h.passed.0 ++ a.0) a.1),
    );
    got = Appends-trans w w' w'' h.passed.0 a.0 h.passed.1 a.3;
  }

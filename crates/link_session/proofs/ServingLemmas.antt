-- Serving one more frame.
use Rattle.std.proofs.Common.{◌≡◌, ℕ, ◌+◌, List, [], ◌∷◌, ◌++◌, Option, length, drop, refl, sym, ap, ◌∙◌, subst, arith, append_assoc, append-nil, length-append, ◌≤◌}
use Rattle.std.proofs.lemmas.List.{drop-drop}
use Rattle.std.proofs.lemmas.List.Elements.{All-append, All-cons, All-nil}
use Rattle.std.proofs.lemmas.List.Concat.{flat_map-append}
use Rattle.std.proofs.KnownBytes.{Appends-trans, Appends-nil}
use Rattle.link_frames.specs.Frames.{Frame, IsFrame, spelling, spellings}
use Rattle.link_frames.specs.Views.{IsWholeFront}
use Rattle.link_frames.specs.declared.kinds.Side.{Side}
use Rattle.link_session.specs.Serving.{Passes, Heard, HeardOne}
use Rattle.link_session.specs.Session.{Course}

pub Passes-none : (w : Option (List ℕ)) (held : List ℕ) → Passes w w held held
Passes-none w held = ([], Appends-nil w, refl)

pub Passes-trans : (w w' w'' : Option (List ℕ)) (all held held' : List ℕ) → Passes w w' all held → Passes w' w'' held held' → Passes w w'' all held'
Passes-trans w w' w'' all held held' p q =
    (p.0 ++ q.0, Appends-trans w w' w'' p.0 q.0 p.1 q.1, append_assoc p.0 q.0 held' ∙ ap (λ l. p.0 ++ l) q.2 ∙ p.2)

module _ (side : Side) where
  -- no frame was heard yet
  pub Heard-none : (course : Course) (Stands : List Frame → Type 0) (before : List Frame) (bytes : List ℕ) (w : Option (List ℕ)) (held : List ℕ)
      → held ≡ [] → Stands before → Heard side course Stands before bytes w w held 0
  Heard-none course Stands before bytes w held e s = record {
    frames = [];
    each = All-nil (IsFrame side);
    split = refl;
    size = refl;
    stands = subst Stands (sym (append-nil before)) s;
    owed = [];
    more = ap course.so_far (append-nil before) ∙ sym (append-nil (course.so_far before));
    passed = ([], Appends-nil w, e);
  }

  -- what was held back is written
  pub Heard-pass : (course : Course) (Stands : List Frame → Type 0) (before : List Frame) (bytes : List ℕ) (w w' w'' : Option (List ℕ)) (held held' : List ℕ) (n : ℕ)
      → Heard side course Stands before bytes w w' held n → Passes w' w'' held held' → Heard side course Stands before bytes w w'' held' n
  Heard-pass course Stands before bytes w w' w'' held held' n h p = record {
    frames = h.frames;
    each = h.each;
    split = h.split;
    size = h.size;
    stands = h.stands;
    owed = h.owed;
    more = h.more;
    passed = Passes-trans w w' w'' _ held held' h.passed p;
  }

  -- the session still stands there
  pub Heard-stands : (course : Course) (Stands Stands' : List Frame → Type 0) (before : List Frame) (bytes : List ℕ) (w w' : Option (List ℕ)) (held : List ℕ) (n : ℕ)
      → (h : Heard side course Stands before bytes w w' held n) → Stands' (before ++ h.frames) → Heard side course Stands' before bytes w w' held n
  Heard-stands course Stands Stands' before bytes w w' held n h s = record {
    frames = h.frames;
    each = h.each;
    split = h.split;
    size = h.size;
    stands = s;
    owed = h.owed;
    more = h.more;
    passed = h.passed;
  }

-- one frame more stands behind those that were heard
spellings-more : (frames : List Frame) (frame : Frame) → spellings (frames ++ frame ∷ []) ≡ spellings frames ++ spelling frame
spellings-more frames frame = flat_map-append spelling frames (frame ∷ []) ∙ ap (λ l. spellings frames ++ l) (append-nil (spelling frame))

module _ (side : Side) where
  pub Heard-more : (course : Course) (Stands Stands' : List Frame → Type 0) (before : List Frame) (bytes : List ℕ) (w w' : Option (List ℕ)) (held held' : List ℕ)
      (n size : ℕ) (frame : Frame)
      → (h : Heard side course Stands before bytes w w' held n) → IsWholeFront side (drop n bytes) frame size
      → HeardOne course Stands' (before ++ h.frames) frame held held' → Heard side course Stands' before bytes w w' held' (n + size)
  Heard-more course Stands Stands' before bytes w w' held held' n size frame h front next =
      let assoc = append_assoc before h.frames (frame ∷ []) in
      record {
        frames = h.frames ++ frame ∷ [];
        each = All-append (IsFrame side) h.frames (frame ∷ []) h.each (All-cons (IsFrame side) frame [] front.sound (All-nil (IsFrame side)));
        split = h.split ∙ ap (λ l. spellings h.frames ++ l) (front.split ∙ ap (λ l. spelling frame ++ l) (drop-drop size n bytes))
            ∙ sym (append_assoc (spellings h.frames) (spelling frame) (drop (n + size) bytes))
            ∙ ap (λ l. l ++ drop (n + size) bytes) (sym (spellings-more h.frames frame));
        size = ap length (spellings-more h.frames frame) ∙ omega (arith, length-append (spellings h.frames) (spelling frame), h.size, front.size);
        stands = subst Stands' assoc next.stands;
        owed = h.owed ++ next.part;
        more = ap course.so_far (sym assoc) ∙ next.more ∙ ap (λ l. l ++ next.part) h.more ∙ append_assoc (course.so_far before) h.owed next.part;
        passed = (
          h.passed.0,
          h.passed.1,
          ap (λ l. h.passed.0 ++ l) next.appends ∙ sym (append_assoc h.passed.0 held next.part) ∙ ap (λ l. l ++ next.part) h.passed.2,
        );
      }

-- a frame has some bytes
pub spelling_long : (frame : Frame) → 1 ≤ length (spelling frame)
spelling_long frame = simp length-append (omega arith)

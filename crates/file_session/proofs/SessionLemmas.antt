-- The session of one file, over frames one after another.
use Rattle.std.proofs.Common.{◌≡◌, ℕ, Bool, true, List, [], ◌∷◌, ◌++◌, Some, None, refl, sym, ap, ◌∙◌, subst, append_assoc, append-nil, ◌⊎◌, inl, inr}
use Rattle.std.proofs.lemmas.List.Concat.{flat_map-append}
use Rattle.link_frames.specs.Frames.{Frame, spelling, spellings}
use Rattle.link_frames.specs.declared.kinds.FrameKind.{FrameKind}
use Rattle.link_frames.specs.declared.kinds.FrameKind.TheVariants as kind
use Rattle.link_admission.specs.Admission.{admission}
use Rattle.link_frames.specs.declared.kinds.Refusal.{Refusal}
use Rattle.link_frames.specs.Refusals.{refused_frame}
use Rattle.conn_rules.specs.Births.{Position, fresh}
use Rattle.link_session.specs.Serving.{IsGrowing, HeardOne, HeardEnd}
use Rattle.link_session.specs.Session.{Course}
use Rattle.file_session.specs.OneFile.{Standing, at_start, look_ups, outcome, by_refusal, admitted, Outcome, Hears, answers, after, file_course, IsBehind}

-- a frame that is refused
pub outcome_refused : (file : List ℕ) (now : Standing) (frame : Frame) (why : Refusal) → Some why ≡ admission (look_ups now.live) frame
    → record { frames = refused_frame frame.endpoint why ∷ []; next = now } ≡ outcome file now frame
unfolding outcome
outcome_refused file now frame why e = ap (by_refusal file now frame) e

-- a frame that is admitted
pub outcome_admitted : (file : List ℕ) (now : Standing) (frame : Frame) → None ≡ admission (look_ups now.live) frame
    → admitted file now frame.kind frame.bytes ≡ outcome file now frame
unfolding outcome
outcome_admitted file now frame e = ap (by_refusal file now frame) e

-- a Turn, a Pick or a Refused frame serves nothing
pub admitted_idle : (file : List ℕ) (now : Standing) (k : FrameKind) (bytes : List ℕ) → (k ≡ kind.Turn) ⊎ ((k ≡ kind.Pick) ⊎ (k ≡ kind.Refused))
    → record { frames = []; next = now } ≡ admitted file now k bytes
admitted_idle file now k bytes (inl e) = ap (λ (j : FrameKind). admitted file now j bytes) (sym e)
admitted_idle file now k bytes (inr (inl e)) = ap (λ (j : FrameKind). admitted file now j bytes) (sym e)
admitted_idle file now k bytes (inr (inr e)) = ap (λ (j : FrameKind). admitted file now j bytes) (sym e)

-- what a frame led to, told otherwise
pub hears_as : (led led' : Outcome) (next : Standing) (held held' : List ℕ) → led ≡ led' → Hears led next held held' → Hears led' next held held'
hears_as led led' next held held' is hears = subst (λ o. Hears o next held held') is hears

-- nothing is written
pub hears_none : (next : Standing) (held : List ℕ) → Hears (record { frames = []; next = next }) next held held
hears_none next held = record { frames = sym (append-nil held); stands = refl }

pub answers-append : (file : List ℕ) (now : Standing) (frames more : List Frame)
    → answers file now (frames ++ more) ≡ answers file now frames ++ answers file (after file now frames) more
answers-append file now [] more = refl
answers-append file now (frame ∷ frames) more =
    ap (λ l. (outcome file now frame).frames ++ l) (answers-append file (outcome file now frame).next frames more)
    ∙ sym (append_assoc (outcome file now frame).frames _ _)

pub after-append : (file : List ℕ) (now : Standing) (frames more : List Frame)
    → after file now (frames ++ more) ≡ after file (after file now frames) more
after-append file now [] more = refl
after-append file now (frame ∷ frames) more = after-append file (outcome file now frame).next frames more

-- what is written for frames that follow others
pub written-append : (file : List ℕ) (now next : Standing) (frames more : List Frame) → next ≡ after file now frames
    → spellings (answers file now (frames ++ more)) ≡ spellings (answers file now frames) ++ spellings (answers file next more)
written-append file now next frames more e =
    ap spellings (answers-append file now frames more)
    ∙ flat_map-append spelling (answers file now frames) (answers file (after file now frames) more)
    ∙ ap (λ s. spellings (answers file now frames) ++ spellings (answers file s more)) (sym e)

-- and for one frame more
pub written-more : (file : List ℕ) (now next : Standing) (frames : List Frame) (frame : Frame) → next ≡ after file now frames
    → spellings (answers file now (frames ++ frame ∷ [])) ≡ spellings (answers file now frames) ++ spellings (outcome file next frame).frames
written-more file now next frames frame e =
    written-append file now next frames (frame ∷ []) e
    ∙ ap (λ l. spellings (answers file now frames) ++ spellings l) (append-nil (outcome file next frame).frames)

-- one frame more
pub file_next : (file : List ℕ) (now next : Standing) (frames : List Frame) (frame : Frame) (held held' : List ℕ) → IsBehind file now frames
    → held' ≡ held ++ spellings (outcome file now frame).frames → next ≡ (outcome file now frame).next
    → HeardOne (file_course file) (IsBehind file next) frames frame held held'
file_next file now next frames frame held held' s e moved = record {
  stands = moved ∙ ap (λ n. (outcome file n frame).next) s ∙ sym (after-append file at_start frames (frame ∷ []));
  part = spellings (outcome file now frame).frames;
  more = written-more file at_start now frames frame s;
  appends = e;
}

-- the end adds nothing
pub file_end : (file : List ℕ) (frames : List Frame) (held : List ℕ) → HeardEnd (file_course file) frames held held
file_end file frames held = record { part = []; more = sym (append-nil (spellings (answers file at_start frames))); appends = sym (append-nil held) }

pub file_grows : (file : List ℕ) → IsGrowing (file_course file)
file_grows file = record {
  none = refl;
  more = λ frames later. (spellings (answers file (after file at_start frames) later), written-append file at_start (after file at_start frames) frames later refl);
  last = λ frames. ([], sym (append-nil (spellings (answers file at_start frames))));
}

-- where a session begins
pub first_stand : (file : List ℕ) (live : Bool) (position : Position) → live ≡ true → position ≡ fresh → IsBehind file (record { live = live; position = position }) []
first_stand file live position l p = ap (λ b. record { live = b; position = position }) l ∙ ap (λ n. record { live = true; position = n }) p

-- the same by an equal course, for a session that says more where it stands
pub retold : (course other : Course) → course ≡ other → (Stands Stands' : List Frame → Type 0) (before : List Frame) (frame : Frame) (held held' : List ℕ)
    → ((frames : List Frame) → Stands frames → Stands' frames) → HeardOne other Stands before frame held held' → HeardOne course Stands' before frame held held'
retold course other e Stands Stands' before frame held held' says one = record {
  stands = says (before ++ frame ∷ []) one.stands;
  part = one.part;
  more = subst (λ (k : Course). k.so_far (before ++ frame ∷ []) ≡ k.so_far before ++ one.part) (sym e) one.more;
  appends = one.appends;
}

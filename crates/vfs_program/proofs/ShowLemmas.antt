-- The lines of frames, one by one.
use Rattle.std.proofs.Common.{◌≡◌, ℕ, List, [], ◌∷◌, ◌++◌, IsTrue, length, refl, sym, ap, ◌∙◌, subst, arith, append-nil, inl}
use Rattle.std.proofs.lemmas.List.Concat.{flat_map-append}
use Rattle.std.proofs.lemmas.List.Elements.{All-nil}
use Rattle.std.proofs.KnownBytes.{Appends-nil, Consumes-nil}
use Rattle.link_frames.specs.Frames.{Frame, IsFrame}
use Rattle.link_frames.specs.declared.kinds.Side.{Side}
use Rattle.vfs_script.specs.Transcripts.{frame_line}
use Rattle.run_status.specs.Outside.{Streams}
use Rattle.link_session.specs.Serving.{HeardOne, HeardEnd, IsGrowing}
use Rattle.link_session.specs.Session.{Course, IsCutOff}
use Rattle.vfs_program.specs.Shown.{lines_course, lines_of}

pub lines_grow : IsGrowing lines_course
unfolding lines_course
lines_grow = record {
  none = refl;
  more = λ frames later. (lines_of later, flat_map-append frame_line frames later);
  last = λ frames. ([], sym (append-nil (lines_of frames)));
}

pub lines_starve : IsTrue lines_course.starves
unfolding lines_course
lines_starve = refl

line_more : (before : List Frame) (frame : Frame) → lines_course.so_far (before ++ frame ∷ []) ≡ lines_course.so_far before ++ frame_line frame
unfolding lines_course
line_more before frame = flat_map-append frame_line before (frame ∷ []) ∙ ap (λ l. lines_of before ++ l) (append-nil (frame_line frame))

pub shown_one : (course : Course) (before : List Frame) (frame : Frame) (held held' : List ℕ) → course ≡ lines_course → held' ≡ held ++ frame_line frame →
    HeardOne course (λ (frames : List Frame). course ≡ lines_course) before frame held held'
shown_one course before frame held held' e h = record {
  stands = e;
  part = frame_line frame;
  more = subst (λ (k : Course). k.so_far (before ++ frame ∷ []) ≡ k.so_far before ++ frame_line frame) (sym e) (line_more before frame);
  appends = h;
}

end_more : (frames : List Frame) → lines_course.by_end frames ≡ lines_course.so_far frames ++ []
unfolding lines_course
end_more frames = sym (append-nil (lines_of frames))

pub shown_end : (course : Course) (frames : List Frame) (held : List ℕ) → course ≡ lines_course → HeardEnd course frames held held
shown_end course frames held e = record {
  part = [];
  more = subst (λ (k : Course). k.by_end frames ≡ k.so_far frames ++ []) (sym e) (end_more frames);
  appends = sym (append-nil held);
}

pub course_starves : (course : Course) → course ≡ lines_course → IsTrue course.starves
course_starves course e = subst (λ (k : Course). IsTrue k.starves) (sym e) lines_starve

-- nothing has no front
no_front : (front rest : List ℕ) → [] ≡ front ++ rest → front ≡ []
no_front [] rest e = refl
no_front (x ∷ front) rest e = absurd (omega (arith, ap length e))

-- before the first read nothing is written
pub cut_at_once : (side : Side) (course : Course) (told : Streams) → IsCutOff side course told told
cut_at_once side course told = record {
  taken = [];
  part = [];
  took = Consumes-nil told.left;
  within = omega arith;
  lawful = inl (record {
    front = [];
    frames = [];
    begins = ([], refl);
    read = record { split = refl; each = All-nil (IsFrame side); partial = inl (omega arith) };
    lawful = (course.so_far [], refl);
  });
  keeps_up = λ early last frames rest cut far some read. absurd (some (no_front early last cut));
  wrote = Appends-nil told.written;
  source = refl;
}

-- The lines of what happened, and what of them is written.
use Rattle.std.proofs.Common.{◌≡◌, ℕ, ◌+◌, ◌-◌, List, [], ◌∷◌, ◌++◌, Option, refl, sym, ap, ◌∙◌, subst, append_assoc, append-nil, arith}
use Rattle.std.specs.Io.KnownBytes.{Appends}
use Rattle.std.proofs.KnownBytes.{Appends-trans}
use Rattle.host_io.specs.Streams.{AppendsPart}
use Rattle.link_frames.specs.Frames.{Frame}
use Rattle.vfs_script.specs.Transcripts.{frame_line}
use Rattle.script_session.specs.Answering.{Past, gets}
use Rattle.script_session.specs.Telling.{IsTold}
use Rattle.script_session.specs.Transcript.{lines_of, with_frames}

-- frames after frames
pub with_frames-append : (past : Past) (a b : List Frame) → with_frames past (a ++ b) ≡ with_frames (with_frames past a) b
with_frames-append past [] b = refl
with_frames-append past (f ∷ a) b = with_frames-append (gets f ∷ past) a b

-- the lines of more frames stand behind those before
pub lines_grow : (past : Past) (frames : List Frame) → (more : List ℕ) × (lines_of (with_frames past frames) ≡ lines_of past ++ more)
lines_grow past [] = ([], sym (append-nil (lines_of past)))
lines_grow past (f ∷ frames) =
    let later = lines_grow (gets f ∷ past) frames in
    (frame_line f ++ later.0, later.1 ∙ append_assoc (lines_of past) (frame_line f) later.0)

-- ---- what is written

module _ (first now : Option (List ℕ)) where
  -- a line more is gathered
  pub told_more : (gathered gathered' text line : List ℕ) → gathered' ≡ gathered ++ line → IsTold first now gathered text → IsTold first now gathered' (text ++ line)
  told_more gathered gathered' text line is told =
      (told.0, told.1, ap (λ l. told.0 ++ l) is ∙ sym (append_assoc told.0 gathered line) ∙ ap (λ l. l ++ line) told.2)

  -- what is gathered is written
  pub told_written : (now' : Option (List ℕ)) (gathered text : List ℕ) → Appends now now' gathered → IsTold first now gathered text → IsTold first now' [] text
  told_written now' gathered text a told = (told.0 ++ gathered, Appends-trans first now now' told.0 gathered told.1 a, append-nil (told.0 ++ gathered) ∙ told.2)

  pub all_written : (now' : Option (List ℕ)) (gathered text : List ℕ) → Appends now now' gathered → IsTold first now gathered text → Appends first now' text
  all_written now' gathered text a told = subst (Appends first now') told.2 (Appends-trans first now now' told.0 gathered told.1 a)

  -- or a part of it
  pub part_written : (now' : Option (List ℕ)) (gathered text : List ℕ) → AppendsPart now now' gathered → IsTold first now gathered text → AppendsPart first now' text
  part_written now' gathered text a told = (
    told.0 ++ a.0,
    a.1,
    sym told.2 ∙ ap (λ l. told.0 ++ l) a.2 ∙ sym (append_assoc told.0 a.0 a.1),
    Appends-trans first now now' told.0 a.0 told.1 a.3,
  )

  -- or nothing more
  pub front_told : (gathered text : List ℕ) → IsTold first now gathered text → AppendsPart first now text
  front_told gathered text told = (told.0, gathered, sym told.2, told.1)

-- a part of a text is one of a longer text
pub part_longer : (first now : Option (List ℕ)) (text more : List ℕ) → AppendsPart first now text → AppendsPart first now (text ++ more)
part_longer first now text more a = (a.0, a.1 ++ more, ap (λ l. l ++ more) a.2 ∙ append_assoc a.0 a.1 more, a.3)

-- ---- the end

pub same_counts : (calls waits answers made : ℕ) → waits + answers ≡ made → made ≡ calls → calls - waits ≡ answers
same_counts calls waits answers made counted same = omega (arith, counted, same)

-- all that was gathered and one line more couldn't be written whole
pub finished_part : (first now now' : Option (List ℕ)) (gathered lines line : List ℕ) →
    AppendsPart now now' (gathered ++ line) → IsTold first now gathered lines → AppendsPart first now' (lines ++ line)
finished_part first now now' gathered lines line part told =
    part_written first now now' (gathered ++ line) (lines ++ line) part (told_more first now gathered (gathered ++ line) lines line refl told)

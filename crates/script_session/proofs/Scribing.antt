-- Frames that come back, as far as they are read.
use Rattle.std.proofs.Common.{◌≡◌, ◌≤◌, ◌<◌, ◌+◌, ◌-◌, ℕ, List, [], ◌∷◌, ◌++◌, Option, Result, Ok, Err, OnErr, length, drop, take, refl, sym, ap, ◌∙◌, subst, append_assoc, append-nil, arith, length-append, length-drop}
use Rattle.std.specs.Prelude.{All}
use Rattle.std.proofs.Math.Seq.{drop-append_seam}
use Rattle.std.proofs.lemmas.List.{take_all}
use Rattle.std.proofs.lemmas.List.Elements.{All-drop}
use Rattle.link_frames.specs.Frames.{Frame, IsFrame, spelling, spellings}
use Rattle.link_frames.specs.Views.{IsWholeFront, Reads}
use Rattle.link_frames.specs.declared.frame.Reading.{Reading}
use Rattle.link_frames.specs.declared.frame.Reading.TheVariants as reading
use Rattle.link_frames.specs.declared.kinds.Side.TheVariants as side
use Rattle.link_frames.proofs.Streams.{spelling-long}
use Rattle.host_io.specs.Streams.{AppendsPart}
use Rattle.io_client.specs.Calls.{Calls}
use Rattle.vfs_script.specs.Transcripts.{frame_line}
use Rattle.script_session.specs.Answering.{Past, gets}
use Rattle.script_session.specs.Telling.{IsTold, IsWithin, Knows}
use Rattle.script_session.specs.Transcript.{lines_of, with_frames}
use Rattle.script_session.proofs.Fronts.{IsFirst, all_read, first_is}
use Rattle.script_session.proofs.Lines.{front_told, lines_grow, part_longer, told_more, with_frames-append}

-- some frames are read, of which this holds, and the bytes that are left spell the others
pub record Split (all : List Frame) (rest : List ℕ) (Holds : List Frame → Type 0) : Type 0 where
  pub done : List Frame
  pub left : List Frame
  pub parts : all ≡ done ++ left
  pub spelled : rest ≡ spellings left
  pub holds : Holds done

-- what is known of calls behind some frames, and what was written by then
pub record Stage (calls : Calls) (gathered : List ℕ) (written : Option (List ℕ)) (calls' : Calls) (gathered' : List ℕ) (written' : Option (List ℕ)) (done : List Frame) : Type 0 where
  pub knows : (past : Past) → Knows past calls → Knows (with_frames past done) calls'
  pub told : (past : Past) (first : Option (List ℕ)) → IsTold first written gathered (lines_of past) → IsTold first written' gathered' (lines_of (with_frames past done))

-- before the first
pub nothing_read : (all : List Frame) (bytes : List ℕ) (calls : Calls) (gathered : List ℕ) (written : Option (List ℕ)) → bytes ≡ spellings all →
    Split all bytes (Stage calls gathered written calls gathered written)
nothing_read all bytes calls gathered written is = record {
  done = [];
  left = all;
  parts = refl;
  spelled = is;
  holds = record { knows = λ past k. k; told = λ past first t. t };
}

left_are : (all done left : List Frame) → all ≡ done ++ left → All (IsFrame side.Any) all → All (IsFrame side.Any) left
left_are all done left parts are =
    subst (All (IsFrame side.Any)) (ap (drop (length done)) parts ∙ drop-append_seam done left) (All-drop (IsFrame side.Any) (length done) all are)

-- one frame more
pub read_more : (all : List Frame) (rest : List ℕ) (f : Frame) (n : ℕ) (P Q : List Frame → Type 0) → All (IsFrame side.Any) all → IsWholeFront side.Any rest f n →
    ((done : List Frame) → P done → Q (done ++ f ∷ [])) → Split all rest P → Split all (drop n rest) Q
read_more all rest f n P Q are front more split =
    let first = first_is side.Any split.left rest f n (left_are all split.done split.left split.parts are) split.spelled front in
    record {
      done = split.done ++ f ∷ [];
      left = first.others;
      parts = split.parts ∙ ap (λ l. split.done ++ l) first.first ∙ sym (append_assoc split.done (f ∷ []) first.others);
      spelled = first.behind;
      holds = more split.done split.holds;
    }

-- all were read where no frame stands in front
pub all_done : (all : List Frame) (rest : List ℕ) (read : Reading) (P : List Frame → Type 0) → All (IsFrame side.Any) all → Reads side.Any rest read →
    ((view : _) (n : ℕ) → read ≡ reading.Whole view n → ⊥) → Split all rest P → P all
all_done all rest read P are reads other split =
    let none = all_read side.Any split.left rest read (left_are all split.done split.left split.parts are) split.spelled reads other in
    subst P (sym (split.parts ∙ ap (λ l. split.done ++ l) none ∙ append-nil split.done)) split.holds

-- what is left of a slice from a place on
pub rest_is : (n : ℕ) (rest : List ℕ) → take (length rest - n) (drop n rest) ≡ drop n rest
rest_is n rest = take_all (length rest - n) (drop n rest) (omega (arith, length-drop n rest))

-- less is left behind a frame
size_within : (f : Frame) (rest behind : List ℕ) (n : ℕ) → rest ≡ spelling f ++ behind → length (spelling f) ≡ n → n ≤ length rest
size_within f rest behind n is size =
    let all = ap length is in
    omega (arith, all, size, length-append (spelling f) behind)

pub less_left : (rest : List ℕ) (f : Frame) (n : ℕ) → IsWholeFront side.Any rest f n → length (drop n rest) < length rest
less_left rest f n front =
    let long = spelling-long f in
    let size = front.size in
    let fits = size_within f rest (drop n rest) n front.split front.size in
    omega (arith, long, size, fits, length-drop n rest)

-- what one frame adds
module _ (calls : Calls) (gathered : List ℕ) (written : Option (List ℕ)) (now : Calls) (text : List ℕ) (sunk : Option (List ℕ)) (f : Frame) where
  pub stage_more : (now' : Calls) (text' text'' : List ℕ) (sunk' : Option (List ℕ)) →
      ((past : Past) → Knows past now → Knows (gets f ∷ past) now') → text' ≡ text ++ frame_line f →
      ((first : Option (List ℕ)) (lines : List ℕ) → IsTold first sunk text' lines → IsTold first sunk' text'' lines) →
      (done : List Frame) → Stage calls gathered written now text sunk done → Stage calls gathered written now' text'' sunk' (done ++ f ∷ [])
  stage_more now' text' text'' sunk' one line room done stage = record {
    knows = λ past k. subst (λ p. Knows p now') (sym (with_frames-append past done (f ∷ []))) (one (with_frames past done) (stage.knows past k));
    told = λ past first t.
        subst (λ p. IsTold first sunk' text'' (lines_of p)) (sym (with_frames-append past done (f ∷ [])))
        (room first (lines_of (with_frames past done) ++ frame_line f) (told_more first sunk text text' (lines_of (with_frames past done)) (frame_line f) line (stage.told past first t)));
  }

-- ---- where it fails

-- nothing more was written: a front of all lines
pub stopped_at : (calls : Calls) (gathered : List ℕ) (written : Option (List ℕ)) (now : Calls) (text : List ℕ) (sunk : Option (List ℕ)) (all : List Frame) (rest : List ℕ) →
    Split all rest (Stage calls gathered written now text sunk) → (past : Past) (first : Option (List ℕ)) → IsTold first written gathered (lines_of past) →
    AppendsPart first sunk (lines_of (with_frames past all))
stopped_at calls gathered written now text sunk all rest split past first told =
    let later = lines_grow (with_frames past split.done) split.left in
    let same = ap (λ l. lines_of (with_frames past l)) split.parts ∙ ap lines_of (with_frames-append past split.done split.left) ∙ later.1 in
    subst (AppendsPart first sunk) (sym same)
    (part_longer first sunk (lines_of (with_frames past split.done)) later.0
    (front_told first sunk text (lines_of (with_frames past split.done)) (split.holds.told past first told)))

-- a part of what was gathered was written, with the line of one frame more
pub stopped_behind : (calls : Calls) (gathered : List ℕ) (written : Option (List ℕ)) (now : Calls) (text text' : List ℕ) (sunk sunk' : Option (List ℕ)) (all : List Frame) (rest : List ℕ) (f : Frame) (n : ℕ) →
    All (IsFrame side.Any) all → IsWholeFront side.Any rest f n → text' ≡ text ++ frame_line f →
    ((first : Option (List ℕ)) (lines : List ℕ) → IsTold first sunk text' lines → AppendsPart first sunk' lines) →
    Split all rest (Stage calls gathered written now text sunk) → (past : Past) (first : Option (List ℕ)) → IsTold first written gathered (lines_of past) →
    AppendsPart first sunk' (lines_of (with_frames past all))
stopped_behind calls gathered written now text text' sunk sunk' all rest f n are front line room split past first told =
    let head = first_is side.Any split.left rest f n (left_are all split.done split.left split.parts are) split.spelled front in
    let later = lines_grow (gets f ∷ with_frames past split.done) head.others in
    let parts = ap (λ l. lines_of (with_frames past l)) (split.parts ∙ ap (λ l. split.done ++ l) head.first) in
    let same = parts ∙ ap lines_of (with_frames-append past split.done (f ∷ head.others)) ∙ later.1 in
    let lines = lines_of (with_frames past split.done) in
    subst (AppendsPart first sunk') (sym same)
    (part_longer first sunk' (lines ++ frame_line f) later.0
    (room first (lines ++ frame_line f) (told_more first sunk text text' lines (frame_line f) line (split.holds.told past first told))))

-- ---- answers

pub any_err : {X E : Type 0} (r : Result X E) (P : Type 0) → P → OnErr r P
any_err (Ok x) P p = tt
any_err (Err e) P p = p

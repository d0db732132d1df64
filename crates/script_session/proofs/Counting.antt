-- Frames that are read one after the other from where they stand, and counted.
use Rattle.std.proofs.Common.{◌≡◌, ◌≤◌, ◌<◌, ◌+◌, ℕ, List, [], ◌∷◌, ◌++◌, length, drop, refl, sym, ap, ◌∙◌, subst, append_assoc, append-nil, arith, length-append, length-drop}
use Rattle.std.specs.Prelude.{All}
use Rattle.std.proofs.Math.Seq.{drop-append_seam}
use Rattle.std.proofs.lemmas.List.Elements.{All-drop}
use Rattle.link_frames.specs.Frames.{Frame, IsFrame, spelling, spellings}
use Rattle.link_frames.specs.Views.{IsWholeFront, Reads}
use Rattle.link_frames.specs.declared.frame.Reading.{Reading}
use Rattle.link_frames.specs.declared.frame.Reading.TheVariants as reading
use Rattle.link_frames.specs.declared.kinds.Side.{Side}
use Rattle.link_frames.proofs.Streams.{spelling-long}
use Rattle.script_session.proofs.Fronts.{all_read, first_is}

-- so many of all frames are read, of which this holds, and the bytes that are left spell the others
pub record Read (s : Side) (all : List Frame) (count : ℕ) (rest : List ℕ) (Holds : List Frame → Type 0) : Type 0 where
  pub done : List Frame
  pub left : List Frame
  pub parts : all ≡ done ++ left
  pub so_many : length done ≡ count
  pub spelled : rest ≡ spellings left
  pub each : All (IsFrame s) all
  pub holds : Holds done

-- before the first
pub none_read : (s : Side) (all : List Frame) (bytes : List ℕ) (Holds : List Frame → Type 0) → bytes ≡ spellings all → All (IsFrame s) all → Holds [] → Read s all 0 bytes Holds
none_read s all bytes Holds is each holds =
    record { done = []; left = all; parts = refl; so_many = refl; spelled = is; each = each; holds = holds }

left_are : (s : Side) (all done left : List Frame) → all ≡ done ++ left → All (IsFrame s) all → All (IsFrame s) left
left_are s all done left parts are =
    subst (All (IsFrame s)) (ap (drop (length done)) parts ∙ drop-append_seam done left) (All-drop (IsFrame s) (length done) all are)

module _ (s : Side) (all : List Frame) (count : ℕ) (rest : List ℕ) (P : List Frame → Type 0) (so_far : Read s all count rest P) where
  pub each_left : All (IsFrame s) so_far.left
  each_left = left_are s all so_far.done so_far.left so_far.parts so_far.each

  counts : length all ≡ count + length so_far.left
  counts =
      let parts = ap length so_far.parts in
      let many = so_far.so_many in
      omega (arith, parts, many, length-append so_far.done so_far.left)

  -- one frame more
  pub read_more : (f : Frame) (n : ℕ) (Q : List Frame → Type 0) → IsWholeFront s rest f n → ((done : List Frame) → P done → Q (done ++ f ∷ [])) → Read s all (count + 1) (drop n rest) Q
  read_more f n Q front more =
      let first = first_is s so_far.left rest f n each_left so_far.spelled front in
      let many = so_far.so_many in
      record {
        done = so_far.done ++ f ∷ [];
        left = first.others;
        parts = so_far.parts ∙ ap (λ l. so_far.done ++ l) first.first ∙ sym (append_assoc so_far.done (f ∷ []) first.others);
        so_many = omega (arith, many, length-append so_far.done (f ∷ []));
        spelled = first.behind;
        each = so_far.each;
        holds = more so_far.done so_far.holds;
      }

  -- none is left where no frame stands in front
  pub none_left : (read : Reading) → Reads s rest read → ((view : _) (n : ℕ) → read ≡ reading.Whole view n → ⊥) → so_far.left ≡ []
  none_left read reads other = all_read s so_far.left rest read each_left so_far.spelled reads other

  pub all_counted : (read : Reading) → Reads s rest read → ((view : _) (n : ℕ) → read ≡ reading.Whole view n → ⊥) → count ≡ length all
  all_counted read reads other =
      let none = ap length (none_left read reads other) in
      omega (arith, none, counts)

  -- so one stands there where fewer were read than there are
  pub one_in_front : count < length all → (read : Reading) → Reads s rest read → ((view : _) (n : ℕ) → read ≡ reading.Whole view n → ⊥) → ⊥
  one_in_front more read reads other =
      let none = all_counted read reads other in
      omega (arith, none, more)

  no_length : (xs : List Frame) → length xs ≡ 0 → xs ≡ []
  no_length [] e = refl
  no_length (x ∷ xs) e = absurd (omega (arith, e))

  -- all are read where as many are as there are
  pub all_hold : length all ≤ count → P all
  all_hold past =
      let none : so_far.left ≡ [] = no_length so_far.left (omega (arith, past, counts)) in
      subst P (sym (so_far.parts ∙ ap (λ l. so_far.done ++ l) none ∙ append-nil so_far.done)) so_far.holds

-- less is left behind a frame
size_within : (f : Frame) (rest behind : List ℕ) (n : ℕ) → rest ≡ spelling f ++ behind → length (spelling f) ≡ n → n ≤ length rest
size_within f rest behind n is size =
    let all = ap length is in
    omega (arith, all, size, length-append (spelling f) behind)

pub less_left : (s : Side) (rest : List ℕ) (f : Frame) (n : ℕ) → IsWholeFront s rest f n → length (drop n rest) < length rest
less_left s rest f n front =
    let long = spelling-long f in
    let size = front.size in
    let fits = size_within f rest (drop n rest) n front.split front.size in
    omega (arith, long, size, fits, length-drop n rest)

-- Frames that are read from where they stand, one after the other.
use Rattle.std.proofs.Common.{◌≡◌, ℕ, ◌<◌, ◌≤◌, List, [], ◌∷◌, ◌++◌, length, drop, refl, sym, ap, ◌∙◌, subst, arith, length-append, append-nil}
use Rattle.std.specs.Prelude.{All}
use Rattle.std.proofs.lemmas.List.Elements.{All-head, All-tail}
use Rattle.link_frames.specs.declared.frame.Reading.{Reading}
use Rattle.link_frames.specs.declared.frame.Reading.TheVariants as reading
use Rattle.link_frames.specs.declared.kinds.Side.{Side}
use Rattle.link_frames.specs.Frames.{Frame, IsFrame, spelling, spellings}
use Rattle.link_frames.specs.Views.{IsWholeFront, Reads}
use Rattle.link_frames.proofs.Spelled.{spelling-injective}
use Rattle.link_frames.proofs.Streams.{NoFront, bad_no_front, partial_no_front, spelling-long}

-- the frame in front is the first of those that are left
pub record IsFirst (s : Side) (left : List Frame) (b : List ℕ) (f : Frame) (n : ℕ) : Type 0 where
  pub others : List Frame
  pub first : left ≡ f ∷ others
  pub behind : drop n b ≡ spellings others

pub first_is : (s : Side) (left : List Frame) (b : List ℕ) (f : Frame) (n : ℕ) → All (IsFrame s) left → b ≡ spellings left → IsWholeFront s b f n → IsFirst s left b f n
first_is s [] b f n all is front =
    let none : [] ≡ spelling f ++ drop n b = sym is ∙ front.split in
    absurd (omega (arith, ap length none, length-append (spelling f) (drop n b), spelling-long f))
first_is s (g ∷ others) b f n all is front =
    let same = spelling-injective s g f (spellings others) (drop n b) (All-head (IsFrame s) g others all) front.sound (sym is ∙ front.split) in
    record {
      others = others;
      first = ap (λ (h : Frame). h ∷ others) same.0;
      behind = sym same.1;
    }

-- where no frame stands in front, none is left
none_left : (s : Side) (left : List Frame) (b : List ℕ) → All (IsFrame s) left → b ≡ spellings left → NoFront s b → left ≡ []
none_left s [] b all is none = refl
none_left s (g ∷ others) b all is none = absurd (none g (spellings others) (All-head (IsFrame s) g others all) is)

pub all_read : (s : Side) (left : List Frame) (b : List ℕ) (read : Reading) → All (IsFrame s) left → b ≡ spellings left → Reads s b read → ((view : _) (n : ℕ) → read ≡ reading.Whole view n → ⊥) → left ≡ []
all_read s left b (reading.Whole view n) all is reads other = absurd (other view n refl)
all_read s left b reading.NotWhole all is reads other = none_left s left b all is (partial_no_front s b reads)
all_read s left b (reading.Bad why) all is reads other = none_left s left b all is (bad_no_front s b why reads)

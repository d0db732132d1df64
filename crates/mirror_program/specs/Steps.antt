-- Words of steps: what one piece of the input led to. No public clause needs this.
use Rattle.std.specs.Prelude.{◌≡◌, ℕ, All, List, [], drop, None, true}
use Rattle.link_frames.specs.Frames.{Frame, IsBadFront, IsPartial}
use Rattle.link_frames.specs.Views.{IsWholeFront}
use Rattle.link_frames.specs.declared.kinds.Side.TheVariants.{Any}
use Rattle.link_session.specs.Serving.{Heard}
use Rattle.link_session.specs.Session.{Course}
use Rattle.dir_mirror.specs.Copies.{Copy, HasBadEvents, HasGoodEvents, Mirrors}
use Rattle.mirror_program.specs.declared.reading.Taken.{Taken}
use Rattle.mirror_program.specs.declared.reading.Taken.TheVariants as taken

-- nothing is written while frames are read
abbrev pub silent : Course
silent = record { so_far = λ frames. []; by_end = λ frames. []; starves = true }

-- the copy is that of these frames, each of which it could take
pub record IsCopyOf (endpoint : ℕ) (copy : Copy) (frames : List Frame) : Type 0 where
  pub of_it : copy.endpoint ≡ endpoint
  pub mirrors : Mirrors copy frames
  pub good : All (HasGoodEvents endpoint) frames

-- the first n bytes are whole frames, and the copy is that of these as well
abbrev pub TakesTo : ℕ → Copy → List Frame → List ℕ → ℕ → Type 0
TakesTo endpoint copy before bytes n = Heard Any silent (IsCopyOf endpoint copy) before bytes None None [] n

abbrev pub IsTaking : ℕ → Copy → List Frame → List ℕ → Taken → Type 0
IsTaking endpoint copy before bytes (taken.Rest n) = TakesTo endpoint copy before bytes n × IsPartial Any (drop n bytes)
IsTaking endpoint copy before bytes (taken.Bad n why) = TakesTo endpoint copy before bytes n × IsBadFront Any (drop n bytes) why
IsTaking endpoint copy before bytes (taken.BadEvents n) =
    TakesTo endpoint copy before bytes n × ((frame : Frame) × (size : ℕ) × IsWholeFront Any (drop n bytes) frame size × HasBadEvents endpoint frame)
IsTaking endpoint copy before bytes taken.NoMemory = Unit {0}

-- What the lent parts of a frame stand for, and what is read in front of some bytes.
use Rattle.std.specs.Prelude.{◌≡◌, ℕ, ◌/◌, List, ◌++◌, length, drop}
use Rattle.link_frames.specs.declared.kinds.Side.{Side}
use Rattle.link_frames.specs.declared.frame.HandleBytes.{HandleBytes}
use Rattle.link_frames.specs.declared.frame.FrameView.{FrameView}
use Rattle.link_frames.specs.declared.frame.Reading.{Reading}
use Rattle.link_frames.specs.declared.frame.Reading.TheVariants as reading
use Rattle.link_frames.specs.Numbers.{words_in}
use Rattle.link_frames.specs.Frames.{Frame, IsFrame, spelling, IsPartial, IsBadFront}

-- the numbers that a frame's handles are
abbrev pub handle_numbers : HandleBytes → List ℕ
handle_numbers h = words_in (length h.bytes.now / 4) h.bytes.now

-- the frame that a view shows
abbrev pub frame_of : FrameView → Frame
frame_of v = record { endpoint = v.endpoint; kind = v.kind; handles = handle_numbers v.handles; bytes = v.bytes.now }

-- this frame may go that way, its spelling stands in front of these bytes, and it takes so many of them
pub record IsWholeFront (s : Side) (b : List ℕ) (f : Frame) (n : ℕ) : Type 0 where
  pub sound : IsFrame s f
  pub split : b ≡ spelling f ++ drop n b
  pub size : length (spelling f) ≡ n

-- what stands in front of these bytes: a whole frame, the beginning of one, or a bad fixed part
abbrev pub Reads : Side → List ℕ → Reading → Type 0
Reads s b (reading.Whole view size) = IsWholeFront s b (frame_of view) size
Reads s b reading.NotWhole = IsPartial s b
Reads s b (reading.Bad why) = IsBadFront s b why

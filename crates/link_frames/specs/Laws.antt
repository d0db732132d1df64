-- What a stream of bytes is, said of every stream.
use Rattle.std.specs.Prelude.{ℕ, List}
use Rattle.link_frames.specs.declared.kinds.FrameReason.{FrameReason}
use Rattle.link_frames.specs.declared.kinds.Side.{Side}
use Rattle.link_frames.specs.Frames.{Frame, Frames, Bad}

-- it reads as some frames and a beginning
abbrev pub HasFrames : Side → List ℕ → Type 0
HasFrames s b = (frames : List Frame) × (rest : List ℕ) × Frames s b frames rest

-- it is bad at some place
abbrev pub IsBad : Side → List ℕ → Type 0
IsBad s b = (at : ℕ) × (why : FrameReason) × Bad s b at why

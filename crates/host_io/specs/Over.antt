-- Objects over a stream of the system.
use Rattle.std.specs.Prelude.{ℕ}

-- a sink: the stream, and how many of its calls failed
pub record SinkOver (S : Type 0) : Type 0 where
  pub stream : S
  pub faults : ℕ

-- a source: also how many bytes its last read gave
pub record SourceOver (S : Type 0) : Type 0 where
  pub stream : S
  pub last : ℕ
  pub faults : ℕ

-- A source over bytes in memory.
use Rattle.std.specs.Prelude.{ℕ, List}
use Rattle.host_io.specs.Calls.{Calls}

-- the bytes that are left, how many the last read gave, the most that one read gives, and the reads
pub record SourceState : Type 0 where
  pub left : List ℕ
  pub last : ℕ
  pub piece : ℕ
  pub calls : Calls

-- A sink into memory.
use Rattle.std.specs.Prelude.{ℕ, ◌≤◌, List, length}
use Rattle.host_io.specs.Calls.{Calls}

-- the bytes written, how many of them are flushed, how many there is room for, the most that one write takes, and the writes and flushes
pub record SinkState : Type 0 where
  pub written : List ℕ
  pub flushed : ℕ
  pub room : ℕ
  pub piece : ℕ
  pub calls : Calls

-- there is no room left
abbrev pub IsFull : SinkState → Type 0
IsFull sink = sink.room ≤ length sink.written

-- Frames that are gathered in room that was reserved for them.
use Rattle.std.specs.Prelude.{ℕ, List}

-- what was gathered, and how many bytes there is room for in all
pub record Gathered : Type 0 where
  pub bytes : List ℕ
  pub size : ℕ

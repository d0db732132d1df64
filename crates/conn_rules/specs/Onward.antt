-- The Open that goes on behind a mount.
use Rattle.std.specs.Prelude.{ℕ, List, None}
use Rattle.io_messages.specs.Asked as asks
use Rattle.io_messages.specs.Writing.{request_bytes}
use Rattle.path_walk.specs.Paths.{text_of}

-- its bytes: the rest of the path, the flags that are left, no options, and the same object
abbrev pub onward_bytes : ℕ → List (List ℕ) → ℕ → List ℕ
onward_bytes flags rest object = request_bytes 0 (asks.open_path (text_of rest) flags None object)

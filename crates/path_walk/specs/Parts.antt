-- The parts of a path: its parent and its last name.
use Rattle.std.specs.Prelude.{ℕ, ◌-◌, Bool, List, [], take, length, reverse, slice_get, unwrap_or}
use Rattle.std.specs.Str.{bytes_eq}
use Rattle.path_walk.specs.Names.{dot}
use Rattle.path_walk.specs.Paths.{names_of, text_of}

-- the path of the root
abbrev pub is_dot : List ℕ → Bool
is_dot text = bytes_eq text dot

-- a path without its last name: `.` where it has one name alone
unfoldable pub parent_of : List ℕ → List ℕ
parent_of path = text_of (take (length (names_of path) - 1) (names_of path))

-- the last of a path's names; nothing for `.`
abbrev pub last_name : List ℕ → List ℕ
last_name path = unwrap_or (slice_get (reverse (names_of path)) 0) []

-- What the texts of a tree stand for.
use Rattle.std.specs.Prelude.{ℕ, Bool, ◌&&◌, ◌||◌, nat_le, if◌then◌else◌, List, codes, Option, Some, None, is_none}
use Rattle.std.specs.List.{list_all}
use Rattle.std.specs.Result.{result_ok}
use Rattle.std.specs.Str.{bytes_eq}
use Rattle.hex.specs.Hex.{decode_of}
use Rattle.path_walk.specs.Names.{name_fault}
use Rattle.path_walk.specs.Paths.{path_fault}
use Rattle.node_graph.specs.declared.nodes.NodeKind.{NodeKind}
use Rattle.node_graph.specs.declared.nodes.NodeKind.TheVariants.{Directory, File, Service}

-- the value where it passes a test
abbrev pub only : {X : Type 0} → (X → Bool) → Option X → Option X
only test None = None
only test (Some value) = if test value then Some value else None

abbrev pub is_name : List ℕ → Bool
is_name text = is_none (name_fault text)

abbrev pub is_path : List ℕ → Bool
is_path text = is_none (path_fault text)

-- `dir`, `file` and `service`
unfoldable pub kind_of : List ℕ → Option NodeKind
kind_of text =
    if bytes_eq text (codes "dir") then Some Directory
    else if bytes_eq text (codes "file") then Some File
    else if bytes_eq text (codes "service") then Some Service
    else None

-- 0 to 9 and a to f
abbrev pub is_digit : ℕ → Bool
is_digit byte = (nat_le 48 byte && nat_le byte 57) || (nat_le 97 byte && nat_le byte 102)

-- the bytes that pairs of digits stand for
unfoldable pub hex_of : List ℕ → Option (List ℕ)
hex_of text = if list_all is_digit text then result_ok (decode_of text) else None

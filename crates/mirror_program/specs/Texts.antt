-- What is written of a copy.
use Rattle.std.specs.Prelude.{ℕ, Bool, if◌then◌else◌, List, ◌++◌, codes}
use Rattle.std.specs.List.{flat_map}
use Rattle.hex.specs.Hex.{encode_lower}

-- the bytes of a name in lower-case hexadecimal
abbrev pub line_of : List ℕ → List ℕ
line_of name = encode_lower name ++ codes "\n"

-- a line for each name, and then whether the directory is there yet
abbrev pub text_of : List (List ℕ) → Bool → List ℕ
text_of names ended = flat_map line_of names ++ (if ended then codes "ended\n" else codes "live\n")

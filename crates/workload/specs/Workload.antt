-- The text of the generated workload, by how many rounds it has.
use Rattle.std.specs.Prelude.{ℕ, zero, suc, ◌≤◌, ◌+◌, ◌*◌, ◌/◌, ◌%◌, ◌^◌, ◌==◌, if◌then◌else◌, List, [], ◌∷◌, ◌++◌, codes, decimal}
use Rattle.std.specs.List.{flat_map, join_with_byte}
use Rattle.hex.specs.Hex.{encode_lower}
use Rattle.vfs_script.specs.Words.{newline, space}
use Rattle.workload.specs.declared.generating.TheConstants as size

-- so many rounds can be made
abbrev pub IsRounds : ℕ → Type 0
IsRounds rounds = (1 ≤ rounds) × (rounds ≤ size.MAX_ROUNDS)

-- a line by its words
abbrev pub Words : Type 0
Words = List (List ℕ)

-- the words with a space between each two, and the line's end
abbrev pub line_text : Words → List ℕ
line_text words = join_with_byte space words ++ newline ∷ []

-- the state that follows: the linear congruential generator of Knuth's MMIX
unfoldable pub next_state : ℕ → ℕ
next_state s = (s * 6364136223846793005 + 1442695040888963407) % 2 ^ 64

-- the state of round k: it begins with the number of rounds, and each round has the next one
abbrev pub state_of : (rounds k : ℕ) → ℕ
state_of rounds zero = rounds
state_of rounds (suc k) = next_state (state_of rounds k)

-- what round k draws: the upper 31 bits of its state
abbrev pub drawn : (rounds k : ℕ) → ℕ
drawn rounds k = state_of rounds k / 2 ^ 33

-- ---- one round, by what it draws

-- the directory, and the file in it: one of two, and one of 32
abbrev pub directory : ℕ → List ℕ
directory v = if v / 128 % 2 == 0 then codes "d" else codes "m/d"

abbrev pub file : ℕ → List ℕ
file v = codes "f" ++ decimal (v / 4 % 32)

abbrev pub path : ℕ → List ℕ
path v = directory v ++ codes "/" ++ file v

-- the endpoint that round k opens, and that is fresh
abbrev pub endpoint : ℕ → List ℕ
endpoint k = decimal (k + 1)

-- a path is opened with these flags
abbrev pub opens : (k : ℕ) → (at flags : List ℕ) → Words
opens k at flags = codes "open" ∷ codes "1" ∷ at ∷ flags ∷ endpoint k ∷ []

-- and what was opened is asked for something, with some fields
abbrev pub asks : (k : ℕ) → (verb : List ℕ) → (fields : Words) → Words
asks k verb fields = verb ∷ endpoint k ∷ fields

-- what a round does before it hangs up: one of four
unfoldable pub acts : (k v : ℕ) → List Words
acts k v =
    -- makes a file, and writes the digits of the round's number into it
    if v % 4 == 0 then opens k (path v) (codes "0x10800000006") ∷ asks k (codes "write") (encode_lower (decimal k) ∷ []) ∷ []
    -- reads a file
    else if v % 4 == 1 then opens k (path v) (codes "0x2") ∷ asks k (codes "read") (codes "64" ∷ []) ∷ []
    -- lists a directory
    else if v % 4 == 2 then opens k (directory v) (codes "0x40") ∷ asks k (codes "list") (codes "8192" ∷ []) ∷ []
    -- takes a file out of a directory
    else opens k (directory v) (codes "0x100") ∷ asks k (codes "unlink") (file v ∷ codes "0" ∷ []) ∷ []

-- the lines of round k
abbrev pub round : (k v : ℕ) → List Words
round k v = acts k v ++ asks k (codes "hangup") [] ∷ []

-- ---- the text

-- the mode, and the other directory watched
abbrev pub first_lines : List Words
first_lines =
    (codes "auto" ∷ [])
    ∷ (codes "open" ∷ codes "1" ∷ codes "m/d" ∷ codes "0x40" ∷ codes "1000000" ∷ [])
    ∷ (codes "watch" ∷ codes "1000000" ∷ codes "31" ∷ codes "1000001" ∷ [])
    ∷ []

-- the lines of the rounds up to round k
abbrev pub rounds_up_to : (rounds k : ℕ) → List Words
rounds_up_to rounds zero = []
rounds_up_to rounds (suc k) = rounds_up_to rounds k ++ round (suc k) (drawn rounds (suc k))

-- the first lines, and then all rounds
abbrev pub workload_lines : ℕ → List Words
workload_lines rounds = first_lines ++ rounds_up_to rounds rounds

abbrev pub texts : List Words → List ℕ
texts lines = flat_map line_text lines

unfoldable pub workload : ℕ → List ℕ
workload rounds = texts (workload_lines rounds)

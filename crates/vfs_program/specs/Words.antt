-- The words that the program is called with.
use Rattle.std.specs.Prelude.{◌≡◌, ℕ, List, [], ◌∷◌, codes, decimal}
use Rattle.link_frames.specs.declared.kinds.Mode.{Mode}
use Rattle.link_frames.specs.declared.kinds.Mode.TheVariants as mode
use Rattle.workload.specs.Workload.{IsRounds}
use Rattle.vfs_program.specs.declared.words.Command.{Command}
use Rattle.vfs_program.specs.declared.words.Command.TheVariants.{File, Serve, Run, Check, Show, Make}

-- what the words ask for
pub data Asks : Type 0 where
  -- serve the file of this name on endpoint 1
  FileOf : (name : List ℕ) → Asks
  -- serve the tree of the file of this name, in this mode
  ServeOf : (tree : List ℕ) (by : Mode) → Asks
  -- play the script of this name over the tree of that one
  RunOf : (tree script : List ℕ) → Asks
  -- tell whether the tree file of this name stands
  CheckOf : (tree : List ℕ) → Asks
  -- print each frame of the source as a line
  ShowAll : Asks
  -- play a generated script of so many rounds, and tell how much comes back
  MakeOf : (rounds : ℕ) → Asks

-- the word of a mode
abbrev pub mode_word : Mode → List ℕ
mode_word mode.Auto = codes "auto"
mode_word mode.Given = codes "given"

-- the words have this command's shape
abbrev pub Means : List (List ℕ) → Asks → Type 0
Means words (FileOf name) = words ≡ codes "file" ∷ name ∷ []
Means words (ServeOf tree by) = words ≡ codes "serve" ∷ tree ∷ mode_word by ∷ []
Means words (RunOf tree script) = words ≡ codes "run" ∷ tree ∷ script ∷ []
Means words (CheckOf tree) = words ≡ codes "check" ∷ tree ∷ []
Means words ShowAll = words ≡ codes "show" ∷ []
Means words (MakeOf rounds) = (words ≡ codes "make" ∷ decimal rounds ∷ []) × IsRounds rounds

-- the words have no command's shape
abbrev pub MeanNothing : List (List ℕ) → Type 0
MeanNothing words = (asks : Asks) → Means words asks → ⊥

-- a workload has 1 to 10,000 rounds
abbrev pub HasRounds : Asks → Type 0
HasRounds (MakeOf rounds) = IsRounds rounds
HasRounds _ = Unit {0}

-- the files that a command reads, in this order
abbrev pub files_of : Asks → List (List ℕ)
files_of (FileOf name) = name ∷ []
files_of (ServeOf tree by) = tree ∷ []
files_of (RunOf tree script) = tree ∷ script ∷ []
files_of (CheckOf tree) = tree ∷ []
files_of ShowAll = []
files_of (MakeOf rounds) = []

-- a command without where its words lie in memory
abbrev pub command_seen : Command → Asks
command_seen (File name) = FileOf name.now
command_seen (Serve tree by) = ServeOf tree.now by
command_seen (Run tree script) = RunOf tree.now script.now
command_seen (Check tree) = CheckOf tree.now
command_seen Show = ShowAll
command_seen (Make rounds) = MakeOf rounds

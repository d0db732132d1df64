-- Clean paths: the steps of a text that no `..` behind them takes back.
use Rattle.std.specs.Prelude.{ℕ, suc, ◌==◌, ◌&&◌, nat_le, not, Bool, if◌then◌else◌, List, [], ◌∷◌, length, map, filter}
use Rattle.std.specs.List.{list_all}
use Rattle.std.specs.Str.{bytes_eq}
use Rattle.path_walk.specs.Names.{slash, dot, dots}
use Rattle.text_pieces.specs.Pieces.{pieces}

-- what stands between the slashes of a text
abbrev pub parts : List ℕ → List (List ℕ)
parts text = pieces slash text

-- a part is a step where it isn't empty and isn't `.`
abbrev pub is_step : List ℕ → Bool
is_step part = not (length part == 0) && not (bytes_eq part dot)

abbrev pub steps_of : List (List ℕ) → List (List ℕ)
steps_of parts = filter is_step parts

-- a step goes up where it is `..`
abbrev pub is_up : List ℕ → Bool
is_up step = bytes_eq step dots

-- how many steps of a run go up, and how many don't
abbrev pub ups : List (List ℕ) → ℕ
ups [] = 0
ups (step ∷ run) = if is_up step then suc (ups run) else ups run

abbrev pub downs : List (List ℕ) → ℕ
downs [] = 0
downs (step ∷ run) = if is_up step then downs run else suc (downs run)

-- the runs of steps that begin with the first
abbrev pub runs : List (List ℕ) → List (List (List ℕ))
runs [] = [] ∷ []
runs (step ∷ steps) = [] ∷ map (λ run. step ∷ run) (runs steps)

-- a step stays where no run of steps right behind it has more that go up than others
abbrev pub stays : List (List ℕ) → Bool
stays behind = list_all (λ run. nat_le (ups run) (downs run)) (runs behind)

-- the steps that survive: those that don't go up, and stay
abbrev pub surviving : List (List ℕ) → List (List ℕ)
surviving [] = []
surviving (step ∷ behind) = if not (is_up step) && stays behind then step ∷ surviving behind else surviving behind

-- the clean path of a text
unfoldable pub clean : List ℕ → List (List ℕ)
clean text = surviving (steps_of (parts text))

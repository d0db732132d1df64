-- A form without fields.
use Rattle.std.proofs.Common.{ℕ, List, [], ◌∷◌, Option, Some}
use Rattle.vfs_script.specs.declared.forms.Parsed.{Parsed}
use Rattle.vfs_script.specs.Lines.{Line, said_by}
use Rattle.vfs_script.specs.Parsed.{Forms, ended}

-- what is said where no word is left
pub alone : (line : Line) (words : List (List ℕ)) (p : Option Parsed) → Forms (ended words (Some line)) p → Forms (said_by [] line words) p
alone line [] p h = h
alone line (word ∷ words) p h = h

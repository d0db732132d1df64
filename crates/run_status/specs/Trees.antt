-- What a tree file is for a command.
use Rattle.std.specs.Prelude.{◌≡◌, ℕ, List, ◌++◌, length, codes, decimal, Some, None}
use Rattle.fidl_names.specs.declared.limits.TheConstants as limit
use Rattle.host_io.specs.Told.{Told}
use Rattle.session_start.specs.Accepted.{HasFilesOfBytes}
use Rattle.session_start.specs.Items.{Lists}
use Rattle.tree_file.specs.Rules.{first_failure, start_from}
use Rattle.run_status.specs.Files.{IsWithin}

-- the file is a tree that breaks no rule, and has these lists
pub record Stands (told : Told) (lists : Lists) : Type 0 where
  pub text : List ℕ
  pub within : IsWithin limit.MAX_TEXT told text
  pub unbroken : first_failure text ≡ None
  pub is : start_from text ≡ Some lists

-- and what it says is in its files are bytes
pub record IsTree (told : Told) (lists : Lists) : Type 0 where
  pub stands : Stands told lists
  pub bytes : HasFilesOfBytes lists

-- the first rule that the file breaks, with its first failing item
pub record IsBroken (told : Told) (rule item : ℕ) : Type 0 where
  pub text : List ℕ
  pub within : IsWithin limit.MAX_TEXT told text
  pub first : first_failure text ≡ Some (rule, item)

-- the line that tells how many servers, nodes, mounts and clients a tree has
abbrev pub line_of : Lists → List ℕ
line_of lists =
    codes "ok servers " ++ decimal (length lists.servers) ++ codes " nodes " ++ decimal (length lists.nodes)
    ++ codes " mounts " ++ decimal (length lists.mounts) ++ codes " clients " ++ decimal (length lists.clients) ++ codes "\n"

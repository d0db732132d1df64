-- Handles by their numbers, as a sending has them.
use Rattle.std.specs.Prelude.{◌≡◌, ℕ, List, map}
use Rattle.fidl_names.specs.declared.methods.Handle.{Handle}
use Rattle.fidl_names.specs.HandleNumber.{handle_with, number_of_handle}

-- the numbers of handles
abbrev pub numbers_of : List Handle → List ℕ
numbers_of handles = map number_of_handle handles

-- each handle is the one that its number stands for
abbrev pub AreByNumber : List Handle → Type 0
AreByNumber handles = map handle_with (numbers_of handles) ≡ handles

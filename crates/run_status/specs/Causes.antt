-- Causes in their order, for all commands of any program.
use Rattle.std.specs.Prelude.{◌⊎◌}
use Rattle.fidl_wire.specs.Names.{AreDistinct, IsFirstCollision}
use Rattle.run_status.specs.declared.statuses.Status.{Status}
use Rattle.run_status.specs.declared.statuses.Status.TheVariants as status

-- a cause stops the command, which changed nothing by then; or something is found, and with that the rest of the command answers. The
-- program's statuses are a parameter
abbrev pub After : {X S : Type 0} → (S → Type 0) → Type 0 → (X → Type 0) → (X → S → Type 0) → S → Type 0
After {X = X} stops same Found rest status = (stops status × same) ⊎ ((x : X) × Found x × rest x status)

-- two names have equal ordinals, and these are the first two
abbrev pub Collides : Status → Type 0
Collides (status.Collision first second) = IsFirstCollision first second
Collides _ = ⊥

-- the names come before all else of a command that needs them
abbrev pub AfterNames : Type 0 → (Status → Type 0) → Status → Type 0
AfterNames same rest = After Collides same (λ (none : Unit {0}). AreDistinct) (λ none. rest)

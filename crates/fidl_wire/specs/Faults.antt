-- Why ordinals can't be had.
use Rattle.fidl_wire.specs.declared.ordinals.OrdinalFault.{OrdinalFault}
use Rattle.fidl_wire.specs.declared.ordinals.OrdinalFault.TheVariants.{Collision}
use Rattle.fidl_wire.specs.Names.{IsFirstCollision}

-- the rows are those of the first collision
abbrev pub IsFirst : OrdinalFault → Type 0
IsFirst (Collision i j) = IsFirstCollision i j

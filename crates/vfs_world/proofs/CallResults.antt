-- What a call's result tells.
use Rattle.std.proofs.Common.{◌≡◌, ◌∙◌, ℕ, List, [], append-nil, Result, Ok, Err, ap, sym}
use Rattle.std.specs.Result.{OnErr, OnOk}
use Rattle.fidl_names.specs.declared.memory.NoMemory.{NoMemory}
use Rattle.vfs_journal.specs.Output.{Begins}
use Rattle.vfs_world.specs.declared.world.WorldFault.{WorldFault}
use Rattle.vfs_world.specs.declared.world.WorldFault.TheVariants as faults

pub on_ok : {T E P Q : Type 0} (r : Result T E) → (P → Q) → OnOk r P → OnOk r Q
on_ok (Ok x) f h = f h
on_ok (Err e) f h = h

pub on_both : {T E P Q R : Type 0} (r : Result T E) → (P → Q → R) → OnOk r P → OnOk r Q → OnOk r R
on_both (Ok x) f g h = f g h
on_both (Err e) f g h = h

-- what was written stands behind what was there, or nothing was written
pub begins_by : {T E : Type 0} (r : Result T E) (before after : List ℕ) → OnOk r (Begins before after) → OnErr r (after ≡ before) → Begins before after
begins_by (Ok x) before after written none = written
begins_by (Err e) before after written none = ([], none ∙ sym (append-nil before))

-- what was done has no fault
pub not_err : {T E : Type 0} (x : T) (e : E) → ◌≡◌ {A = Result T E} (Ok x) (Err e) → ⊥
not_err x e is = cc

-- who is told that memory is wanting isn't told that it was
pub not_spent : {T : Type 0} (fault : WorldFault) → fault ≡ faults.NoMemory → ◌≡◌ {A = Result T WorldFault} (Err fault) (Err faults.Spent) → ⊥
not_spent fault is told = cc

-- it is what was done
pub same_ok : {T E : Type 0} (x y : T) → ◌≡◌ {A = Result T E} (Ok x) (Ok y) → x ≡ y
same_ok x y is = cc

-- so many were served, whatever else could have been answered
pub same_count : (one other : ℕ) → ◌≡◌ {A = Result ℕ NoMemory} (Ok one) (Ok other) → ◌≡◌ {A = Result ℕ WorldFault} (Ok one) (Ok other)
same_count one other is = ap Ok (same_ok one other is)

-- How the calls of a world end.
use Rattle.std.proofs.Common.{◌≡◌, ◌∙◌, ℕ, List, true, false, Ok, Err, sym}
use Rattle.std.proofs.lemmas.Bool.{true≢false}
use Rattle.vfs_world.specs.World.{World}
use Rattle.vfs_world.specs.Conduct.{Conducts}
use Rattle.vfs_world.specs.declared.world.WorldFault.{WorldFault}
use Rattle.vfs_world.specs.declared.world.WorldFault.TheVariants as fault
use Rattle.vfs_world.proofs.CallResults.{not_err, not_spent}

module _ {A : Type 0} (old new : World) (before after : List ℕ) where
  -- what was done was done by a world that wasn't spent, and isn't
  pub done : (value : A) → old.spent ≡ false → new.spent ≡ false → Conducts {A = A} (Ok value) old new before after
  done value was is = record {
    able = is;
    memory = λ told. absurd (not_err _ _ told);
    spent = λ spent. absurd (true≢false (sym spent ∙ was));
    only_spent = λ told. absurd (not_err _ _ told);
    silent = tt;
  }

  -- memory was wanting, and what was written is taken back
  pub wanting : (why : WorldFault) → why ≡ fault.NoMemory → old.spent ≡ false → new.spent ≡ true → after ≡ before → Conducts {A = A} (Err why) old new before after
  wanting why wants was is back = record {
    able = tt;
    memory = λ told. (was, is);
    spent = λ spent. absurd (true≢false (sym spent ∙ was));
    only_spent = λ told. absurd (not_spent why wants told);
    silent = back;
  }

-- How a call of a world ends, whatever it does, and what holds of each world.
use Rattle.std.specs.Prelude.{◌≡◌, ℕ, List, true, false, Err, OnErr, OnOk, Result}
use Rattle.fidl_wire.specs.Names.{AreDistinct}
use Rattle.vfs_journal.specs.Entries.{Journal}
use Rattle.vfs_journal.specs.Starts.{Start}
use Rattle.session_laws.specs.Keeping.{KeepsLaws}
use Rattle.vfs_world.specs.World.{StandsFor, World}
use Rattle.vfs_world.specs.declared.world.WorldFault.{WorldFault}
use Rattle.vfs_world.specs.declared.world.WorldFault.TheVariants as fault

-- want of memory spends a world; a spent one, and no other, answers Spent and does nothing; what isn't Ok writes nothing, and what is leaves a
-- world that isn't spent
pub record Conducts {A : Type 0} (result : Result A WorldFault) (old new : World) (before after : List ℕ) : Type 0 where
  pub able : OnOk result (new.spent ≡ false)
  pub memory : result ≡ Err fault.NoMemory → (old.spent ≡ false) × (new.spent ≡ true)
  pub spent : old.spent ≡ true → (result ≡ Err fault.Spent) × (new ≡ old)
  pub only_spent : result ≡ Err fault.Spent → old.spent ≡ true
  pub silent : OnErr result (after ≡ before)

-- from whatever journal the world stood for, what is done leads to one that keeps the laws of every session
abbrev pub KeepsOn : {A E : Type 0} → Result A E → World → (Start → Journal → Journal) → Type 0
KeepsOn result old later = (start : Start) (journal : Journal) → StandsFor start old journal → OnOk result (KeepsLaws start (later start journal))

-- a world that isn't spent stands for a journal, and the names of methods are told apart
abbrev pub StandsForOne : World → Type 0
StandsForOne world = world.spent ≡ false → AreDistinct × ((start : Start) × ((journal : Journal) × StandsFor start world journal))

-- A journal that keeps the laws, over an accepted tree.
use Rattle.session_start.specs.Accepted.{AreAccepted}
use Rattle.session_start.specs.Items.{Lists}
use Rattle.vfs_journal.specs.Entries.{Journal}
use Rattle.vfs_journal.specs.Lawful.{Lawful}
use Rattle.vfs_journal.specs.Starts.{start_of}
use Rattle.journal_laws.specs.Soundness.{IsStart}
use Rattle.session_laws.specs.Keeping.{KeepsLaws}

-- a journal over the start of an accepted tree, which is a start, that is lawful and keeps the laws
pub record IsLawfulOver (lists : Lists) (journal : Journal) : Type 0 where
  pub accepted : AreAccepted lists
  pub sound : IsStart (start_of lists)
  pub lawful : Lawful (start_of lists) journal
  pub keeps : KeepsLaws (start_of lists) journal

-- What a yes says of the run that was recorded.
use Rattle.std.specs.Prelude.{ℕ, List}
use Rattle.vfs_journal.specs.Starts.{Start}
use Rattle.session_laws.specs.Keeping.{KeepsLaws}
use Rattle.link_audit.specs.Records.{Record}
use Rattle.link_audit.specs.Recorded.{IsLawful, journal_of}
use Rattle.link_audit.specs.declared.verdicts.Verdict.{Verdict}
use Rattle.link_audit.specs.declared.verdicts.Verdict.TheVariants as verdict

-- a yes says that the journal of the records keeps the laws
abbrev pub VouchesForLaws : Start → List ℕ → Verdict → Type 0
VouchesForLaws start recording (verdict.Lawful records) =
    (all : List Record) × IsLawful start recording all × KeepsLaws start (journal_of start all)
VouchesForLaws start recording (verdict.Unlawful place reason) = Unit {0}

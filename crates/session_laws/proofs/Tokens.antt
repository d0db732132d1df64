-- Each token was given with authority.
use Rattle.std.proofs.Common.{◌++◌}
use Rattle.vfs_journal.specs.Past.{history_of}
use Rattle.vfs_journal.specs.Entries.{Journal}
use Rattle.journal_laws.specs.Soundness.{IsStart}
use Rattle.vfs_journal.specs.Lawful.{Lawful}
use Rattle.vfs_journal.specs.Starts.{Start}
use Rattle.journal_laws.proofs.Below.{Below}
use Rattle.journal_laws.proofs.Stepping.{time_of}
use Rattle.session_laws.proofs.Times.{time_holds}
use Rattle.session_laws.proofs.TokensGiven.{are_given, given_with_authority}
use Rattle.session_laws.specs.Authority.{TokensHaveAuthority}

pub tokens_given : Below → (start : Start) (later past : Journal) → IsStart start → Lawful start (later ++ past) → TokensHaveAuthority start (history_of start past)
tokens_given below start later past s h given there =
    let holds = time_holds below start s past (time_of start later past h) in
    given_with_authority start (history_of start past) given holds (are_given start past (time_of start later past h) given there)

-- The causes that stop `audit` are those that stop `vfs`, under its own statuses.
use Rattle.std.proofs.Common.{ℕ, List}
use Rattle.run_status.proofs.FoundFiles.{still_lacks}
use Rattle.run_status.specs.FileCauses.{HasNoFile, HasNoStart, LacksFile, LacksStart, fault_in as fault_there}
use Rattle.run_status.specs.Files.{StillTold}
use Rattle.run_status.specs.Causes.{Collides as CollidesThere}
use Rattle.run_status.specs.Outside.{FilesTold, SinkTold}
use Rattle.run_status.specs.declared.statuses.Status.{Status}
use Rattle.run_status.specs.declared.statuses.Status.TheVariants as other
use Rattle.link_audit.specs.Verdicts.{IsVerdict}
use Rattle.link_audit.specs.Vouching.{VouchesForLaws}
use Rattle.link_audit.specs.declared.verdicts.Verdict.{Verdict}
use Rattle.vfs_journal.specs.Starts.{Start}
use Rattle.audit_program.specs.Answers.{TellsVerdict, WritesLine}
use Rattle.audit_program.specs.declared.statuses.AuditStatus.{AuditStatus}
use Rattle.audit_program.specs.declared.statuses.AuditStatus.TheVariants as status
use Rattle.audit_program.specs.Statuses.{Collides, fault_in, rule_in, status_as}

pub collides_as : (there : Status) → CollidesThere there → Collides (status_as there)
collides_as other.Done a = absurd a
collides_as other.Usage a = absurd a
collides_as (other.TreeRefused rule item) a = absurd a
collides_as (other.ScriptRefused line) a = absurd a
collides_as other.ReadFault a = absurd a
collides_as other.WriteFault a = absurd a
collides_as other.FileFault a = absurd a
collides_as other.FileTooLarge a = absurd a
collides_as other.InputTooLong a = absurd a
collides_as (other.Collision first second) a = a
collides_as other.NoMemory a = absurd a
collides_as (other.BadFrame at why) a = absurd a
collides_as (other.Truncated at) a = absurd a

pub lacks_start_as : (tree : List ℕ) (before after : FilesTold) (there : Status) → HasNoStart tree before after there → LacksStart rule_in fault_in tree before after (status_as there)
lacks_start_as tree before after other.Done a = absurd a
lacks_start_as tree before after other.Usage a = absurd a
lacks_start_as tree before after (other.TreeRefused rule item) a = a
lacks_start_as tree before after (other.ScriptRefused line) a = absurd a
lacks_start_as tree before after other.ReadFault a = absurd a
lacks_start_as tree before after other.WriteFault a = absurd a
lacks_start_as tree before after other.FileFault a = a
lacks_start_as tree before after other.FileTooLarge a = a
lacks_start_as tree before after other.InputTooLong a = absurd a
lacks_start_as tree before after (other.Collision first second) a = absurd a
lacks_start_as tree before after other.NoMemory a = a
lacks_start_as tree before after (other.BadFrame at why) a = absurd a
lacks_start_as tree before after (other.Truncated at) a = absurd a

file_as : (most : ℕ) (name : List ℕ) (before after : FilesTold) (there : Status) → HasNoFile most name before after there → LacksFile fault_in most name before after (status_as there)
file_as most name before after other.Done a = absurd a
file_as most name before after other.Usage a = absurd a
file_as most name before after (other.TreeRefused rule item) a = absurd a
file_as most name before after (other.ScriptRefused line) a = absurd a
file_as most name before after other.ReadFault a = absurd a
file_as most name before after other.WriteFault a = absurd a
file_as most name before after other.FileFault a = a
file_as most name before after other.FileTooLarge a = a
file_as most name before after other.InputTooLong a = absurd a
file_as most name before after (other.Collision first second) a = absurd a
file_as most name before after other.NoMemory a = a
file_as most name before after (other.BadFrame at why) a = absurd a
file_as most name before after (other.Truncated at) a = absurd a

-- a file that is read behind another
pub lacks_file_as : (most : ℕ) (name : List ℕ) (before mid after : FilesTold) (there : Status) → StillTold before mid → HasNoFile most name mid after there
    → LacksFile fault_in most name before after (status_as there)
lacks_file_as most name before mid after there still lacks = file_as most name before after there (still_lacks most name before mid after still fault_there there lacks)

-- the verdict that was told is that on the recording
pub tells : (start : Start) (recording : List ℕ) (same : Type 0) (wrote writes : SinkTold) (verdict : Verdict) → IsVerdict start recording verdict
    → VouchesForLaws start recording verdict → (answer : AuditStatus) → WritesLine verdict same wrote writes answer
    → TellsVerdict start recording same wrote writes answer
tells start recording same wrote writes verdict is laws status.NoMemory a = a
tells start recording same wrote writes verdict is laws status.Done a = (verdict, is, laws, a)
tells start recording same wrote writes verdict is laws status.Usage a = (verdict, is, laws, a)
tells start recording same wrote writes verdict is laws (status.TreeRefused rule item) a = (verdict, is, laws, a)
tells start recording same wrote writes verdict is laws status.WriteFault a = (verdict, is, laws, a)
tells start recording same wrote writes verdict is laws status.FileFault a = (verdict, is, laws, a)
tells start recording same wrote writes verdict is laws status.FileTooLarge a = (verdict, is, laws, a)
tells start recording same wrote writes verdict is laws (status.Collision first second) a = (verdict, is, laws, a)
tells start recording same wrote writes verdict is laws (status.Unlawful place why) a = (verdict, is, laws, a)

use Rattle.std.proofs.Common.{◌≤◌, ◌+◌, length}
use Rattle.vfs_journal.specs.Starts.{start_of}
use Rattle.link_audit.specs.Auditing.{CameTo}
use Rattle.link_audit.proofs.auditing.audit.Given as goal

abbrev pub invariant-loop-front : goal.invariant-loop-front
invariant-loop-front l =
    record { came : CameTo (start_of l.fn.start) l.fn.recording l.place l.rest l.auditor; few : l.place + length l.rest ≤ length l.fn.recording }

abbrev pub decreases-loop-front : goal.decreases-loop-front
decreases-loop-front l = length l.rest

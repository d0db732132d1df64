use Rattle.std.proofs.Common.{◌-◌, drop, length}
use Rattle.vfs_journal.specs.Starts.{start_of}
use Rattle.link_audit.proofs.Stepping.{begins, held_as, nothing_left}
use Rattle.link_audit.proofs.auditor.Auditor.new.Goals as goal

pub returns-clause-audits : goal.returns-clause-audits
returns-clause-audits c =
    let made = c.in_ok-world.ensures in
    begins (start_of c.args.start.now) (held_as c.in_ok-world.world (drop (length c.new-2.result - 0) c.new-2.result)) c.args.ordinals.distinct
    made.stands made.frames (nothing_left c.new-2.result 0 c.new-2.ensures)

use Rattle.std.proofs.Common.{sym, ap, ◌∙◌}
use Rattle.vfs_script.specs.Scripts.{numbered_from}
use Rattle.vfs_script.proofs.script.Lines.next.Goals as goal

pub returns-clause-line : goal.returns-clause-line
returns-clause-line c = sym c.self.view_is ∙ ap (numbered_from c.self.inside.number) c.in_ok-line.ensures.piece

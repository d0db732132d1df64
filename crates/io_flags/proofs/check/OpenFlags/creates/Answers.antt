-- A word without a fault creates a directory alone or a file alone.
use Rattle.std.proofs.Common.{sym, ◌∙◌}
use Rattle.io_flags.proofs.FlagWords.{creates-kind}
use Rattle.io_flags.proofs.check.OpenFlags.creates.Goals as goal

pub returns-clause-kind : goal.returns-clause-kind
returns-clause-kind c =
    λ yes. rw (← c.self.view_is) (creates-kind c.self.inside.word c.self.invariant (sym c.creates.ensures ∙ yes))

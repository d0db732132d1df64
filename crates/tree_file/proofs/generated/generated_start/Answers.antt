use Rattle.std.proofs.Common.{sym, subst}
use Rattle.session_start.specs.Accepted.{AreOfStart}
use Rattle.tree_file.proofs.GeneratedRules.{generated_of_start}
use Rattle.tree_file.proofs.generated.generated_start.Goals as goal

pub new-requires : goal.new-requires
new-requires c = subst AreOfStart (sym c.in_ok-generated_lists.ensures) generated_of_start

use Rattle.std.proofs.Common.{ap, ◌∙◌, length, List, ℕ}
use Rattle.std.specs.Prelude.{nat_le}
use Rattle.fidl_names.specs.declared.limits.TheConstants as limit
use Rattle.session_start.specs.Items.{NodeItem}
use Rattle.tree_file.proofs.rules.is_small.Goals as goal

pub returns-clause-small : goal.returns-clause-small
returns-clause-small c = ap (λ (bytes : List ℕ). nat_le (length bytes) limit.MAX_FILE) (c.as_slice-bytes.ensures ∙ ap (λ (node : NodeItem). node.bytes) c.node.view_is)

use Rattle.std.proofs.Common.{◌∙◌}
use Rattle.tree_file.proofs.rules.found_among.Goals as goal

pub returns : goal.returns
returns c listed stands = c.copied.ensures ∙ (c.get.ensures.value ∙ stands (c.args.server, c.args.path))

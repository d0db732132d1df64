-- The search tells the first place of a slash, or that there is none.
use Rattle.std.proofs.Common.{◌∙◌}
use Rattle.path_walk.proofs.PathLemmas.{first_slash}
use Rattle.path_walk.proofs.walk.until_slash.Goals as goal

pub returns-clause-place : goal.returns-clause-place
returns-clause-place c = c.unwrap_or.ensures ∙ first_slash c.args.text.now c.memchr.result c.memchr.ensures

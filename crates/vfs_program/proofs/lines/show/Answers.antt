use Rattle.std.proofs.Common.{refl, inr}
use Rattle.link_frames.specs.declared.kinds.Side.TheVariants.{Any}
use Rattle.vfs_program.specs.Shown.{lines_course}
use Rattle.vfs_program.proofs.ShowLemmas.{cut_at_once, lines_grow, lines_starve}
use Rattle.vfs_program.proofs.lines.show.Goals as goal

pub returns : goal.returns
returns g c = inr (tt, c.in-Ok.ensures.distinct, c.run.ensures lines_course lines_grow refl)

pub returns-in_default : goal.returns-in_default
returns-in_default g c = inr (tt, c.in-Ok.ensures.distinct, (lines_starve, cut_at_once Any lines_course _, refl))

use Rattle.std.proofs.Common.{◌/◌, ◌%◌, arith, refl}
use Rattle.link_admission.specs.Pages.{in_rows}
use Rattle.link_admission.proofs.Leveled.{puts_there, row_within}
use Rattle.link_admission.proofs.levels.replace_at.Goals as goal

pub returns : goal.returns
returns c = puts_there 131072 (omega arith) in_rows c.args.levels.now.items c.args.levels.now.items c.index_mut.result.now c.replace_in_rows.new.rows c.args.index c.args.page (λ i. refl) c.index_mut.ensures.value (row_within c.args.levels.now.items (c.args.index / 131072) (λ rows. in_rows rows (c.args.index % 131072)) refl c.requires) c.replace_in_rows.ensures

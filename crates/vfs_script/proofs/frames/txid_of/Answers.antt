use Rattle.std.proofs.Common.{Bool, cond, sym, ap, ◌∙◌}
use Rattle.vfs_script.proofs.frames.txid_of.Goals as goal

pub returns-else-is_one_way : goal.returns-else-is_one_way
returns-else-is_one_way c = ap (λ (b : Bool). cond b 0 c.args.number) (sym c.if-is_one_way.false ∙ c.is_one_way.ensures)

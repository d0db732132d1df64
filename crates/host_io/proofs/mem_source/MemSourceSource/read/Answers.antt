use Rattle.std.proofs.Common.{arith, ◌≡◌, ◌≤◌, ◌++◌, length, take, drop, ℕ, ◌+◌, ap, sym, ◌∙◌}
use Rattle.std.proofs.lemmas.Grind.{common_steps}
use Rattle.host_io.proofs.Pieces.{front_and_rest}
use Rattle.host_io.proofs.mem_source.MemSourceSource.read.Goals as goal

pub returns-clause-bytes : goal.returns-clause-bytes
returns-clause-bytes c =
    let n : ℕ = c.min-n.result in
    let filled : c.copy_front.new.buffer ≡ take n c.args.self.now.left ++ drop n c.args.buffer.now = grind (arith, common_steps) in
    let short : n ≤ length c.args.self.now.left = grind (arith, common_steps) in
    let rest : drop (c.self.inside.taken + n) c.self.inside.bytes.items ≡ drop n c.args.self.now.left = grind (arith, common_steps) in
    (front_and_rest _ _ _ n short filled ∙ ap (λ l. take n c.copy_front.new.buffer ++ l) (sym rest), λ none room. grind (arith, common_steps))

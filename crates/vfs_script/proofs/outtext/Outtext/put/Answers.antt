use Rattle.std.proofs.Common.{◌++◌, length, take, ap, ◌∙◌}
use Rattle.vfs_script.proofs.PrintLemmas.{front_kept}
use Rattle.vfs_script.proofs.outtext.Outtext.put.Goals as goal

pub returns-clause-put : goal.returns-clause-put
returns-clause-put c = c.in_ok-extend_from_slice.ensures.items ∙ ap (λ bytes. bytes ++ c.args.part.now) c.self.view_is

pub returns-clause-grows : goal.returns-clause-grows
returns-clause-grows c =
    ap (take (length c.args.self.now)) (c.in_ok-extend_from_slice.ensures.items ∙ ap (λ bytes. bytes ++ c.args.part.now) c.self.view_is) ∙ front_kept c.args.self.now c.args.part.now

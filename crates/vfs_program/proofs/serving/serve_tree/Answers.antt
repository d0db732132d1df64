use Rattle.std.proofs.Common.{[], refl, sym, ap, subst, inl, inr}
use Rattle.link_frames.specs.declared.kinds.Mode.{Mode}
use Rattle.vfs_journal.specs.Starts.{start_of}
use Rattle.vfs_program.specs.TreeSession.{tree_course, StandsBehind}
use Rattle.vfs_program.proofs.Outputs.{tree_grows}
use Rattle.vfs_program.proofs.serving.serve_tree.Goals as goal

pub returns-clause-answers : goal.returns-clause-answers
returns-clause-answers g c =
    let start = start_of c.in-Ok-read_start.start in
    let by = c.args.mode in
    let session = c.in-Ok-new-2.session in
    inr (
      tt,
      c.in-Ok.ensures.distinct,
      inr (
        c.in-Ok-read_start.start,
        record { stands = c.in-Ok-read_start.ensures.stands; bytes = c.in-Ok-new-2.ensures.bytes },
        c.run.ensures (tree_course start by) (tree_grows start by)
            (start, ap (tree_course start) (sym c.in-Ok-new-2.ensures.mode), subst (λ (m : Mode). StandsBehind start m session.world []) (sym c.in-Ok-new-2.ensures.mode) c.in-Ok-new-2.ensures.stands),
      ),
    )

pub returns-in-Err-read_start-clause-answers : goal.returns-in-Err-read_start-clause-answers
returns-in-Err-read_start-clause-answers g c = inr (tt, c.in-Ok.ensures.distinct, inl (c.in-Err-read_start.ensures.refused, (refl, refl)))

use Rattle.std.proofs.Common.{refl, inl, inr}
use Rattle.io_namespace.specs.Kept.{table_of}
use Rattle.run_status.specs.Outside.{files_told}
use Rattle.ns_program.proofs.AnswerLemmas.{still_no_script}
use Rattle.ns_program.proofs.run.carry_out.Goals as goal

pub returns-in-Err-text_at-clause-answers : goal.returns-in-Err-text_at-clause-answers
returns-in-Err-text_at-clause-answers g c =
    inr (
      table_of c.in-Ok.table,
      c.in-Ok.ensures.table,
      inl (
        still_no_script (table_of c.in-Ok.table) c.args.script.now (files_told g.F.Files.told g.F.Files.faults g.F.Files.overlong c.args.files.now)
            (files_told g.F.Files.told g.F.Files.faults g.F.Files.overlong c.table_at.new.files)
            (files_told g.F.Files.told g.F.Files.faults g.F.Files.overlong c.text_at.new.files) c.in-Ok.ensures.files c.in-Err-text_at.status c.in-Err-text_at.ensures.refused,
        refl,
      ),
    )

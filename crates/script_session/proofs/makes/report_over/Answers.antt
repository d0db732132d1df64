use Rattle.std.proofs.Common.{ap, ◌∙◌}
use Rattle.script_session.specs.Workloads.{report_with}
use Rattle.script_session.proofs.makes.report_over.Goals as goal

pub returns-clause-told : goal.returns-clause-told
returns-clause-told c = λ text is.
    let out = c.in_ok-measured.measured in (
      out,
      c.in_ok-measured.ensures.measured text is,
      c.in_ok-report_with.ensures ∙ ap (λ n. report_with n out.frames out.bytes out.hash) c.len.ensures,
    )

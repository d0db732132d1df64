use Rattle.workload.specs.Workload.{workload}
use Rattle.script_session.proofs.WorkloadLemmas.{is_reported}
use Rattle.script_session.proofs.makes.report_of.Goals as goal

pub returns : goal.returns
returns c =
    let text = workload c.args.rounds in
    let script = c.in_ok-script.ensures.script in
    is_reported c.report_over.result (λ report. report.items) c.args.rounds c.in_ok-start.start c.in_ok-script.script.mode c.in_ok-script.script.calls
    c.in_ok-start.ensures.start c.in_ok-script.ensures.mode script.calls (c.report_over.ensures.sent text script) (c.report_over.ensures.told text script)

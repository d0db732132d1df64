use Rattle.std.proofs.Common.{◌≡◌, length, arith}
use Rattle.std.proofs.lemmas.Grind.{common_steps}
use Rattle.run_status.proofs.checks.line_of.Goals as goal

pub returns-clause-line : goal.returns-clause-line
returns-clause-line c =
    let nodes : c.from-2.result ≡ length c.args.start.now.nodes = omega arith in
    grind (arith, common_steps)

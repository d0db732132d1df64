use Rattle.std.proofs.Common.{ap, sym}
use Rattle.link_admission.specs.Admission.{by_standing}
use Rattle.link_admission.proofs.admission.by_standing.Goals as goal

pub returns-in-HungUp : goal.returns-in-HungUp
returns-in-HungUp c = ap by_standing (sym c.in-HungUp.is)

use Rattle.wire_laws.proofs.BodyAnswers.{meant_is_answered, meant_once}
use Rattle.wire_laws.proofs.BodyFaults.{fault_is_meant}
use Rattle.wire_laws.proofs.laws.body_fault_is_meant.Goals as goal

pub returns : goal.returns
returns c = record { meant = fault_is_meant; answered = meant_is_answered; once = meant_once }

use Rattle.std.proofs.Common.{refl}
use Rattle.link_admission.proofs.endpoints.Endpoints.admit.Goals as goal

pub returns-in-Some-clause-unchanged : goal.returns-in-Some-clause-unchanged
returns-in-Some-clause-unchanged c = refl

use Rattle.std.proofs.Common.{ap, sym}
use Rattle.link_admission.specs.Standings.{is_used}
use Rattle.link_admission.proofs.endpoints.is_used.Goals as goal

pub returns-in-Dead : goal.returns-in-Dead
returns-in-Dead c = ap is_used (sym c.in-Dead.is)

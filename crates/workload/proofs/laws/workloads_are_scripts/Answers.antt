use Rattle.workload.proofs.Whole.{workloads}
use Rattle.workload.proofs.laws.workloads_are_scripts.Goals as goal

pub returns : goal.returns
returns c = workloads

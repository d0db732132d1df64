use Rattle.std.proofs.Common.{refl}
use Rattle.vfs_world.proofs.world.told.Goals as goal

pub returns-else-served-clause-idle : goal.returns-else-served-clause-idle
returns-else-served-clause-idle c = λ _. refl

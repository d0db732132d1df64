-- What a second file is for a command that read another before it.
use Rattle.std.proofs.Common.{List, ℕ, subst}
use Rattle.host_io.specs.Told.{Told}
use Rattle.run_status.specs.Outside.{FilesTold}
use Rattle.run_status.specs.Files.{StillTold}
use Rattle.script_session.specs.Scripts.{Said, Says}

-- the script that it is then, it was before both
pub still_says : (script : List ℕ) (before mid : FilesTold) (said : Said) → StillTold before mid → Says (mid.told script) said → Says (before.told script) said
still_says script before mid said still says = subst (λ (t : Told). Says t said) (still.told script) says

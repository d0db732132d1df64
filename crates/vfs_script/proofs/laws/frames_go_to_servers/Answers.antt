use Rattle.vfs_script.proofs.FrameLaws.{frames_go}
use Rattle.vfs_script.proofs.laws.frames_go_to_servers.Goals as goal

pub returns : goal.returns
returns c = frames_go

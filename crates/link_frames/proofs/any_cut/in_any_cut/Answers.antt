use Rattle.link_frames.proofs.Runs as runs
use Rattle.link_frames.proofs.any_cut.in_any_cut.Goals as goal

pub returns : goal.returns
returns c = runs.any_cut

use Rattle.link_frames.proofs.Runs as runs
use Rattle.link_frames.proofs.Streams as streams
use Rattle.link_frames.proofs.laws.joined_streams.Goals as goal

pub returns : goal.returns
returns c = record {
  one = runs.one_frame;
  joined = runs.joined;
  bad_behind = runs.bad_behind;
  bad_stays = runs.bad_stays;
  frames_stay = streams.frames_stay;
  short = streams.partial_short;
}

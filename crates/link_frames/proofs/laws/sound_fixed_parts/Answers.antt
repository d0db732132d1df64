use Rattle.link_frames.proofs.Spelled as spelled
use Rattle.link_frames.proofs.Streams as streams
use Rattle.link_frames.proofs.Spelled.{frame_in}
use Rattle.link_frames.proofs.laws.sound_fixed_parts.Goals as goal

pub returns : goal.returns
returns c = record {
  no_reason = spelled.first_reason-spelling;
  size = spelled.size_of-spelling;
  frame = λ s b are long none whole.
      let front = streams.whole_front s b are long none whole in
      (frame_in s b, front.0, front.1);
  beginning = streams.begun_partial;
}

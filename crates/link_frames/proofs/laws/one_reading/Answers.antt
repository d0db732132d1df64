use Rattle.link_frames.proofs.Streams as streams
use Rattle.link_frames.proofs.laws.one_reading.Goals as goal

pub returns : goal.returns
returns c = record {
  reads = streams.every_reading;
  one_list = streams.one_list;
  one_fault = streams.one_fault;
  not_both = streams.not_both;
}

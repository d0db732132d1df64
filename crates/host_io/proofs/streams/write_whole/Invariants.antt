use Rattle.std.proofs.Common.{◌≡◌, length}
use Rattle.host_io.proofs.Sent.{Sent}
use Rattle.host_io.proofs.streams.write_whole.Given as goal

abbrev pub invariant-loop-rest : goal.invariant-loop-rest
invariant-loop-rest g l = record {
  sent : Sent (g.K.Sink.written l.initial.sink) (g.K.Sink.written l.sink) l.bytes l.rest;
  unflushed : g.K.Sink.flushed l.sink ≡ g.K.Sink.flushed l.initial.sink;
  stays : g.K.Sink.faults l.sink ≡ g.K.Sink.faults l.initial.sink;
}

abbrev pub decreases-loop-rest : goal.decreases-loop-rest
decreases-loop-rest g l = length l.rest

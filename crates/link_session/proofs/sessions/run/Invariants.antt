use Rattle.std.proofs.Common.{◌≡◌, ◌≤◌, ◌+◌, ◌-◌, ◌⊎◌, [], length}
use Rattle.fidl_names.specs.declared.limits.TheConstants as limit
use Rattle.host_io.specs.Streams.{IsFlushed}
use Rattle.link_frames.specs.Frames.{IsPartial}
use Rattle.link_session.specs.Serving.{IsGrowing}
use Rattle.link_session.specs.Session.{Course}
use Rattle.link_session.proofs.Progress.{Progress}
use Rattle.link_session.proofs.sessions.run.Given as goal

abbrev pub invariant-loop-now : goal.invariant-loop-now
invariant-loop-now g l = record {
  progress : (course : Course) → IsGrowing course → g.H.Session.stands l.initial.session course []
      → Progress g.H.Session.side course (g.H.Session.stands l.session course)
      (g.S.Source.left l.initial.source) (g.S.Source.left l.source) (g.K.Sink.written l.initial.sink) (g.K.Sink.written l.sink)
      l.taken l.input;
  partial : IsPartial g.H.Session.side l.input;
  counted : g.H.Session.heard l.session + length l.input ≤ l.taken;
  bound : l.taken ≤ limit.MAX_INPUT;
  ready : g.H.Session.ready l.session;
  empty : g.H.Session.holds l.session ≡ [];
  flushed : ((l.taken ≡ 0) × (l.sink ≡ l.initial.sink)) ⊎ IsFlushed (g.K.Sink.written l.sink) (g.K.Sink.flushed l.sink);
  read_faults : g.S.Source.faults l.source ≡ g.S.Source.faults l.initial.source;
  write_faults : g.K.Sink.faults l.sink ≡ g.K.Sink.faults l.initial.sink;
}

abbrev pub decreases-loop-now : goal.decreases-loop-now
decreases-loop-now g l = limit.MAX_INPUT - l.taken

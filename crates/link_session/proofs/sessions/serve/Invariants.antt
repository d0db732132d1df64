use Rattle.std.proofs.Common.{◌≡◌, ◌≤◌, ◌<◌, ◌+◌, ◌-◌, length, List}
use Rattle.link_frames.specs.Frames.{Frame}
use Rattle.fidl_names.specs.declared.limits.TheConstants as limit
use Rattle.link_session.specs.Serving.{Heard}
use Rattle.link_session.specs.Session.{Course}
use Rattle.link_session.proofs.sessions.serve.Given as goal

abbrev pub invariant-loop-frame : goal.invariant-loop-frame
invariant-loop-frame g l = record {
  heard : (course : Course) (before : List Frame) → g.H.Session.stands l.initial.session course before
      → Heard g.H.Session.side course (g.H.Session.stands l.session course) before l.bytes
      (g.K.Sink.written l.initial.sink) (g.K.Sink.written l.sink) (g.H.Session.holds l.session) l.at;
  ready : g.H.Session.ready l.session;
  room : length (g.H.Session.holds l.session) < limit.MAX_PIECE;
  few : g.H.Session.heard l.session ≤ g.H.Session.heard l.initial.session + l.at;
  bound : l.at ≤ length l.bytes;
  unflushed : g.K.Sink.flushed l.sink ≡ g.K.Sink.flushed l.initial.sink;
  stays : g.K.Sink.faults l.sink ≡ g.K.Sink.faults l.initial.sink;
}

abbrev pub decreases-loop-frame : goal.decreases-loop-frame
decreases-loop-frame g l = length l.bytes - l.at

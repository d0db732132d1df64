use Rattle.path_walk.specs.Names.{dot}
use Rattle.watch_events.specs.Events.{event_bytes}
use Rattle.watch_events.specs.Messages.{existing}
use Rattle.watch_events.proofs.Gathered.{frames_with}
use Rattle.watch_events.proofs.Told.{IsLeft}
use Rattle.watch_events.proofs.messages.tell_names.Given as goal

abbrev pub invariant-loop-one : goal.invariant-loop-one
invariant-loop-one l =
    IsLeft (frames_with l.endpoint (event_bytes existing dot) l.initial.one-iterator) (frames_with l.endpoint l.message l.one-iterator) l.initial.to l.to

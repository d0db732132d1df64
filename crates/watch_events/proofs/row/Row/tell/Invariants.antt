use Rattle.watch_events.proofs.Registered.{row_of}
use Rattle.watch_events.proofs.Told.{IsLeft, frames_to}
use Rattle.watch_events.proofs.row.Row.tell.Given as goal

abbrev pub invariant-loop-endpoint : goal.invariant-loop-endpoint
invariant-loop-endpoint l =
    IsLeft (frames_to (row_of l.initial.endpoint-iterator) l.event l.bytes) (frames_to (row_of l.endpoint-iterator) l.event l.bytes) l.initial.to l.to

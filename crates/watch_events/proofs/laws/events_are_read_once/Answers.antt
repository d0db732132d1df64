use Rattle.watch_events.proofs.Once.{events_once}
use Rattle.watch_events.proofs.laws.events_are_read_once.Goals as goal

pub returns : goal.returns
returns c = events_once

use Rattle.watch_events.proofs.Rowed.{nobody}
use Rattle.watch_events.proofs.watchers.Watchers.new.Goals as goal

pub returns : goal.returns
returns c = nobody c.new.result c.new.ensures.empty

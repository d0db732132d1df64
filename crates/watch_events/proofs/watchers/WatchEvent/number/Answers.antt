use Rattle.std.proofs.Common.{ap, arith, sym}
use Rattle.watch_events.specs.Messages.{number_of}
use Rattle.watch_events.proofs.watchers.WatchEvent.number.Goals as goal

pub returns-in-Deleted : goal.returns-in-Deleted
returns-in-Deleted c = record {
  number = sym (ap number_of c.in-Deleted.is);
  small = omega arith;
}

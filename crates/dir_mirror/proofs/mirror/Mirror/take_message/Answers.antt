use Rattle.std.proofs.Common.{ap, sym, [], refl}
use Rattle.watch_events.proofs.Once.{events_once}
use Rattle.dir_mirror.specs.Copies.{Copy}
use Rattle.dir_mirror.proofs.Copied.{ended_by, takes_events}
use Rattle.dir_mirror.proofs.mirror.Mirror.take_message.Goals as goal

pub returns-clause-taken : goal.returns-clause-taken
returns-clause-taken c = λ events good.
    let read = c.in-Some.ensures.good in
    let same = events_once c.args.bytes.now [] [] events read.0 good.whole read.1.whole in
    takes_events (λ key. key.items) c.args.self.now _ c.self.inside.seats c.seat_all.new.seats c.mark_all.new.seats c.sweep_all-2.new.seats events (ap (λ (copy : Copy). copy.names) (sym c.self.view_is)) refl
    c.self.invariant c.mark_all.ensures.ordered c.sweep_all-2.ensures.ordered c.seat_all.ensures.there (c.mark_all.ensures.told events [] good.whole) c.sweep_all-2.ensures.names
    (ended_by c.self.inside.ended c.args.self.now.ended c.in-Some.deleted events read.0 (ap (λ (copy : Copy). copy.ended) (sym c.self.view_is)) read.2 same.0)

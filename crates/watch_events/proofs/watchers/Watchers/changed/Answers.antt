use Rattle.std.proofs.Common.{◌∙◌, ◌+◌, None, Some, length, sym, ap, take}
use Rattle.watch_events.specs.Messages.{number_of}
use Rattle.watch_events.specs.Watching.{watchers_of}
use Rattle.watch_events.proofs.Rowed.{row_seen}
use Rattle.watch_events.proofs.Told.{event_in_front, told_all, told_front, told_nobody}
use Rattle.watch_events.proofs.watchers.Watchers.changed.Goals as goal

pub returns-in_default-clause-told : goal.returns-in_default-clause-told
returns-in_default-clause-told c =
    told_nobody _ (number_of c.args.event) c.args.name.now c.args.to.now (row_seen c.self.inside.rows c.args.self.now c.args.directory None c.self.view_is (sym c.in_default.ensures.value))

pub returns-clause-told : goal.returns-clause-told
returns-clause-told c =
    told_all c.tell.result c.in-Some.row.now (watchers_of c.args.self.now c.args.directory) c.number-number.result (number_of c.args.event) _ c.args.name.now c.args.to.now c.tell.new.to
    (sym (row_seen c.self.inside.rows c.args.self.now c.args.directory (Some c.in-Some.row.now) c.self.view_is (sym c.in-Some.ensures.value)))
    c.number-number.ensures.number
    (ap (take (2 + length c.args.name.now)) c.put_event.ensures ∙ event_in_front c.number-number.result c.args.name.now _)
    c.tell.ensures.told

pub returns-clause-front : goal.returns-clause-front
returns-clause-front c =
    told_front c.tell.result c.in-Some.row.now (watchers_of c.args.self.now c.args.directory) c.number-number.result (number_of c.args.event) _ c.args.name.now c.args.to.now c.tell.new.to
    (sym (row_seen c.self.inside.rows c.args.self.now c.args.directory (Some c.in-Some.row.now) c.self.view_is (sym c.in-Some.ensures.value)))
    c.number-number.ensures.number
    (ap (take (2 + length c.args.name.now)) c.put_event.ensures ∙ event_in_front c.number-number.result c.args.name.now _)
    c.tell.ensures.front

use Rattle.std.proofs.Common.{sym, ap, length, Some, None, List, ◌∙◌}
use Rattle.watch_events.specs.Messages.{Watcher}
use Rattle.watch_events.proofs.Rowed.{row_seen}
use Rattle.watch_events.proofs.watchers.Watchers.count.Goals as goal

pub returns-in-Some : goal.returns-in-Some
returns-in-Some c =
    c.len.ensures
    ∙ ap (λ (row : List Watcher). length row) (sym (row_seen c.self.inside.rows c.args.self.now c.args.directory (Some c.in-Some.row.now) c.self.view_is (sym c.in-Some.ensures.value)))

pub returns-in-None : goal.returns-in-None
returns-in-None c = ap (λ (row : List Watcher). length row) (sym (row_seen c.self.inside.rows c.args.self.now c.args.directory None c.self.view_is (sym c.in-None.ensures.value)))

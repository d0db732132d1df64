use Rattle.std.proofs.Common.{◌≡◌, ◌++◌, ◌∷◌, [], false, List, sym, subst, ap, ◌∙◌}
use Rattle.watch_events.specs.Messages.{Watcher}
use Rattle.watch_events.specs.Watching.{is_among}
use Rattle.watch_events.proofs.Registered.{row_of, row_of-insert, watcher_with}
use Rattle.watch_events.proofs.row.Row.add.Goals as goal

pub returns-clause-added : goal.returns-clause-added
returns-clause-added c =
    let new = subst (λ (row : List Watcher). is_among c.args.endpoint row ≡ false) (sym c.self.view_is) c.requires.new in
    ap row_of c.in_ok-insert.ensures.entries ∙ row_of-insert c.args.endpoint c.args.mask c.self.inside.masks.entries new
    ∙ ap (λ (row : List Watcher). row ++ watcher_with c.args.endpoint c.args.mask ∷ []) c.self.view_is

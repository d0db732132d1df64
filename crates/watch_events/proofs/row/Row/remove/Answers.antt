use Rattle.std.proofs.Common.{ap, ◌∙◌, is_some}
use Rattle.watch_events.specs.Watching.{is_among}
use Rattle.watch_events.proofs.Registered.{is_some-lookup, row_of, row_of-remove, without}
use Rattle.watch_events.proofs.row.Row.remove.Goals as goal

pub returns-clause-was : goal.returns-clause-was
returns-clause-was c =
    c.is_some.ensures ∙ ap is_some c.shift_remove.ensures.value ∙ is_some-lookup c.args.endpoint c.self.inside.masks.entries
    ∙ ap (is_among c.args.endpoint) c.self.view_is

pub returns-clause-removed : goal.returns-clause-removed
returns-clause-removed c =
    ap row_of c.shift_remove.ensures.entries ∙ row_of-remove c.args.endpoint c.self.inside.masks.entries c.self.invariant
    ∙ ap (without c.args.endpoint) c.self.view_is

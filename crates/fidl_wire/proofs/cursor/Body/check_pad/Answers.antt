use Rattle.std.proofs.Common.{◌∙◌, ◌+◌, ap}
use Rattle.fidl_wire.specs.Cursor.{Cursor}
use Rattle.fidl_wire.specs.Reading.{all_blank}
use Rattle.fidl_wire.proofs.cursor.Body.check_pad.Goals as goal

pub returns : goal.returns
returns c = c.check_blank.ensures ∙ ap (λ (cursor : Cursor). all_blank cursor.message c.args.at (c.args.at + c.args.size)) c.self.view_is

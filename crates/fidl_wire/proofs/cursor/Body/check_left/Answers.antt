use Rattle.std.proofs.Common.{◌∙◌, ◌==◌, ℕ, length, ap, sym}
use Rattle.fidl_wire.specs.declared.faults.WireWhat.TheVariants.{Handles}
use Rattle.fidl_wire.specs.Cursor.{Cursor}
use Rattle.fidl_wire.specs.Headers.{fault}
use Rattle.fidl_wire.specs.Reading.{check}
use Rattle.fidl_wire.proofs.cursor.Body.check_left.Goals as goal

pub returns : goal.returns
returns c =
    sym (ap (λ (left : ℕ). check (left == 0) (fault (length c.self.inside.bytes.now) Handles)) c.if-left-ne0.false)
    ∙ ap (λ (cursor : Cursor). check (length cursor.handles == 0) (fault (length cursor.message) Handles)) c.self.view_is

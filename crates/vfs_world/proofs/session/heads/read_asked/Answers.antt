use Rattle.std.proofs.Common.{◌∙◌, List, ap, sym}
use Rattle.std.proofs.lemmas.Option.{IfSome_then}
use Rattle.fidl_names.specs.declared.methods.Handle.{Handle}
use Rattle.vfs_journal.specs.Entries.{message}
use Rattle.vfs_journal.specs.Handles.{numbers_of}
use Rattle.vfs_world.proofs.ReadTaken.{none_of}
use Rattle.vfs_world.proofs.session.heads.read_asked.Goals as goal

pub returns-clause-read : goal.returns-clause-read
returns-clause-read c =
    let bytes = c.in_ok-bytes.bytes.now in
    let sending =
    c.in_ok-bytes.ensures.parts.0 ∙ ap (λ (handles : List Handle). message bytes (numbers_of handles)) (none_of c.in_ok-bytes.handles.now (sym c.is_empty.ensures ∙ c.if-not-is_empty.false)) in
    IfSome_then c.read_part.result c.read_part.ensures.read (λ asked asks. record { bytes = bytes; sending = sending; asks = asks })

use Rattle.std.proofs.Common.{List, ℕ, sym, ap, ◌∙◌, subst}
use Rattle.std.specs.Io.KnownBytes.{Appends}
use Rattle.script_session.specs.Telling.{IsTold, Scribe}
use Rattle.host_io.specs.Streams.{AppendsPart}
use Rattle.script_session.proofs.Lines.{part_written, told_written}
use Rattle.script_session.proofs.Scribing.{any_err}
use Rattle.script_session.proofs.scribe.Scribe.make_room.Goals as goal

pub returns-in_err-write_whole-clause-part : goal.returns-in_err-write_whole-clause-part
returns-in_err-write_whole-clause-part g c = λ first lines told.
    let text = c.as_bytes.ensures ∙ ap (λ (s : Scribe). s.gathered) c.self.view_is in
    let written = g.K.Sink.written c.args.sink.now in
    let now = g.K.Sink.written c.write_whole.new.sink in
    any_err c.from_residual.result (AppendsPart first now lines)
    (part_written first written now c.args.self.now.gathered lines (subst (AppendsPart written now) text c.in_err-write_whole.ensures.part) told)

pub returns-clause-told : goal.returns-clause-told
returns-clause-told g c = λ first lines told.
    let text = c.as_bytes.ensures ∙ ap (λ (s : Scribe). s.gathered) c.self.view_is in
    let now = g.K.Sink.written c.write_whole.new.sink in
    subst (λ l. IsTold first now l lines) (sym c.clear.ensures)
    (told_written first (g.K.Sink.written c.args.sink.now) now c.args.self.now.gathered lines
    (subst (Appends (g.K.Sink.written c.args.sink.now) now) text c.in_ok-write_whole.ensures.whole) told)

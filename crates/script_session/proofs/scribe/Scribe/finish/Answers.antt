use Rattle.std.proofs.Common.{List, ℕ, ◌≡◌, ◌+◌, ◌-◌, ◌++◌, sym, ap, ◌∙◌, subst}
use Rattle.std.specs.FinMap as finite
use Rattle.host_io.specs.Streams.{AppendsPart}
use Rattle.io_client.specs.Calls.{Calls}
use Rattle.vfs_script.specs.Transcripts.{counts_line}
use Rattle.script_session.specs.Answering.{count_answers, count_calls}
use Rattle.script_session.specs.Telling.{Scribe}
use Rattle.script_session.specs.Transcript.{lines_of, text_of}
use Rattle.script_session.proofs.Lines.{finished_part, front_told, part_longer, same_counts}
use Rattle.script_session.proofs.Scribing.{any_err}
use Rattle.script_session.proofs.scribe.Scribe.finish.Goals as goal

pub returns-in_err-print_counts-clause-part : goal.returns-in_err-print_counts-clause-part
returns-in_err-print_counts-clause-part g c = λ past first knows same told.
    any_err c.from_residual.result (AppendsPart first (g.K.Sink.written c.args.sink.now) (text_of past))
    (part_longer first (g.K.Sink.written c.args.sink.now) (lines_of past) (counts_line (count_calls past) (count_answers past))
    (front_told first (g.K.Sink.written c.args.sink.now) c.args.self.now.gathered (lines_of past) told))

pub returns-in_err-pass_on-clause-part : goal.returns-in_err-pass_on-clause-part
returns-in_err-pass_on-clause-part g c = λ past first knows same told.
    let gathered = c.args.self.now.gathered in
    let line = counts_line (count_calls past) (count_answers past) in
    let text : c.self.inside.text ≡ gathered = ap (λ (s : Scribe). s.gathered) c.self.view_is in
    let calls : c.self.inside.client ≡ c.args.self.now.calls = ap (λ (s : Scribe). s.calls) c.self.view_is in
    let waits : c.waiting.result ≡ finite.len c.args.self.now.calls.waiting = c.waiting.ensures ∙ ap (λ (k : Calls). finite.len k.waiting) calls in
    let answered : c.args.calls - c.waiting.result ≡ count_answers past =
    same_counts c.args.calls c.waiting.result (count_answers past) (count_calls past) (ap (λ n. n + count_answers past) waits ∙ knows.count) same in
    let bytes : c.as_bytes.result.now ≡ gathered ++ line =
    c.as_bytes.ensures ∙ c.in_ok-print_counts.ensures.line
    ∙ ap (λ l. l ++ counts_line c.args.calls (c.args.calls - c.waiting.result)) text
    ∙ ap (λ n. gathered ++ counts_line c.args.calls n) answered
    ∙ ap (λ n. gathered ++ counts_line n (count_answers past)) (sym same) in
    let written = g.K.Sink.written c.args.sink.now in
    let now = g.K.Sink.written c.pass_on.new.sink in
    any_err c.from_residual-in_err-pass_on.result (AppendsPart first now (text_of past))
    (finished_part first written now gathered (lines_of past) line (subst (AppendsPart written now) bytes c.in_err-pass_on.ensures.part) told)

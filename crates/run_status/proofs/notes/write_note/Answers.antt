use Rattle.std.proofs.Common.{List, ℕ, sym, ap, subst}
use Rattle.run_status.specs.Notes.{line_of}
use Rattle.run_status.specs.Outside.{sink_told}
use Rattle.run_status.specs.Texts.{Writes}
use Rattle.run_status.proofs.notes.write_note.Goals as goal

pub returns-in-TwoNumbers : goal.returns-in-TwoNumbers
returns-in-TwoNumbers g c =
    subst (λ (l : List ℕ). Writes l (sink_told g.N.Sink.written g.N.Sink.flushed g.N.Sink.faults c.args.notes.now)
    (sink_told g.N.Sink.written g.N.Sink.flushed g.N.Sink.faults c.write_two_numbers.new.notes) c.write_two_numbers.result)
    (sym (ap line_of c.in-TwoNumbers.is)) c.write_two_numbers.ensures

pub returns-in-Reason : goal.returns-in-Reason
returns-in-Reason g c =
    subst (λ (l : List ℕ). Writes l (sink_told g.N.Sink.written g.N.Sink.flushed g.N.Sink.faults c.args.notes.now)
    (sink_told g.N.Sink.written g.N.Sink.flushed g.N.Sink.faults c.write_reason.new.notes) c.write_reason.result)
    (sym (ap line_of c.in-Reason.is)) c.write_reason.ensures

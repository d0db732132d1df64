use Rattle.std.proofs.Common.{◌++◌, List, ℕ, codes, decimal, ap, ◌∙◌, subst}
use Rattle.run_status.specs.Outside.{sink_told}
use Rattle.run_status.specs.Texts.{Writes}
use Rattle.run_status.proofs.NoteLemmas.{five}
use Rattle.run_status.proofs.notes.write_two_numbers.Goals as goal

pub returns : goal.returns
returns g c =
    subst (λ (l : List ℕ). Writes l (sink_told g.N.Sink.written g.N.Sink.flushed g.N.Sink.faults c.args.notes.now)
    (sink_told g.N.Sink.written g.N.Sink.flushed g.N.Sink.faults c.write_parts.new.notes) c.write_parts.result)
    (five c.args.text.now c.format.result.now c.args.between.now c.format-2.result.now (codes "\n") ∙ ap (λ d. c.args.text.now ++ d ++ c.args.between.now ++ c.format-2.result.now ++ codes "\n") c.format.ensures.text ∙ ap (λ d. c.args.text.now ++ decimal c.args.number ++ c.args.between.now ++ d ++ codes "\n") c.format-2.ensures.text) c.write_parts.ensures

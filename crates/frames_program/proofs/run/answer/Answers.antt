use Rattle.std.proofs.Common.{map, string_bytes}
use Rattle.frames_program.proofs.Causes.{one_meaning}
use Rattle.frames_program.proofs.run.answer.Goals as goal

pub returns-in-Some-clause-usage : goal.returns-in-Some-clause-usage
returns-in-Some-clause-usage g c = λ none. absurd (none _ c.in-Some.ensures.meant)

pub returns-in-Some-clause-answers : goal.returns-in-Some-clause-answers
returns-in-Some-clause-answers g c = λ script means.
    rw (← one_meaning (map string_bytes c.args.words.now) _ script c.in-Some.ensures.meant means) c.write_frames.ensures.answers

pub returns-in-Some-clause-reads : goal.returns-in-Some-clause-reads
returns-in-Some-clause-reads g c = λ script means.
    rw (← one_meaning (map string_bytes c.args.words.now) _ script c.in-Some.ensures.meant means) c.write_frames.ensures.reads

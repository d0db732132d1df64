-- What holds of the one meaning of the words holds of each.
use Rattle.std.proofs.Common.{map, refl, string_bytes}
use Rattle.vfs_program.specs.Words.{command_seen}
use Rattle.vfs_program.proofs.OneMeaning.{has_rounds, one_meaning}
use Rattle.vfs_program.proofs.run.answer.Goals as goal

pub carry_out-requires : goal.carry_out-requires
carry_out-requires g c = has_rounds (map string_bytes c.args.words.now) (command_seen c.in-Some.command) c.in-Some.ensures.meant

pub returns-in-Some-clause-usage : goal.returns-in-Some-clause-usage
returns-in-Some-clause-usage g c = λ none. absurd (none (command_seen c.in-Some.command) c.in-Some.ensures.meant)

pub returns-in-Some-clause-answers : goal.returns-in-Some-clause-answers
returns-in-Some-clause-answers g c = λ asks means.
    rw (one_meaning (map string_bytes c.args.words.now) (command_seen c.in-Some.command) asks c.in-Some.ensures.meant means) c.carry_out.ensures.answers

pub returns-in-Some-clause-reads : goal.returns-in-Some-clause-reads
returns-in-Some-clause-reads g c = λ asks means.
    rw (one_meaning (map string_bytes c.args.words.now) (command_seen c.in-Some.command) asks c.in-Some.ensures.meant means) c.carry_out.ensures.reads

pub returns-in-None-clause-usage : goal.returns-in-None-clause-usage
returns-in-None-clause-usage g c = λ none. (refl, refl, refl, refl)

pub returns-in-None-clause-answers : goal.returns-in-None-clause-answers
returns-in-None-clause-answers g c = λ asks means. absurd (c.in-None.ensures.none refl asks means)

pub returns-in-None-clause-reads : goal.returns-in-None-clause-reads
returns-in-None-clause-reads g c = λ asks means. absurd (c.in-None.ensures.none refl asks means)

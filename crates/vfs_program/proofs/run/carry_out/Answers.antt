-- Each command does what the function says that it calls.
use Rattle.std.proofs.Common.{refl}
use Rattle.vfs_program.proofs.run.carry_out.Goals as goal

pub returns-in-File-clause-answers : goal.returns-in-File-clause-answers
returns-in-File-clause-answers g c = rw c.in-File.is c.serve_file.ensures.answers

pub returns-in-File-clause-reads : goal.returns-in-File-clause-reads
returns-in-File-clause-reads g c = rw c.in-File.is c.serve_file.ensures.reads

pub returns-in-Serve-clause-answers : goal.returns-in-Serve-clause-answers
returns-in-Serve-clause-answers g c = rw c.in-Serve.is c.serve_tree.ensures.answers

pub returns-in-Serve-clause-reads : goal.returns-in-Serve-clause-reads
returns-in-Serve-clause-reads g c = rw c.in-Serve.is c.serve_tree.ensures.reads

pub returns-in-Run-clause-answers : goal.returns-in-Run-clause-answers
returns-in-Run-clause-answers g c = rw c.in-Run.is (refl, c.run_script.ensures.answers)

pub returns-in-Run-clause-reads : goal.returns-in-Run-clause-reads
returns-in-Run-clause-reads g c = rw c.in-Run.is c.run_script.ensures.reads

pub returns-in-Check-clause-answers : goal.returns-in-Check-clause-answers
returns-in-Check-clause-answers g c = rw c.in-Check.is (refl, c.check_tree.ensures.answers)

pub returns-in-Check-clause-reads : goal.returns-in-Check-clause-reads
returns-in-Check-clause-reads g c = rw c.in-Check.is c.check_tree.ensures.reads

pub returns-in-Show-clause-answers : goal.returns-in-Show-clause-answers
returns-in-Show-clause-answers g c = rw c.in-Show.is (refl, c.show.ensures)

pub returns-in-Show-clause-reads : goal.returns-in-Show-clause-reads
returns-in-Show-clause-reads g c = rw c.in-Show.is refl

pub make-requires : goal.make-requires
make-requires g c = rw c.in-Make.is at c.requires

pub returns-in-Make-clause-answers : goal.returns-in-Make-clause-answers
returns-in-Make-clause-answers g c = rw c.in-Make.is (refl, refl, c.make.ensures)

pub returns-in-Make-clause-reads : goal.returns-in-Make-clause-reads
returns-in-Make-clause-reads g c = rw c.in-Make.is refl

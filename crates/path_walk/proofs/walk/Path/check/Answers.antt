-- A text without a fault is the path of its names, and only such a text is.
use Rattle.std.proofs.Common.{sym, subst, ◌∙◌}
use Rattle.std.proofs.lemmas.Result.{err_from_is_err_and}
use Rattle.path_walk.specs.Paths.{IsPath}
use Rattle.path_walk.proofs.PathLemmas.{path_sound, path_complete, no_path}
use Rattle.path_walk.proofs.walk.Path.check.Goals as goal

pub returns-in_err-check_whole-clause-each_path : goal.returns-in_err-check_whole-clause-each_path
returns-in_err-check_whole-clause-each_path c =
    λ names p. absurd (no_path c.args.text.now names _ (sym c.in_err-check_whole.ensures) p)

pub returns-in_err-check_whole-clause-fault : goal.returns-in_err-check_whole-clause-fault
returns-in_err-check_whole-clause-fault c =
    let p = err_from_is_err_and c.from_residual.result c.from_residual.ensures.1 in
    rw (p.1, p.2) c.in_err-check_whole.ensures

pub returns-clause-path : goal.returns-clause-path
returns-clause-path c = subst (IsPath c.args.text.now) (sym c.of_checked.ensures) (path_sound c.args.text.now (sym c.in_ok-check_whole.ensures))

pub returns-clause-each_path : goal.returns-clause-each_path
returns-clause-each_path c = λ names p. c.of_checked.ensures ∙ (path_complete c.args.text.now names p).1

pub returns-then-is_plain-clause-path : goal.returns-then-is_plain-clause-path
returns-then-is_plain-clause-path c = subst (IsPath c.args.text.now) (sym c.of_one.ensures) (path_sound c.args.text.now (c.is_plain.ensures.path c.if-is_plain.true))

pub returns-then-is_plain-clause-each_path : goal.returns-then-is_plain-clause-each_path
returns-then-is_plain-clause-each_path c = λ names p. c.of_one.ensures ∙ (path_complete c.args.text.now names p).1

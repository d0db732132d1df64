-- The text's rules, then the names', which `.` has none of.
use Rattle.std.proofs.Common.{sym, ◌∙◌}
use Rattle.std.proofs.lemmas.Result.{err_from_is_err_and}
use Rattle.path_walk.proofs.PathLemmas.{path_fault-text, path_fault-pieces, path_fault-at_dot}
use Rattle.path_walk.proofs.walk.check_whole.Goals as goal

pub returns-in_err-check_text : goal.returns-in_err-check_text
returns-in_err-check_text c =
    let p = err_from_is_err_and c.from_residual.result c.from_residual.ensures.1 in
    rw (p.1, p.2) (sym (path_fault-text c.args.text.now _ (sym c.in_err-check_text.ensures)))

pub returns-then-is_dot : goal.returns-then-is_dot
returns-then-is_dot c = sym (path_fault-at_dot c.args.text.now (sym c.is_dot.ensures ∙ c.if-is_dot.true))

pub returns : goal.returns
returns c =
    c.check_pieces.ensures
    ∙ sym (path_fault-pieces c.args.text.now (sym c.in_ok-check_text.ensures) (sym c.is_dot.ensures ∙ c.if-is_dot.false))

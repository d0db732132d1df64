-- A name without the two bytes breaks no rule between the lengths and the dots.
use Rattle.std.proofs.Common.{sym, ◌∙◌}
use Rattle.std.proofs.lemmas.Result.{err_from_is_err_and}
use Rattle.path_walk.proofs.NameLemmas.{name_fault-long, name_fault-later, later-dot}
use Rattle.path_walk.proofs.names.check_piece.Goals as goal

pub returns-in_err-check_length : goal.returns-in_err-check_length
returns-in_err-check_length c =
    let p = err_from_is_err_and c.from_residual.result c.from_residual.ensures.1 in
    rw (p.1, p.2) (sym (name_fault-long c.args.text.now _ (sym c.in_err-check_length.ensures)))

pub returns : goal.returns
returns c =
    c.check_dots.ensures
    ∙ sym
    (name_fault-later c.args.text.now (sym c.in_ok-check_length.ensures)
    ∙ later-dot c.args.text.now c.requires.no_zero c.requires.no_slash)

-- The lengths first, then byte by byte, then the dots.
use Rattle.std.proofs.Common.{sym, ◌∙◌}
use Rattle.std.proofs.lemmas.Result.{err_from_is_err_and}
use Rattle.path_walk.proofs.NameLemmas.{name_fault-long, name_fault-later, later-zero, later-slash, later-dot}
use Rattle.path_walk.proofs.names.check_name.Goals as goal

pub returns-in_err-check_length : goal.returns-in_err-check_length
returns-in_err-check_length c =
    let p = err_from_is_err_and c.from_residual.result c.from_residual.ensures.1 in
    rw (p.1, p.2) (sym (name_fault-long c.args.text.now _ (sym c.in_err-check_length.ensures)))

pub returns-then-contains : goal.returns-then-contains
returns-then-contains c =
    sym
    (name_fault-later c.args.text.now (sym c.in_ok-check_length.ensures)
    ∙ later-zero c.args.text.now (sym c.contains.ensures.value ∙ c.if-contains.true))

pub returns-then-contains-2 : goal.returns-then-contains-2
returns-then-contains-2 c =
    sym
    (name_fault-later c.args.text.now (sym c.in_ok-check_length.ensures)
    ∙ later-slash c.args.text.now
    (sym c.contains.ensures.value ∙ c.if-contains.false)
    (sym c.contains-2.ensures.value ∙ c.if-contains-2.true))

pub returns : goal.returns
returns c =
    c.check_dots.ensures
    ∙ sym
    (name_fault-later c.args.text.now (sym c.in_ok-check_length.ensures)
    ∙ later-dot c.args.text.now
    (sym c.contains.ensures.value ∙ c.if-contains.false)
    (sym c.contains-2.ensures.value ∙ c.if-contains-2.false))

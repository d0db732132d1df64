use Rattle.std.proofs.Common.{◌∙◌, Result, Err, ap, sym}
use Rattle.fidl_wire.specs.declared.faults.WireFault.{WireFault}
use Rattle.fidl_wire.specs.Reading.{all_blank, blank_or}
use Rattle.fidl_wire.proofs.blanks.check_blank.Goals as goal

pub returns-in-Some : goal.returns-in-Some
unfolding all_blank
returns-in-Some c =
    let answer : WireFault → Result (Unit {0}) WireFault = λ e. Err e in
    ap answer c.new.ensures ∙ ap (blank_or c.args.from) (sym c.in-Some.is ∙ c.first_used.ensures)

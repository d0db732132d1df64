use Rattle.std.proofs.Common.{◌∙◌, sym}
use Rattle.dir_mirror.proofs.Kept.{names_with_one, there_with_seat, kept_with_seat}
use Rattle.dir_mirror.proofs.seats.seat.Goals as goal

pub returns-clause-names : goal.returns-clause-names
returns-clause-names c =
    names_with_one (λ key. key.items) c.in_ok-name.name c.args.name.now c.args.seats.now c.insert.new.self c.in_ok-name.ensures.items c.in_ok-insert.ensures.updates
    (sym c.contains_key.ensures ∙ c.if-contains_key.false) c.in_ok-insert.ensures.entries

pub returns-clause-there : goal.returns-clause-there
returns-clause-there c =
    there_with_seat (λ key. key.items) c.in_ok-name.name c.args.name.now c.args.seats.now c.insert.new.self c.in_ok-name.ensures.items c.in_ok-insert.ensures.updates
    (sym c.contains_key.ensures ∙ c.if-contains_key.false)

pub returns-clause-kept : goal.returns-clause-kept
returns-clause-kept c =
    kept_with_seat (λ key. key.items) c.in_ok-name.name c.args.name.now c.args.seats.now c.insert.new.self c.in_ok-name.ensures.items c.in_ok-insert.ensures.updates
    (sym c.contains_key.ensures ∙ c.if-contains_key.false)

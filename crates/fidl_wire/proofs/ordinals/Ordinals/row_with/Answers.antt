use Rattle.fidl_wire.proofs.Rows.{found_row, no_row}
use Rattle.fidl_wire.proofs.ordinals.Ordinals.row_with.Goals as goal

pub returns-in_err-row-clause-none : goal.returns-in_err-row-clause-none
returns-in_err-row-clause-none c =
    λ _. no_row c.args.self.now.numbers c.args.ordinal c.args.self.now.named c.args.self.now.size c.in_err-row.ensures

pub returns-clause-row : goal.returns-clause-row
returns-clause-row c = found_row c.args.self.now.numbers c.args.ordinal c.in_ok-row.row c.args.self.now.named c.args.self.now.size c.in_ok-row.ensures

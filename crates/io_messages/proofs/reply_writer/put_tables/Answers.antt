use Rattle.std.proofs.Common.{ℕ, ◌%◌, [], length, refl, ap}
use Rattle.fidl_wire.specs.Spelling.{given, count_bytes}
use Rattle.fidl_wire.specs.Told.{all_told}
use Rattle.io_messages.proofs.Lengths.{length-count, no_handles}
use Rattle.io_messages.proofs.Unions.{cat}
use Rattle.io_messages.proofs.reply_writer.put_tables.Goals as goal

pub put_branch-requires-clause-aligned : goal.put_branch-requires-clause-aligned
put_branch-requires-clause-aligned c =
    let one = length (given (all_told c.args.first.now)) in
    let two = length (given (all_told c.args.second.now)) in
    ap (λ (n : ℕ). n % 8) (cat (count_bytes one) _ 16 16 (length-count one) (cat (count_bytes two) [] 16 0 (length-count two) refl))

pub put_branch-requires-clause-free : goal.put_branch-requires-clause-free
put_branch-requires-clause-free c = rw (no_handles (given (all_told c.args.first.now)), no_handles (given (all_told c.args.second.now))) refl

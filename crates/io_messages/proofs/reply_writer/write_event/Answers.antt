use Rattle.std.proofs.Common.{ℕ, ◌%◌, [], length, refl, ap, arith}
use Rattle.fidl_wire.specs.Grammar.{join, nothing}
use Rattle.fidl_wire.specs.Spelling.{table_part, count_bytes}
use Rattle.fidl_wire.specs.Written.{Written}
use Rattle.io_messages.proofs.Lengths.{length-count}
use Rattle.io_messages.proofs.Unions.{cat, object_length, padded_few}
use Rattle.io_messages.proofs.reply_writer.write_event.Goals as goal

pub put_branch-requires-clause-aligned : goal.put_branch-requires-clause-aligned
put_branch-requires-clause-aligned c = ap (λ (n : ℕ). n % 8) (cat (count_bytes 0) [] 16 0 (length-count 0) refl)

pub put_branch-requires-clause-room : goal.put_branch-requires-clause-room
put_branch-requires-clause-room c =
    omega (arith, c.begin.ensures.len, ap (λ (w : Written). length w.bytes) c.requires.empty, object_length (join (table_part []) nothing) 16 0 (cat (count_bytes 0) [] 16 0 (length-count 0) refl) refl, padded_few 16)

use Rattle.std.proofs.Common.{◌≡◌, ◌<◌, ℕ, get_or, arith}
use Rattle.byteorder.specs.Endian.{little_number}
use Rattle.dirents.proofs.Numbers.{entry_read, entry_fits}
use Rattle.dirents.proofs.entries.entry_in.Goals as goal

pub returns-clause-bytes : goal.returns-clause-bytes
returns-clause-bytes c = λ others.
    let are : (k : ℕ) → get_or c.args.head.now k 0 < 256 = λ k. let fits = c.type_inv.head k in omega (arith, fits) in
    let read : c.read_u64.result ≡ little_number 8 c.args.head.now = c.read_u64.ensures in
    entry_read c.args.head.now c.args.name.now others c.read_u64.result read are c.requires.size c.requires.named

pub returns-clause-fits : goal.returns-clause-fits
returns-clause-fits c =
    let are : (k : ℕ) → get_or c.args.head.now k 0 < 256 = λ k. let fits = c.type_inv.head k in omega (arith, fits) in
    let read : c.read_u64.result ≡ little_number 8 c.args.head.now = c.read_u64.ensures in
    entry_fits c.args.head.now c.args.name.now c.read_u64.result read are c.requires.named

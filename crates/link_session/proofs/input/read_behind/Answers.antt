use Rattle.std.proofs.Common.{arith, length, ◌<◌, ◌≤◌, ◌+◌, ◌-◌, take}
use Rattle.std.proofs.lemmas.List.{length-take-le}
use Rattle.link_session.proofs.Pieces.{take_kept_piece}
use Rattle.link_session.proofs.input.read_behind.Goals as goal
use borrow.Rule.Slice.PartMut.{post_of}

pub returns-clause-piece : goal.returns-clause-piece
returns-clause-piece g c =
    let kept = c.args.kept in
    let n = c.in_ok-n.n in
    let old = c.args.buffer.now in
    let fits : kept ≤ length old = omega arith in
    let some : 0 < length c.read.new.buffer = omega arith in (
      take n c.read.new.buffer,
      c.in_ok-n.ensures.bytes.0,
      take_kept_piece old c.read.new.buffer (post_of kept (kept + c.min.result - kept) old) kept n fits c.in_ok-n.ensures.bound,
      length-take-le n c.read.new.buffer c.in_ok-n.ensures.bound,
      λ e. c.in_ok-n.ensures.bytes.1 e some,
    )

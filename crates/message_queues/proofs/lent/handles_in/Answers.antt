use Rattle.std.proofs.Common.{◌≤◌, ◌<◌, length, ap, ◌∙◌, arith}
use Rattle.link_frames.specs.Views.{handle_numbers}
use Rattle.vfs_journal.specs.Handles.{numbers_of}
use Rattle.message_queues.proofs.Handles.{are_by_number, numbers_back, taken_all, taken_more}
use Rattle.message_queues.proofs.lent.handles_in.Goals as goal

pub returns-clause-numbers : goal.returns-clause-numbers
returns-clause-numbers c =
    let over : length (handle_numbers c.args.numbers) ≤ c.loop-place.place = omega (arith, c.loop-place-test.false, c.len-place-end.ensures) in
    ap numbers_of (taken_all c.loop-place.handles.items (handle_numbers c.args.numbers) c.loop-place.place over c.loop-place.invariant) ∙ numbers_back (handle_numbers c.args.numbers)

pub returns-clause-by_number : goal.returns-clause-by_number
returns-clause-by_number c =
    let over : length (handle_numbers c.args.numbers) ≤ c.loop-place.place = omega (arith, c.loop-place-test.false, c.len-place-end.ensures) in
    are_by_number c.loop-place.handles.items (handle_numbers c.args.numbers) (taken_all c.loop-place.handles.items (handle_numbers c.args.numbers) c.loop-place.place over c.loop-place.invariant)

pub loop-place-preserved : goal.loop-place-preserved
loop-place-preserved c =
    let ns = handle_numbers c.args.numbers in
    let low : c.loop-place.place < length ns = omega (arith, c.loop-place-test.true, c.len-place-end.ensures) in
    taken_more c.loop-place.handles.items c.push.new.self.items c.with_number.result ns c.loop-place.place c.at.result low c.loop-place.invariant c.in_ok-push.ensures.items c.with_number.ensures c.at.ensures

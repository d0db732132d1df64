use Rattle.std.proofs.Common.{◌∙◌, List, sym, ap, subst}
use Rattle.watch_events.specs.Messages.{Watcher, WritesFront}
use Rattle.watch_events.proofs.Registered.{row_of, watcher_with}
use Rattle.watch_events.proofs.Told.{for_want, frames_to, front_left, next_left, one_less}
use Rattle.watch_events.proofs.row.Row.tell.Goals as goal

pub loop-endpoint-preserved : goal.loop-endpoint-preserved
loop-endpoint-preserved c =
    let watcher = watcher_with c.in-Some.endpoint.now c.in-Some.mask.now in
    one_less _ _ _ c.args.to.now c.loop-endpoint.to c.write_message.new.to
    (next_left _ _ _ watcher c.args.event c.args.bytes.now c.args.to.now c.loop-endpoint.to c.loop-endpoint.invariant (ap row_of c.in-Some.ensures.steps) (sym c.if-not-asks_for.ensures))
    c.in_ok-write_message.ensures.written

pub returns-in_err-write_message-clause-front : goal.returns-in_err-write_message-clause-front
returns-in_err-write_message-clause-front c = for_want c.from_residual.result
    (subst (λ (row : List Watcher). WritesFront (frames_to row c.args.event c.args.bytes.now) c.args.to.now c.write_message.new.to)
    (ap row_of (c.into_iter-endpoint-iterator.ensures.into_iter_gives ∙ c.iter-endpoint-items.ensures.rest) ∙ c.self.view_is)
    (front_left _ _ c.args.to.now c.loop-endpoint.to c.write_message.new.to c.loop-endpoint.invariant c.in_err-write_message.ensures.no_memory))

use Rattle.std.proofs.Common.{◌≡◌, ◌∙◌, List, sym, ap, subst}
use Rattle.link_frames.specs.Frames.{Frame}
use Rattle.node_graph.specs.Graph.{Listed}
use Rattle.node_graph.specs.Listing.{listed}
use Rattle.path_walk.specs.Names.{dot}
use Rattle.watch_events.specs.Events.{event_bytes}
use Rattle.watch_events.specs.Messages.{WritesFront, existing}
use Rattle.watch_events.proofs.Gathered.{frames_with, one_gathered, told_with_dot}
use Rattle.watch_events.proofs.Told.{IsLeft, for_want, front_left, on_want}
use Rattle.watch_events.proofs.messages.tell_names.Goals as goal

pub loop-one-preserved : goal.loop-one-preserved
loop-one-preserved c =
    let one : Listed = listed c.in-Some.one in
    let all = frames_with c.args.endpoint (event_bytes existing dot) c.into_iter-one-iterator.result in
    one_gathered all c.args.endpoint c.loop-one.message c.make_room.new.self c.push-in-loop-one.new.self one c.next.new.self c.args.to.now c.loop-one.to c.make_room.new.to
    (subst (λ (names : List Listed). IsLeft all (frames_with c.args.endpoint c.loop-one.message names) c.args.to.now c.loop-one.to) c.in-Some.ensures.steps.0 c.loop-one.invariant)
    c.in_ok-make_room.ensures.fits c.in_ok-make_room.ensures.sent c.push-in-loop-one.ensures

pub returns-in_err-make_room-clause-front : goal.returns-in_err-make_room-clause-front
returns-in_err-make_room-clause-front c = for_want c.from_residual.result
    (subst (λ (frames : List Frame). WritesFront frames c.args.to.now c.make_room.new.to)
    (ap (frames_with c.args.endpoint (event_bytes existing dot)) c.into_iter-one-iterator.ensures.into_iter_gives ∙ sym (told_with_dot c.args.endpoint c.args.mask c.args.names (sym c.if-not-asks_for.ensures)))
    (front_left _ _ c.args.to.now c.loop-one.to c.make_room.new.to c.loop-one.invariant c.in_err-make_room.ensures.no_memory))

pub returns-clause-front : goal.returns-clause-front
returns-clause-front c =
    on_want c.write.result
    (λ (same : c.write.new.to ≡ c.loop-one.to).
    subst (λ (frames : List Frame). WritesFront frames c.args.to.now c.write.new.to)
    (ap (frames_with c.args.endpoint (event_bytes existing dot)) c.into_iter-one-iterator.ensures.into_iter_gives ∙ sym (told_with_dot c.args.endpoint c.args.mask c.args.names (sym c.if-not-asks_for.ensures)))
    (front_left _ _ c.args.to.now c.loop-one.to c.write.new.to c.loop-one.invariant same))
    c.write.ensures.no_memory

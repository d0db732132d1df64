use Rattle.std.proofs.Common.{◌≡◌, List, subst}
use Rattle.link_frames.specs.Frames.{Frame}
use Rattle.watch_events.specs.Messages.{WritesFront}
use Rattle.watch_events.specs.Steps.{idle_told, names_told}
use Rattle.watch_events.proofs.Gathered.{both_told, names_of}
use Rattle.watch_events.proofs.Told.{for_want, front_first, front_second, on_want}
use Rattle.watch_events.proofs.messages.snapshot.Goals as goal

pub returns-in_err-tell_names-clause-front : goal.returns-in_err-tell_names-clause-front
returns-in_err-tell_names-clause-front c = for_want c.from_residual.result
    (subst (λ (frames : List Frame). WritesFront frames c.args.to.now c.tell_names.new.to) (both_told c.args.endpoint c.args.mask (names_of c.args.names))
    (front_first _ (idle_told c.args.endpoint c.args.mask) c.args.to.now c.tell_names.new.to c.in_err-tell_names.ensures.front))

pub returns-clause-front : goal.returns-clause-front
returns-clause-front c =
    on_want c.tell_idle.result
    (λ (same : c.tell_idle.new.to ≡ c.tell_names.new.to).
    subst (λ (frames : List Frame). WritesFront frames c.args.to.now c.tell_idle.new.to) (both_told c.args.endpoint c.args.mask (names_of c.args.names))
    (front_second (names_told c.args.endpoint c.args.mask (names_of c.args.names)) (idle_told c.args.endpoint c.args.mask) c.args.to.now c.tell_names.new.to c.tell_idle.new.to c.in_ok-tell_names.ensures.told same))
    c.tell_idle.ensures.no_memory

use Rattle.std.proofs.Common.{◌-◌, ◌∙◌, Err, ap, arith}
use Rattle.fidl_names.specs.declared.limits.TheConstants as limit
use Rattle.link_frames.specs.Views.{frame_of}
use Rattle.vfs_journal.specs.Session.{arrives}
use Rattle.message_queues.specs.Queues.{count, server_of}
use Rattle.vfs_world.specs.Running.{whole}
use Rattle.vfs_world.specs.World.{World}
use Rattle.vfs_world.proofs.AtOnce.{reached_by}
use Rattle.vfs_world.proofs.CallResults.{on_both, on_ok}
use Rattle.vfs_world.proofs.Hearing.{placed, places_low, refused_lasts, refused_leads}
use Rattle.vfs_world.proofs.arriving.serve_at_once.Goals as goal

pub serve_admitted-requires : goal.serve_admitted-requires
serve_admitted-requires c = record {
  frame = c.requires.frame;
  heard = record { before = whole c.args.session.now; running = c.requires.running; admitted = c.in-Ok.ensures.admitted };
  free = record {
    sends = c.requires.free.sends;
    bound = ap (λ (w : World). server_of w.queues c.args.frame.endpoint) c.in-Ok.ensures.admitted.same ∙ c.requires.free.bound;
    none = ap (λ (w : World). count w.queues) c.in-Ok.ensures.admitted.same ∙ c.requires.free.none;
  };
}

pub refuse-requires : goal.refuse-requires
refuse-requires c =
    let low = places_low (limit.MAX_PLACES - limit.FRAME_PLACES) (whole c.args.session.now) c.requires.running in
    let same = ap (λ (w : World). w.places) c.in-Err-Refused.ensures.unchanged in
    record { places = omega (arith, low, same) }

pub returns-in-Ok-clause-reached : goal.returns-in-Ok-clause-reached
returns-in-Ok-clause-reached c = c.serve_admitted.ensures.reached (whole c.args.session.now) c.in-Ok.ensures.admitted

pub returns-in-Ok-clause-running : goal.returns-in-Ok-clause-running
returns-in-Ok-clause-running c = λ most runs. c.serve_admitted.ensures.running most (whole c.args.session.now) runs c.in-Ok.ensures.admitted

pub returns-in-Err-Refused-clause-reached : goal.returns-in-Err-Refused-clause-reached
returns-in-Err-Refused-clause-reached c =
    λ start journal stands.
    let old : World = whole c.args.session.now in
    on_both c.refuse.result
    (λ place written.
    reached_by start journal (arrives start journal (frame_of c.args.frame)) (whole c.refuse.new.self) c.args.outbox.now c.refuse.new.outbox
    (refused_leads c.requires.running.apart start journal old (whole c.refuse.new.self) (frame_of c.args.frame) c.in-Err-Refused.why c.args.outbox.now c.refuse.new.outbox stands c.requires.frame
    (c.in-Err-Refused.ensures.refused c.in-Err-Refused.why (ap Err c.in-Err-Refused.field-0-is)) (place ∙ ap placed c.in-Err-Refused.ensures.unchanged) written))
    c.refuse.ensures.place c.refuse.ensures.written

pub returns-in-Err-Refused-clause-running : goal.returns-in-Err-Refused-clause-running
returns-in-Err-Refused-clause-running c =
    λ most runs.
    let old : World = whole c.args.session.now in
    on_ok c.refuse.result
    (λ place. refused_lasts most old (whole c.refuse.new.self) (frame_of c.args.frame) c.in-Err-Refused.why runs c.requires.frame
    (c.in-Err-Refused.ensures.refused c.in-Err-Refused.why (ap Err c.in-Err-Refused.field-0-is)) (place ∙ ap placed c.in-Err-Refused.ensures.unchanged))
    c.refuse.ensures.place

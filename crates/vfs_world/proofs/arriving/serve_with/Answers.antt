use Rattle.std.proofs.Common.{◌≡◌, ◌∙◌, ◌+◌, ◌-◌, ℕ, None, ap, refl, sym, subst}
use Rattle.fidl_names.specs.declared.limits.TheConstants as limit
use Rattle.link_frames.specs.Frames.{Frame, IsFrame}
use Rattle.link_frames.specs.declared.kinds.Side.TheVariants.{ToServers}
use Rattle.link_frames.specs.Views.{frame_of}
use Rattle.vfs_journal.specs.Entries.{Sent}
use Rattle.message_queues.specs.Parcels.{sent_by}
use Rattle.vfs_world.specs.Heads.{Takes}
use Rattle.vfs_world.specs.Running.{IsRunning, whole}
use Rattle.vfs_world.specs.World.{World}
use Rattle.vfs_world.specs.Arrivals.{Hears, IsFree}
use Rattle.vfs_world.proofs.CallResults.{on_ok}
use Rattle.vfs_world.proofs.AtOnce.{none_waits, reached_at_once, sent_in, sent_lasts, taken_again, waits_in, waits_last}
use Rattle.vfs_world.proofs.arriving.serve_with.Goals as goal

-- behind its place it stands as what waited and was taken
takes : (now next : World) (frame : Frame) (server place : ℕ) (sent : Sent) → Hears (limit.MAX_PLACES - limit.FRAME_PLACES) frame now → IsFree frame server now → place ≡ now.places →
    sent ≡ record { place = place; endpoint = frame.endpoint; sending = sent_by frame.kind frame; origin = None } → next ≡ record now { places = now.places + 1 } → Takes (waits_in now frame) frame.endpoint server sent next
takes now next frame server place sent heard free at is same =
    subst (Takes (waits_in now frame) frame.endpoint server sent) (sym same)
    (subst (λ (s : Sent). Takes (waits_in now frame) frame.endpoint server s (record now { places = now.places + 1 }))
    (sym (is ∙ ap (λ (n : ℕ). let one : Sent = record { place = n; endpoint = frame.endpoint; sending = sent_by frame.kind frame; origin = None } in one) at))
    (taken_again now.queues (sent_in now frame) (none_waits heard.before now (limit.MAX_PLACES - limit.FRAME_PLACES) heard.running heard.admitted.same free.none) server (record now { places = now.places + 1 }) free.bound refl))

runs : (now : World) (frame : Frame) (server : ℕ) → Hears (limit.MAX_PLACES - limit.FRAME_PLACES) frame now → IsFrame ToServers frame → IsFree frame server now → IsRunning limit.MAX_PLACES (waits_in now frame)
runs now frame server heard is free = sent_lasts (limit.MAX_PLACES - limit.FRAME_PLACES) heard.before now (waits_in now frame) frame heard.running is free.sends heard.admitted (waits_last now frame)

pub serve_taken-requires : goal.serve_taken-requires
serve_taken-requires c = record {
  taken = (
    waits_in (whole c.args.session.now) (frame_of c.args.frame),
    (
      runs (whole c.args.session.now) (frame_of c.args.frame) c.args.server c.requires.heard c.requires.frame c.requires.free,
      takes (whole c.args.session.now) (whole c.take_place.new.self) (frame_of c.args.frame) c.args.server c.take_place.result c.of_frame-sent.result c.requires.heard c.requires.free c.take_place.ensures.place c.of_frame-sent.ensures c.take_place.ensures.taken,
    ),
  );
}

pub returns-clause-reached : goal.returns-clause-reached
returns-clause-reached c =
    λ before admitted start journal stands.
    let now : World = whole c.args.session.now in
    let heard = c.requires.heard in
    on_ok c.serve_taken.result (λ served.
    reached_at_once heard.running.apart start journal before now (whole c.serve_taken.new.self) (frame_of c.args.frame) c.args.outbox.now c.serve_taken.new.outbox stands c.requires.frame admitted c.args.server c.requires.free
    (none_waits heard.before now (limit.MAX_PLACES - limit.FRAME_PLACES) heard.running heard.admitted.same c.requires.free.none)
    (served.served (waits_in now (frame_of c.args.frame))
    (runs now (frame_of c.args.frame) c.args.server heard c.requires.frame c.requires.free)
    (takes now (whole c.take_place.new.self) (frame_of c.args.frame) c.args.server c.take_place.result c.of_frame-sent.result heard c.requires.free c.take_place.ensures.place c.of_frame-sent.ensures c.take_place.ensures.taken))) c.serve_taken.ensures.served

pub returns-clause-running : goal.returns-clause-running
returns-clause-running c =
    λ most before run admitted.
    let now : World = whole c.args.session.now in
    on_ok c.serve_taken.result (λ served.
    served.running (most + limit.FRAME_PLACES) (waits_in now (frame_of c.args.frame))
    (runs now (frame_of c.args.frame) c.args.server c.requires.heard c.requires.frame c.requires.free)
    (sent_lasts most before now (waits_in now (frame_of c.args.frame)) (frame_of c.args.frame) run c.requires.frame c.requires.free.sends admitted (waits_last now (frame_of c.args.frame)))
    (takes now (whole c.take_place.new.self) (frame_of c.args.frame) c.args.server c.take_place.result c.of_frame-sent.result c.requires.heard c.requires.free c.take_place.ensures.place c.of_frame-sent.ensures c.take_place.ensures.taken)) c.serve_taken.ensures.served

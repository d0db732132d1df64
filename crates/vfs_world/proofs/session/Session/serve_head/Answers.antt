use Rattle.std.proofs.Common.{◌≡◌, ◌∙◌, Some, ap, refl, subst, sym}
use Rattle.std.specs.Result.{OnOk}
use Rattle.vfs_world.specs.Running.{IsRunning, whole}
use Rattle.vfs_world.specs.Servings.{ServesOne}
use Rattle.vfs_world.specs.World.{World}
use Rattle.vfs_world.proofs.Answered.{if_ok}
use Rattle.vfs_world.proofs.session.Session.serve_head.Goals as goal

pub serve_sent-served-requires : goal.serve_sent-served-requires
serve_sent-served-requires c = record {
  taken = (
    whole c.args.self.now,
    (c.requires.running, record { bound = c.in_ok-server.ensures.bound; first = c.in_ok-server.ensures.first ∙ ap Some (sym c.lend.ensures); taken = c.in_ok-server.ensures.later; count = c.in_ok-server.ensures.len; same = refl }),
  );
}

pub returns-clause-served : goal.returns-clause-served
returns-clause-served c =
    subst (λ (new : World). OnOk c.serve_sent-served.result (ServesOne (λ one. one ≡ c.args.endpoint) (whole c.args.self.now) new c.args.outbox.now c.serve_sent-served.new.outbox)) (sym c.keep_room.ensures)
    (if_ok c.serve_sent-served.result (λ serves. serves.served (whole c.args.self.now) c.requires.running
    (record { bound = c.in_ok-server.ensures.bound; first = c.in_ok-server.ensures.first ∙ ap Some (sym c.lend.ensures); taken = c.in_ok-server.ensures.later; count = c.in_ok-server.ensures.len; same = refl }))
    c.serve_sent-served.ensures.served)

pub returns-clause-running : goal.returns-clause-running
returns-clause-running c =
    λ most run.
    subst (λ (new : World). OnOk c.serve_sent-served.result (IsRunning most new)) (sym c.keep_room.ensures)
    (if_ok c.serve_sent-served.result (λ serves. serves.running most (whole c.args.self.now) c.requires.running run
    (record { bound = c.in_ok-server.ensures.bound; first = c.in_ok-server.ensures.first ∙ ap Some (sym c.lend.ensures); taken = c.in_ok-server.ensures.later; count = c.in_ok-server.ensures.len; same = refl }))
    c.serve_sent-served.ensures.served)

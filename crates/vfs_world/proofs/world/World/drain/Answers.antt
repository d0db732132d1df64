use Rattle.std.proofs.Common.{◌*◌, ◌∙◌, refl, sym}
use Rattle.fidl_names.specs.declared.limits.TheConstants as limit
use Rattle.vfs_world.specs.Running.{whole}
use Rattle.vfs_world.proofs.Serves.{drain_leads}
use Rattle.vfs_world.proofs.CallResults.{not_err}
use Rattle.vfs_world.proofs.Conduct.{done, wanting}
use Rattle.vfs_world.proofs.Worlds.{able_of, keeps_laws, leads_inside, nothing_waits, runs_inside, stands_inside, taken_back}
use Rattle.vfs_world.proofs.world.World.drain.Goals as goal

pub drain-requires : goal.drain-requires
drain-requires c = record { running = runs_inside c.self.inside c.self.view_is c.self.invariant (able_of c.self.inside c.self.view_is c.if-self.false) }

pub invariant_of-self-in_default : goal.invariant_of-self-in_default
invariant_of-self-in_default c =
    λ able.
    let within = c.self.invariant able in
    (c.in_default.ensures.running (limit.FRAME_PLACES * c.self.inside.frames) within.0, within.1)

pub returns-clause-drained : goal.returns-clause-drained
returns-clause-drained c =
    λ start journal stands.
    leads_inside c.self.inside c.self.view_is (whole c.drain.new.self) c.self.inside.frames stands
    (drain_leads (runs_inside c.self.inside c.self.view_is c.self.invariant stands.able).apart start journal (whole c.self.inside.session) (whole c.drain.new.self) c.args.outbox.now c.drain.new.outbox
    (stands_inside c.self.inside c.self.view_is start journal stands)
    c.in_default.ensures.drained).0

pub returns-clause-none : goal.returns-clause-none
returns-clause-none c =
    λ start journal stands.
    (drain_leads (runs_inside c.self.inside c.self.view_is c.self.invariant stands.able).apart start journal (whole c.self.inside.session) (whole c.drain.new.self) c.args.outbox.now c.drain.new.outbox
    (stands_inside c.self.inside c.self.view_is start journal stands)
    c.in_default.ensures.drained).1

pub returns-in-Err-clause-idle : goal.returns-in-Err-clause-idle
returns-in-Err-clause-idle c =
    λ start journal stands none.
    let told = c.in-Err.ensures.idle (nothing_waits start (whole c.self.inside.session) journal (stands_inside c.self.inside c.self.view_is start journal stands) none) in
    absurd (not_err _ _ (sym told))

pub returns-clause-idle : goal.returns-clause-idle
returns-clause-idle c = λ start journal stands none. refl

pub returns-in-Err-clause-conduct : goal.returns-in-Err-clause-conduct
returns-in-Err-clause-conduct c =
    wanting _ _ _ _ _ c.take_back.ensures.fault (able_of c.self.inside c.self.view_is c.if-self.false) c.take_back.ensures.spent
    (c.take_back.ensures.back ∙ taken_back c.args.outbox.now c.drain.new.outbox c.len-begun.result c.len-begun.ensures c.drain.ensures.begins)

pub returns-clause-conduct : goal.returns-clause-conduct
returns-clause-conduct c = done _ _ _ _ tt (able_of c.self.inside c.self.view_is c.if-self.false) c.if-self.false

pub returns-clause-keeps : goal.returns-clause-keeps
returns-clause-keeps c =
    λ start journal stands.
    let apart = (runs_inside c.self.inside c.self.view_is c.self.invariant stands.able).apart in
    keeps_laws apart
    (drain_leads apart start journal (whole c.self.inside.session) (whole c.drain.new.self) c.args.outbox.now c.drain.new.outbox (stands_inside c.self.inside c.self.view_is start journal stands) c.in_default.ensures.drained).0

use Rattle.std.proofs.Common.{◌≡◌, Ok, Result, ap, arith, ◌∙◌, sym}
use Rattle.vfs_world.specs.Running.{whole}
use Rattle.vfs_world.specs.World.{World}
use Rattle.vfs_world.specs.declared.world.Picked.{Picked}
use Rattle.vfs_world.specs.declared.world.WorldFault.{WorldFault}
use Rattle.fidl_names.specs.declared.limits.TheConstants as limit
use Rattle.vfs_world.specs.declared.world.Picked.TheVariants as picked
use Rattle.vfs_world.proofs.Serves.{head_none, one_picked, pick_idle, pick_leads, pick_lowers, pick_places}
use Rattle.vfs_world.proofs.CallResults.{not_err, same_ok}
use Rattle.vfs_world.proofs.Conduct.{done, wanting}
use Rattle.vfs_world.proofs.Worlds.{able_of, keeps_laws, leads_inside, runs_inside, stands_inside, taken_back}
use Rattle.vfs_world.proofs.world.World.pick.Goals as goal

pub pick-requires : goal.pick-requires
pick-requires c = record { running = runs_inside c.self.inside c.self.view_is c.self.invariant (able_of c.self.inside c.self.view_is c.if-self.false) }

pub returns-in-Ok-clause-picked : goal.returns-in-Ok-clause-picked
returns-in-Ok-clause-picked c =
    λ start journal stands.
    leads_inside c.self.inside c.self.view_is (whole c.pick.new.self) c.self.inside.frames stands
    (pick_leads (runs_inside c.self.inside c.self.view_is c.self.invariant stands.able).apart start journal c.args.endpoint (whole c.self.inside.session) (whole c.pick.new.self) c.args.outbox.now c.pick.new.outbox
    (stands_inside c.self.inside c.self.view_is start journal stands)
    c.in-Ok.ensures.picked)

pub returns-in-Ok-clause-idle : goal.returns-in-Ok-clause-idle
returns-in-Ok-clause-idle c =
    λ start journal stands none.
    let none_served = c.in-Ok.ensures.idle (pick_idle start journal (whole c.self.inside.session) c.args.endpoint (stands_inside c.self.inside c.self.view_is start journal stands) none) in
    ap Ok (c.told.ensures.idle (same_ok _ _ none_served))

pub returns-in-Err-clause-idle : goal.returns-in-Err-clause-idle
returns-in-Err-clause-idle c =
    λ start journal stands none.
    let told = c.in-Err.ensures.idle (pick_idle start journal (whole c.self.inside.session) c.args.endpoint (stands_inside c.self.inside c.self.view_is start journal stands) none) in
    absurd (not_err _ _ (sym told))

pub returns-in-Ok-clause-only_idle : goal.returns-in-Ok-clause-only_idle
returns-in-Ok-clause-only_idle c =
    λ start journal stands is.
    head_none (runs_inside c.self.inside c.self.view_is c.self.invariant stands.able).apart start journal (whole c.self.inside.session) c.args.endpoint
    (stands_inside c.self.inside c.self.view_is start journal stands)
    (c.in-Ok.ensures.only_idle (ap Ok (c.told.ensures.only_idle (same_ok _ _ is))))

pub returns-in-Err-clause-conduct : goal.returns-in-Err-clause-conduct
returns-in-Err-clause-conduct c =
    wanting _ _ _ _ _ c.take_back.ensures.fault (able_of c.self.inside c.self.view_is c.if-self.false) c.take_back.ensures.spent
    (c.take_back.ensures.back ∙ taken_back c.args.outbox.now c.pick.new.outbox c.len-begun.result c.len-begun.ensures c.pick.ensures.begins)

pub returns-in-Ok-clause-conduct : goal.returns-in-Ok-clause-conduct
returns-in-Ok-clause-conduct c = done _ _ _ _ _ (able_of c.self.inside c.self.view_is c.if-self.false) c.if-self.false

pub returns-in-Ok-clause-keeps : goal.returns-in-Ok-clause-keeps
returns-in-Ok-clause-keeps c =
    λ start journal stands.
    let apart = (runs_inside c.self.inside c.self.view_is c.self.invariant stands.able).apart in
    keeps_laws apart
    (pick_leads apart start journal c.args.endpoint (whole c.self.inside.session) (whole c.pick.new.self) c.args.outbox.now c.pick.new.outbox (stands_inside c.self.inside c.self.view_is start journal stands) c.in-Ok.ensures.picked)

-- what was told of as served wasn't idle
not_idle : (told : Picked) → ◌≡◌ {A = Result Picked WorldFault} (Ok told) (Ok picked.Served) → told ≡ picked.Idle → ⊥
not_idle picked.Served is idle = cc
not_idle picked.Idle is idle = cc

pub returns-in-Ok-clause-lowers : goal.returns-in-Ok-clause-lowers
returns-in-Ok-clause-lowers c =
    λ start journal stands is.
    pick_lowers (runs_inside c.self.inside c.self.view_is c.self.invariant stands.able).apart start journal c.args.endpoint (whole c.self.inside.session) (whole c.pick.new.self) c.args.outbox.now c.pick.new.outbox
    (stands_inside c.self.inside c.self.view_is start journal stands)
    (one_picked c.args.endpoint (whole c.self.inside.session) (whole c.pick.new.self) c.args.outbox.now c.pick.new.outbox c.in-Ok.ensures.picked
    (λ idle. not_idle c.told.result is (c.told.ensures.idle (same_ok _ _ (c.in-Ok.ensures.idle idle)))))

pub returns-in-Ok-clause-places : goal.returns-in-Ok-clause-places
returns-in-Ok-clause-places c =
    λ is.
    let able = able_of c.self.inside c.self.view_is c.if-self.false in
    let same = ap (λ (w : World). w.places) c.self.view_is in
    let runs = runs_inside c.self.inside c.self.view_is c.self.invariant able in
    let more = pick_places c.args.endpoint limit.MAX_PLACES (whole c.self.inside.session) (whole c.pick.new.self) c.args.outbox.now c.pick.new.outbox
    (one_picked c.args.endpoint (whole c.self.inside.session) (whole c.pick.new.self) c.args.outbox.now c.pick.new.outbox c.in-Ok.ensures.picked
    (λ idle. not_idle c.told.result is (c.told.ensures.idle (same_ok _ _ (c.in-Ok.ensures.idle idle)))))
    (c.in-Ok.ensures.running limit.MAX_PLACES runs) in
    (omega (arith, same, more.0), more.1)

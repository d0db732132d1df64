use Rattle.std.proofs.Common.{◌≡◌, ◌∙◌, ◌+◌, ◌-◌, ◌*◌, ◌<◌, ap, arith}
use Rattle.fidl_names.specs.declared.limits.TheConstants as limit
use Rattle.vfs_world.specs.Running.{whole}
use Rattle.vfs_world.specs.World.{World}
use Rattle.vfs_world.proofs.Lasting.{lasts_more}
use Rattle.vfs_world.proofs.Conduct.{done, wanting}
use Rattle.vfs_world.proofs.Worlds.{able_of, keeps_laws, leads_inside, stands_inside, taken_back, within_more}
use Rattle.vfs_world.proofs.world.World.hear.Goals as goal

pub hear-requires-clause-running : goal.hear-requires-clause-running
hear-requires-clause-running c =
    let within = c.self.invariant c.if-self.false in
    let same : c.self.inside.frames ≡ c.args.self.now.frames = ap (λ (w : World). w.frames) c.self.view_is in
    let few : c.args.self.now.frames < limit.MAX_FRAMES = c.requires.few in
    lasts_more (limit.FRAME_PLACES * c.self.inside.frames) (limit.MAX_PLACES - limit.FRAME_PLACES) (whole c.self.inside.session) (omega (arith, same, few)) within.0

pub invariant_of-self-2 : goal.invariant_of-self-2
invariant_of-self-2 c =
    λ able.
    let within = c.self.invariant able in
    let same : c.self.inside.frames ≡ c.args.self.now.frames = ap (λ (w : World). w.frames) c.self.view_is in
    let few : c.args.self.now.frames < limit.MAX_FRAMES = c.requires.few in
    within_more c.self.inside.frames (whole c.hear.new.session) (omega (arith, same, few)) (c.in_default.ensures.running (limit.FRAME_PLACES * c.self.inside.frames) within.0)

pub returns-clause-heard : goal.returns-clause-heard
returns-clause-heard c =
    λ start journal stands.
    leads_inside c.self.inside c.self.view_is (whole c.hear.new.session) (c.self.inside.frames + 1) stands
    (c.in_default.ensures.heard start journal
    (stands_inside c.self.inside c.self.view_is start journal stands))

pub returns-clause-none : goal.returns-clause-none
returns-clause-none c =
    λ auto start journal stands.
    c.in_default.ensures.none auto start journal (stands_inside c.self.inside c.self.view_is start journal stands)

pub returns-clause-frames : goal.returns-clause-frames
returns-clause-frames c = ap (λ (w : World). w.frames + 1) c.self.view_is

pub returns-in-Err-clause-conduct : goal.returns-in-Err-clause-conduct
returns-in-Err-clause-conduct c =
    wanting _ _ _ _ _ c.take_back.ensures.fault (able_of c.self.inside c.self.view_is c.if-self.false) c.take_back.ensures.spent
    (c.take_back.ensures.back ∙ taken_back c.args.outbox.now c.hear.new.outbox c.len-begun.result c.len-begun.ensures c.hear.ensures.begins)

pub returns-clause-conduct : goal.returns-clause-conduct
returns-clause-conduct c = done _ _ _ _ tt (able_of c.self.inside c.self.view_is c.if-self.false) c.if-self.false

pub returns-clause-keeps : goal.returns-clause-keeps
returns-clause-keeps c =
    λ start journal stands.
    keeps_laws (c.self.invariant c.if-self.false).0.apart (c.in_default.ensures.heard start journal (stands_inside c.self.inside c.self.view_is start journal stands))

use Rattle.std.proofs.Common.{◌∙◌, sym}
use Rattle.vfs_world.specs.Running.{whole}
use Rattle.vfs_world.proofs.Serves.{turn_counts, turn_ends, turn_idle, turn_leads}
use Rattle.vfs_world.proofs.CallResults.{not_err, same_count}
use Rattle.vfs_world.proofs.Conduct.{done, wanting}
use Rattle.vfs_world.proofs.Worlds.{able_of, keeps_laws, leads_inside, runs_inside, stands_inside, taken_back}
use Rattle.vfs_world.proofs.world.World.turn.Goals as goal

pub turn-requires : goal.turn-requires
turn-requires c = record { running = runs_inside c.self.inside c.self.view_is c.self.invariant (able_of c.self.inside c.self.view_is c.if-self.false) }

pub returns-in-Ok-clause-turned : goal.returns-in-Ok-clause-turned
returns-in-Ok-clause-turned c =
    λ start journal stands.
    leads_inside c.self.inside c.self.view_is (whole c.turn.new.self) c.self.inside.frames stands
    (turn_leads (runs_inside c.self.inside c.self.view_is c.self.invariant stands.able).apart start journal c.args.server c.args.n c.in-Ok.done (whole c.self.inside.session) (whole c.turn.new.self) c.args.outbox.now c.turn.new.outbox
    (stands_inside c.self.inside c.self.view_is start journal stands)
    c.in-Ok.ensures.turned)

pub returns-in-Ok-clause-number : goal.returns-in-Ok-clause-number
returns-in-Ok-clause-number c =
    λ start journal stands.
    turn_counts (runs_inside c.self.inside c.self.view_is c.self.invariant stands.able).apart start journal c.args.server c.args.n c.in-Ok.done (whole c.self.inside.session) (whole c.turn.new.self) c.args.outbox.now c.turn.new.outbox
    (stands_inside c.self.inside c.self.view_is start journal stands)
    c.in-Ok.ensures.turned

pub returns-in-Ok-clause-fewer : goal.returns-in-Ok-clause-fewer
returns-in-Ok-clause-fewer c =
    λ start journal stands.
    turn_ends (runs_inside c.self.inside c.self.view_is c.self.invariant stands.able).apart start journal c.args.server c.args.n c.in-Ok.done (whole c.self.inside.session) (whole c.turn.new.self) c.args.outbox.now c.turn.new.outbox
    (stands_inside c.self.inside c.self.view_is start journal stands)
    c.in-Ok.ensures.turned

pub returns-in-Ok-clause-idle : goal.returns-in-Ok-clause-idle
returns-in-Ok-clause-idle c =
    λ start journal stands none.
    let told = c.in-Ok.ensures.idle (turn_idle start journal (whole c.self.inside.session) c.args.server (stands_inside c.self.inside c.self.view_is start journal stands) none) in
    same_count _ _ told

pub returns-in-Err-clause-idle : goal.returns-in-Err-clause-idle
returns-in-Err-clause-idle c =
    λ start journal stands none.
    let told = c.in-Err.ensures.idle (turn_idle start journal (whole c.self.inside.session) c.args.server (stands_inside c.self.inside c.self.view_is start journal stands) none) in
    absurd (not_err _ _ (sym told))

pub returns-in-Err-clause-conduct : goal.returns-in-Err-clause-conduct
returns-in-Err-clause-conduct c =
    wanting _ _ _ _ _ c.take_back.ensures.fault (able_of c.self.inside c.self.view_is c.if-self.false) c.take_back.ensures.spent
    (c.take_back.ensures.back ∙ taken_back c.args.outbox.now c.turn.new.outbox c.len-begun.result c.len-begun.ensures c.turn.ensures.begins)

pub returns-in-Ok-clause-conduct : goal.returns-in-Ok-clause-conduct
returns-in-Ok-clause-conduct c = done _ _ _ _ _ (able_of c.self.inside c.self.view_is c.if-self.false) c.if-self.false

pub returns-in-Ok-clause-keeps : goal.returns-in-Ok-clause-keeps
returns-in-Ok-clause-keeps c =
    λ start journal stands.
    let apart = (runs_inside c.self.inside c.self.view_is c.self.invariant stands.able).apart in
    keeps_laws apart
    (turn_leads apart start journal c.args.server c.args.n c.in-Ok.done (whole c.self.inside.session) (whole c.turn.new.self) c.args.outbox.now c.turn.new.outbox (stands_inside c.self.inside c.self.view_is start journal stands) c.in-Ok.ensures.turned)

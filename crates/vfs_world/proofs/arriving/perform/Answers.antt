use Rattle.std.proofs.Common.{subst}
use Rattle.fidl_names.specs.declared.limits.TheConstants as limit
use Rattle.link_frames.specs.Views.{frame_of}
use Rattle.vfs_journal.specs.Entries.{Sending}
use Rattle.vfs_world.specs.Running.{whole}
use Rattle.vfs_world.specs.Arrivals.{WaitsLast}
use Rattle.vfs_world.proofs.CallResults.{on_ok}
use Rattle.vfs_world.proofs.Hearing.{hang_up_can_wait, hang_up_lasts, hang_up_leads, message_can_wait, message_lasts, message_leads, pick_on, pick_same, runs_now, runs_on, turn_on, turn_same}
use Rattle.vfs_world.proofs.arriving.perform.Goals as goal

pub send_message-requires : goal.send_message-requires
send_message-requires c = record { room = message_can_wait c.requires.heard.before (whole c.args.session.now) (frame_of c.args.frame) c.requires.heard.running c.requires.heard.admitted c.in-Message.is; short = c.requires.frame.shape.few_bytes }

pub send-requires : goal.send-requires
send-requires c = record { room = hang_up_can_wait c.requires.heard.before (whole c.args.session.now) (frame_of c.args.frame) c.requires.heard.running c.requires.heard.admitted c.in-Close.is }

pub turn-requires : goal.turn-requires
turn-requires c =
    let heard = c.requires.heard in
    record { running = runs_now limit.MAX_PLACES heard.before (whole c.args.session.now) (turn_same heard.before (whole c.args.session.now) (frame_of c.args.frame) c.in-Turn.is heard.admitted) heard.running }

pub pick-requires : goal.pick-requires
pick-requires c =
    let heard = c.requires.heard in
    record { running = runs_now limit.MAX_PLACES heard.before (whole c.args.session.now) (pick_same heard.before (whole c.args.session.now) (frame_of c.args.frame) c.in-Pick.is heard.admitted) heard.running }

pub returns-in-Message-clause-arrived : goal.returns-in-Message-clause-arrived
returns-in-Message-clause-arrived c =
    λ before admitted start journal stands.
    on_ok c.send_message.result
    (message_leads c.requires.heard.running.apart start journal before (whole c.args.session.now) (whole c.send_message.new.self) (frame_of c.args.frame) c.args.outbox.now stands c.requires.frame c.in-Message.is admitted)
    c.send_message.ensures

pub returns-in-Message-clause-running : goal.returns-in-Message-clause-running
returns-in-Message-clause-running c =
    λ most before runs admitted.
    on_ok c.send_message.result
    (message_lasts most before (whole c.args.session.now) (whole c.send_message.new.self) (frame_of c.args.frame) runs c.requires.frame c.in-Message.is admitted) c.send_message.ensures

pub returns-in-Close-clause-arrived : goal.returns-in-Close-clause-arrived
returns-in-Close-clause-arrived c =
    λ before admitted start journal stands.
    on_ok c.send.result
    (λ waits. hang_up_leads c.requires.heard.running.apart start journal before (whole c.args.session.now) (whole c.send.new.self) (frame_of c.args.frame) c.args.outbox.now stands c.requires.frame c.in-Close.is admitted
    (subst (λ (sending : Sending). WaitsLast (whole c.args.session.now) c.args.frame.endpoint sending (whole c.send.new.self)) c.hang_up.ensures waits)) c.send.ensures

pub returns-in-Close-clause-running : goal.returns-in-Close-clause-running
returns-in-Close-clause-running c =
    λ most before runs admitted.
    on_ok c.send.result
    (λ waits. hang_up_lasts most before (whole c.args.session.now) (whole c.send.new.self) (frame_of c.args.frame) runs c.requires.frame c.in-Close.is admitted
    (subst (λ (sending : Sending). WaitsLast (whole c.args.session.now) c.args.frame.endpoint sending (whole c.send.new.self)) c.hang_up.ensures waits)) c.send.ensures

pub returns-in_ok-turn-in-Turn-clause-arrived : goal.returns-in_ok-turn-in-Turn-clause-arrived
returns-in_ok-turn-in-Turn-clause-arrived c =
    λ before admitted start journal stands.
    turn_on c.requires.heard.running.apart start journal before (whole c.args.session.now) (whole c.turn.new.self) (frame_of c.args.frame) c.word_in.result _ c.args.outbox.now c.turn.new.outbox stands c.in-Turn.is admitted c.word_in.ensures
    c.in_ok-turn-in-Turn.ensures.turned

pub returns-in_ok-turn-in-Turn-clause-running : goal.returns-in_ok-turn-in-Turn-clause-running
returns-in_ok-turn-in-Turn-clause-running c =
    λ most before runs admitted.
    runs_on most (whole c.turn.new.self)
    (c.in_ok-turn-in-Turn.ensures.running most (runs_now most before (whole c.args.session.now) (turn_same before (whole c.args.session.now) (frame_of c.args.frame) c.in-Turn.is admitted) runs))

pub returns-in_ok-pick-in-Pick-clause-arrived : goal.returns-in_ok-pick-in-Pick-clause-arrived
returns-in_ok-pick-in-Pick-clause-arrived c =
    λ before admitted start journal stands.
    pick_on c.requires.heard.running.apart start journal before (whole c.args.session.now) (whole c.pick.new.self) (frame_of c.args.frame) c.args.outbox.now c.pick.new.outbox stands c.in-Pick.is admitted
    c.in_ok-pick-in-Pick.ensures.picked

pub returns-in_ok-pick-in-Pick-clause-running : goal.returns-in_ok-pick-in-Pick-clause-running
returns-in_ok-pick-in-Pick-clause-running c =
    λ most before runs admitted.
    runs_on most (whole c.pick.new.self)
    (c.in_ok-pick-in-Pick.ensures.running most (runs_now most before (whole c.args.session.now) (pick_same before (whole c.args.session.now) (frame_of c.args.frame) c.in-Pick.is admitted) runs))

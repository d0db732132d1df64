-- The connections serve, the watchers are told, and what is left is settled.
use Rattle.std.proofs.Common.{◌≡◌, ◌∙◌, [], ap, append-nil, refl, subst, sym}
use Rattle.node_graph.specs.Graph.{Kept}
use Rattle.watch_events.proofs.Told.{for_want}
use Rattle.vfs_journal.specs.Handles.{numbers_of}
use Rattle.vfs_journal.specs.Serving.{Moment, outcome_of_sending}
use Rattle.vfs_server.specs.declared.fate.Fate.{Fate}
use Rattle.vfs_server.specs.Servers.{Server, in_use}
use Rattle.vfs_server.specs.Serving.{CanTake, IsMomentOf, Serves, message_of}
use Rattle.vfs_server.proofs.Acted.{begins_now, begins_on, can_settle_now, can_tell_now, serves_now, sound_now}
use Rattle.vfs_server.proofs.Answering.{ok_map}
use Rattle.vfs_server.proofs.Binding.{in_use_is, server_of}
use Rattle.vfs_server.proofs.server.Server.act.Goals as goal

pub serve-requires-clause-can : goal.serve-requires-clause-can
serve-requires-clause-can c connection there =
    let takes = subst (λ (server : Server). CanTake server c.args.message.now.endpoint c.args.token (numbers_of c.args.message.now.handles.now)) (sym c.self.view_is) c.requires.can in
    record {
      tree = (takes.moment.0.tree, takes.moment.1.tree);
      made = takes.made;
      node = c.self.invariant.each c.args.message.now.endpoint connection there;
      directories = c.self.invariant.named;
    }

pub invariant_of-self : goal.invariant_of-self
invariant_of-self c =
    sound_now c.self.inside.graph c.serve.new.graph c.self.inside.connections c.serve.new.self c.self.inside.watching c.self.inside.tokens c.args.message.now.endpoint c.self.invariant
    (λ old there. let one = c.serve.ensures.served old there in (one.0, one.1, one.2))
    (λ none. let same = c.serve.ensures.unchanged none in (same.0, same.1))

pub invariant_of-self-in_err-tell : goal.invariant_of-self-in_err-tell
invariant_of-self-in_err-tell c =
    sound_now c.self.inside.graph c.serve.new.graph c.self.inside.connections c.serve.new.self c.self.inside.watching c.self.inside.tokens c.args.message.now.endpoint c.self.invariant
    (λ old there. let one = c.serve.ensures.served old there in (one.0, one.1, one.2))
    (λ none. let same = c.serve.ensures.unchanged none in (same.0, same.1))

pub invariant_of-self-2 : goal.invariant_of-self-2
invariant_of-self-2 c =
    sound_now c.self.inside.graph c.serve.new.graph c.self.inside.connections c.serve.new.self c.self.inside.watching c.self.inside.tokens c.args.message.now.endpoint c.self.invariant
    (λ old there. let one = c.serve.ensures.served old there in (one.0, one.1, one.2))
    (λ none. let same = c.serve.ensures.unchanged none in (same.0, same.1))

pub tell-requires : goal.tell-requires
tell-requires c =
    let takes = subst (λ (server : Server). CanTake server c.args.message.now.endpoint c.args.token (numbers_of c.args.message.now.handles.now)) (sym c.self.view_is) c.requires.can in
    let used = c.connections.ensures ∙ ap in_use (sym c.self.view_is) ∙ in_use_is c.self.inside.index c.self.inside.graph c.self.inside.connections c.self.inside.watching c.self.inside.tokens in
    record {
      can =
          can_tell_now c.self.inside.index c.self.inside.graph c.serve.new.graph c.self.inside.connections c.serve.new.self c.self.inside.watching c.self.inside.tokens c.self.invariant
          _ used refl refl c.args.message.now c.requires.handles takes c.in_ok-deed.deed c.serve.new.changes c.args.outbox.now c.serve.new.outbox
          c.in_ok-deed.ensures.served c.in_ok-deed.ensures.passed_over c.in_ok-deed.ensures.unchanged;
    }

pub returns-in_err-deed-clause-front : goal.returns-in_err-deed-clause-front
returns-in_err-deed-clause-front c = for_want c.from_residual.result ([], c.in_err-deed.ensures.no_memory ∙ sym (append-nil c.args.outbox.now))

pub returns-in_err-tell-clause-front : goal.returns-in_err-tell-clause-front
returns-in_err-tell-clause-front c =
    let takes = subst (λ (server : Server). CanTake server c.args.message.now.endpoint c.args.token (numbers_of c.args.message.now.handles.now)) (sym c.self.view_is) c.requires.can in
    let used = c.connections.ensures ∙ ap in_use (sym c.self.view_is) ∙ in_use_is c.self.inside.index c.self.inside.graph c.self.inside.connections c.self.inside.watching c.self.inside.tokens in
    for_want c.from_residual-in_err-tell.result
    (begins_on c.args.outbox.now c.serve.new.outbox c.tell.new.outbox
    (begins_now c.self.inside.index c.self.inside.graph c.serve.new.graph c.self.inside.connections c.serve.new.self c.self.inside.watching c.self.inside.tokens c.self.invariant
    _ used refl refl c.args.message.now c.requires.handles takes c.in_ok-deed.deed c.serve.new.changes c.args.outbox.now c.serve.new.outbox
    c.in_ok-deed.ensures.served c.in_ok-deed.ensures.passed_over c.in_ok-deed.ensures.unchanged)
    c.in_err-tell.ensures.front)

pub settle-requires : goal.settle-requires
settle-requires c =
    let takes = subst (λ (server : Server). CanTake server c.args.message.now.endpoint c.args.token (numbers_of c.args.message.now.handles.now)) (sym c.self.view_is) c.requires.can in
    let used = c.connections.ensures ∙ ap in_use (sym c.self.view_is) ∙ in_use_is c.self.inside.index c.self.inside.graph c.self.inside.connections c.self.inside.watching c.self.inside.tokens in
    record {
      can =
          can_settle_now c.self.inside.index c.self.inside.graph c.serve.new.graph c.self.inside.connections c.serve.new.self c.self.inside.watching c.self.inside.tokens c.self.invariant
          _ used refl refl c.args.message.now c.requires.handles takes c.in_ok-deed.deed c.serve.new.changes c.args.outbox.now c.serve.new.outbox
          c.in_ok-deed.ensures.served c.in_ok-deed.ensures.passed_over c.in_ok-deed.ensures.unchanged c.tell.new.outbox c.in_ok-tell.ensures.told;
    }

pub returns-clause-serves : goal.returns-clause-serves
returns-clause-serves c moment asked =
    let takes = subst (λ (server : Server). CanTake server c.args.message.now.endpoint c.args.token (numbers_of c.args.message.now.handles.now)) (sym c.self.view_is) c.requires.can in
    let used = c.connections.ensures ∙ ap in_use (sym c.self.view_is) ∙ in_use_is c.self.inside.index c.self.inside.graph c.self.inside.connections c.self.inside.watching c.self.inside.tokens in
    let here = subst (λ (server : Server). IsMomentOf server c.args.message.now.endpoint c.args.token (numbers_of c.args.message.now.handles.now) moment) (sym c.self.view_is) asked in
    ok_map _ _ c.settle.result
    (λ fate settles.
    subst (λ (server : Server). Serves moment (outcome_of_sending moment (message_of c.args.message.now)) fate server c.settle.new.self c.args.outbox.now c.tell.new.outbox) c.self.view_is
    (serves_now c.self.inside.index c.self.inside.graph c.serve.new.graph c.self.inside.connections c.serve.new.self c.self.inside.watching c.self.inside.tokens c.self.invariant
    _ used refl refl c.args.message.now c.requires.handles takes c.in_ok-deed.deed c.serve.new.changes c.args.outbox.now c.serve.new.outbox
    c.in_ok-deed.ensures.served c.in_ok-deed.ensures.passed_over c.in_ok-deed.ensures.unchanged c.tell.new.outbox c.in_ok-tell.ensures.told
    c.settle.new.self fate settles moment here))
    c.settle.ensures

pub returns-clause-front : goal.returns-clause-front
returns-clause-front c =
    let takes = subst (λ (server : Server). CanTake server c.args.message.now.endpoint c.args.token (numbers_of c.args.message.now.handles.now)) (sym c.self.view_is) c.requires.can in
    let used = c.connections.ensures ∙ ap in_use (sym c.self.view_is) ∙ in_use_is c.self.inside.index c.self.inside.graph c.self.inside.connections c.self.inside.watching c.self.inside.tokens in
    for_want c.settle.result
    (begins_on c.args.outbox.now c.serve.new.outbox c.tell.new.outbox
    (begins_now c.self.inside.index c.self.inside.graph c.serve.new.graph c.self.inside.connections c.serve.new.self c.self.inside.watching c.self.inside.tokens c.self.invariant
    _ used refl refl c.args.message.now c.requires.handles takes c.in_ok-deed.deed c.serve.new.changes c.args.outbox.now c.serve.new.outbox
    c.in_ok-deed.ensures.served c.in_ok-deed.ensures.passed_over c.in_ok-deed.ensures.unchanged)
    (_, c.in_ok-tell.ensures.told))

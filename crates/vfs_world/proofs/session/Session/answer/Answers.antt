use Rattle.std.proofs.Common.{refl}
use Rattle.std.proofs.lemmas.Option.{slice_get_read}
use Rattle.link_admission.specs.Standings.{next_token_of}
use Rattle.vfs_world.proofs.Answered.{begins_by, can_take, hang_up_answers, served_answers}
use Rattle.vfs_world.proofs.session.Session.answer.Goals as goal

pub serve-requires-clause-can : goal.serve-requires-clause-can
serve-requires-clause-can c =
    let there = slice_get_read c.args.self.now.servers.items _ c.args.server c.index_mut-one.result.now refl c.requires.within c.index_mut-one.ensures.value in
    can_take _ c.args.endpoint _ _ c.args.sent.now.sending _ _ (c.requires.can c.index_mut-one.result.now there) c.next_token-token.ensures c.in-Some.ensures.parts.0

pub returns-clause-answers : goal.returns-clause-answers
returns-clause-answers c =
    served_answers c.args.self.now.servers.items c.args.server c.args.endpoint (next_token_of c.args.self.now.endpoints) c.next_token-token.result c.args.sent.now _ _ _ _ c.serve.result _
    (slice_get_read c.args.self.now.servers.items _ c.args.server c.index_mut-one.result.now refl c.requires.within c.index_mut-one.ensures.value) c.in-Some.ensures.parts.0 c.next_token-token.ensures c.serve.ensures.serves

pub returns-clause-begins : goal.returns-clause-begins
returns-clause-begins c =
    let there = slice_get_read c.args.self.now.servers.items _ c.args.server c.index_mut-one.result.now refl c.requires.within c.index_mut-one.ensures.value in
    let can = can_take _ c.args.endpoint _ _ c.args.sent.now.sending _ _ (c.requires.can c.index_mut-one.result.now there) c.next_token-token.ensures c.in-Some.ensures.parts.0 in
    begins_by _ _ _ _ _ _ c.serve.result (c.serve.ensures.serves can.moment.0 can.moment.1) c.serve.ensures.no_memory

pub returns-in_default-clause-answers : goal.returns-in_default-clause-answers
returns-in_default-clause-answers c =
    hang_up_answers c.args.self.now.servers.items c.args.server c.args.endpoint (next_token_of c.args.self.now.endpoints) c.args.sent.now c.args.outbox.now (c.in_default.ensures.none refl)

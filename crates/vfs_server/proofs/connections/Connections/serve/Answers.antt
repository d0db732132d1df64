use Rattle.std.proofs.Common.{◌≡◌, ℕ, IfOk, None, Some, eqb, refl, subst, sym}
use Rattle.std.specs.Prelude.{IsSome}
use Rattle.std.specs.Map.{lookup}
use Rattle.conn_rules.specs.Births.{Connection}
use Rattle.conn_rules.specs.Served.{KeepsHolds}
use Rattle.io_messages.specs.Requests.{request_of}
use Rattle.vfs_journal.specs.Handles.{numbers_of}
use Rattle.vfs_journal.specs.Serving.{Moment, outcome_of_read}
use Rattle.vfs_server.specs.Steps.{Answers, AreNamed, IsAskedAt, connection_of, done_with}
use Rattle.vfs_server.proofs.Found.{kind_put, none_seen, not_none, seen_put, seen_same, seen_there}
use Rattle.vfs_server.proofs.connections.Connections.serve.Goals as goal

pub serve-requires-clause-kind : goal.serve-requires-clause-kind
serve-requires-clause-kind c = c.self.invariant c.args.asking.now.endpoint c.in-Some.connection.now (sym c.in-Some.ensures.value)

pub serve-requires-clause-can : goal.serve-requires-clause-can
serve-requires-clause-can c =
    c.requires.can (connection_of c.in-Some.connection.now)
    (seen_there c.self.inside.kept.entries c.args.self.now c.args.asking.now.endpoint c.in-Some.connection.now c.self.view_is c.in-Some.ensures.value)

pub invariant_of-self-2 : goal.invariant_of-self-2
invariant_of-self-2 c =
    kind_put c.self.inside.kept.entries _ c.args.asking.now.endpoint c.serve.new.self
    ((c.get_mut.follows.holds c.serve.new.self).3 (subst IsSome c.in-Some.ensures.value refl)).0 c.self.invariant c.serve.ensures.kind

pub returns-clause-served : goal.returns-clause-served
returns-clause-served c old is =
    let endpoint = c.args.asking.now.endpoint in
    let entries = c.self.inside.kept.entries in
    let new = c.serve.new.self in
    let same = seen_same entries c.args.self.now endpoint c.in-Some.connection.now old c.self.view_is c.in-Some.ensures.value is in
    let there : IsSome (lookup (eqb endpoint) entries) = subst IsSome c.in-Some.ensures.value refl in (
      connection_of new,
      subst (λ (was : Connection). KeepsHolds was (connection_of new) c.args.graph.now c.serve.new.graph) same c.serve.ensures.holds,
      seen_put entries (c.get_mut.follows.lender new).entries c.args.self.now endpoint new c.self.view_is ((c.get_mut.follows.holds new).3 there).0,
      c.serve.ensures.tells,
      subst
          (λ (was : Connection). (server : ℕ) (moment : Moment) → IsAskedAt server c.args.asking.now c.args.graph.now was moment →
          AreNamed c.args.asking.now.tokens.now (numbers_of c.args.message.now.handles.now) moment.directory →
          IfOk c.serve.result (λ fate. Answers moment (outcome_of_read moment (request_of was.birth.protocol c.args.message.now.bytes.now c.args.message.now.handles.now)) (done_with fate c.serve.new.changes) (connection_of new) c.args.graph.now c.serve.new.graph c.args.outbox.now c.serve.new.outbox))
          same c.serve.ensures.answers,
    )

pub returns-clause-passed_over : goal.returns-clause-passed_over
returns-clause-passed_over c none =
    absurd (not_none c.args.self.now c.args.asking.now.endpoint (connection_of c.in-Some.connection.now) (seen_there c.self.inside.kept.entries c.args.self.now c.args.asking.now.endpoint c.in-Some.connection.now c.self.view_is c.in-Some.ensures.value) none)

pub returns-clause-unchanged : goal.returns-clause-unchanged
returns-clause-unchanged c none =
    absurd (not_none c.args.self.now c.args.asking.now.endpoint (connection_of c.in-Some.connection.now) (seen_there c.self.inside.kept.entries c.args.self.now c.args.asking.now.endpoint c.in-Some.connection.now c.self.view_is c.in-Some.ensures.value) none)

pub returns-in_default-clause-served : goal.returns-in_default-clause-served
returns-in_default-clause-served c old is =
    absurd (not_none c.args.self.now c.args.asking.now.endpoint old is (none_seen c.self.inside.kept.entries c.args.self.now c.args.asking.now.endpoint c.self.view_is c.in_default.ensures.value))

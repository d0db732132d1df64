use Rattle.std.proofs.Common.{◌≡◌, ◌∙◌, true, None, Some, ap, refl, subst, sym}
use Rattle.std.specs.Prelude.{IsSome}
use Rattle.std.specs.FinMap as finite
use Rattle.io_messages.specs.Asked.{asked}
use Rattle.io_messages.specs.declared.protocols.Protocol.TheVariants as protocol
use Rattle.conn_rules.specs.Births.{Connection}
use Rattle.vfs_server.specs.Steps.{IsPartServed, connection_of}
use Rattle.vfs_server.proofs.Found.{kind_put, none_seen, not_none, put_same, seen_put, seen_same, seen_there}
use Rattle.vfs_server.proofs.connections.Connections.read.Goals as goal

pub read-requires-clause-kind : goal.read-requires-clause-kind
read-requires-clause-kind c = c.self.invariant c.args.endpoint c.in-Some.connection.now (sym c.in-Some.ensures.value)

pub read-requires-clause-node : goal.read-requires-clause-node
read-requires-clause-node c =
    c.requires.node (connection_of c.in-Some.connection.now) (seen_there c.self.inside.kept.entries c.args.self.now c.args.endpoint c.in-Some.connection.now c.self.view_is c.in-Some.ensures.value)

pub invariant_of-self-2 : goal.invariant_of-self-2
invariant_of-self-2 c =
    kind_put c.self.inside.kept.entries _ c.args.endpoint c.read.new.self
    ((c.get_mut.follows.holds c.read.new.self).3 (subst IsSome c.in-Some.ensures.value refl)).0 c.self.invariant c.read.ensures.kind

pub returns-clause-read : goal.returns-clause-read
returns-clause-read c old is done =
    let new = c.read.new.self in
    let same = seen_same c.self.inside.kept.entries c.args.self.now c.args.endpoint c.in-Some.connection.now old c.self.view_is c.in-Some.ensures.value is in (
      subst (λ (was : Connection). was.birth.protocol ≡ protocol.File) same (c.read.ensures.file done),
      connection_of new,
      subst (λ (was : Connection). IsPartServed was (asked c.args.request.now) c.args.txid c.read.new.out (connection_of new) c.args.graph.now c.read.new.graph) same (c.read.ensures.served done),
      seen_put c.self.inside.kept.entries (c.get_mut.follows.lender new).entries c.args.self.now c.args.endpoint new c.self.view_is
          ((c.get_mut.follows.holds new).3 (subst IsSome c.in-Some.ensures.value refl)).0,
    )

pub returns-clause-reads : goal.returns-clause-reads
returns-clause-reads c old is =
    subst (λ (was : Connection). was.birth.protocol ≡ protocol.File → c.read.result ≡ true)
    (seen_same c.self.inside.kept.entries c.args.self.now c.args.endpoint c.in-Some.connection.now old c.self.view_is c.in-Some.ensures.value is)
    c.read.ensures.reads

pub returns-clause-there : goal.returns-clause-there
returns-clause-there c none =
    absurd (not_none c.args.self.now c.args.endpoint (connection_of c.in-Some.connection.now) (seen_there c.self.inside.kept.entries c.args.self.now c.args.endpoint c.in-Some.connection.now c.self.view_is c.in-Some.ensures.value) none)

pub returns-clause-unchanged : goal.returns-clause-unchanged
returns-clause-unchanged c none =
    let same = c.read.ensures.unchanged none in (
      seen_put c.self.inside.kept.entries (c.get_mut.follows.lender c.read.new.self).entries c.args.self.now c.args.endpoint c.read.new.self c.self.view_is
          ((c.get_mut.follows.holds c.read.new.self).3 (subst IsSome c.in-Some.ensures.value refl)).0
          ∙ ap (λ one. finite.insert c.args.self.now c.args.endpoint (connection_of one)) same.0
          ∙ put_same c.args.self.now c.args.endpoint (connection_of c.in-Some.connection.now) (seen_there c.self.inside.kept.entries c.args.self.now c.args.endpoint c.in-Some.connection.now c.self.view_is c.in-Some.ensures.value),
      same.1,
    )

pub returns-in_default-clause-reads : goal.returns-in_default-clause-reads
returns-in_default-clause-reads c old is file =
    absurd (not_none c.args.self.now c.args.endpoint old is (none_seen c.self.inside.kept.entries c.args.self.now c.args.endpoint c.self.view_is c.in_default.ensures.value))

use Rattle.std.proofs.Common.{◌≡◌, Some, ap, subst, ◌∙◌}
use Rattle.std.specs.FinMap as finite
use Rattle.link_admission.proofs.Tabled.{changes-table, map-insert}
use Rattle.conn_rules.specs.Births.{Connection, fresh}
use Rattle.vfs_server.specs.declared.conn.Conn.{Conn}
use Rattle.vfs_server.specs.Steps.{IsOfItsKind, connection_of, seen_in}
use Rattle.vfs_server.proofs.Found.{kinds_updated, seen_updates}
use Rattle.vfs_server.proofs.connections.Connections.insert.Goals as goal

pub invariant_of-self-2 : goal.invariant_of-self-2
invariant_of-self-2 c =
    kinds_updated c.self.inside.kept.entries c.insert.new.self.entries c.args.endpoint (Some c.in_ok-conn.conn) c.in_ok-insert.ensures.updates.0 c.self.invariant
    (λ one is. let same : c.in_ok-conn.conn ≡ one = cc in subst IsOfItsKind same c.in_ok-conn.ensures.kind)

pub returns-clause-inserted : goal.returns-clause-inserted
returns-clause-inserted c =
    let seen : connection_of c.in_ok-conn.conn ≡ record { birth = c.args.birth; position = fresh } = λ i. record { birth = c.in_ok-conn.ensures.birth i; position = c.in_ok-conn.ensures.position i } in
    map-insert (finite.from_entries (seen_in c.self.inside.kept.entries)) (finite.from_entries (seen_in c.insert.new.self.entries)) c.args.endpoint (connection_of c.in_ok-conn.conn)
    (changes-table (seen_in c.self.inside.kept.entries) (seen_in c.insert.new.self.entries) c.args.endpoint (Some (connection_of c.in_ok-conn.conn))
    (seen_updates c.self.inside.kept.entries c.insert.new.self.entries c.args.endpoint (Some c.in_ok-conn.conn) c.in_ok-insert.ensures.updates.0))
    ∙ ap (λ m. finite.insert m c.args.endpoint (connection_of c.in_ok-conn.conn)) c.self.view_is
    ∙ ap (λ (connection : Connection). finite.insert c.args.self.now c.args.endpoint connection) seen

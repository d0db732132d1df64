-- Where the connection appends, a Write begins at the file's end.
use Rattle.std.proofs.Common.{◌≡◌, ◌∙◌, Bool, ap, length, subst, sym}
use Rattle.std.specs.Prelude.{if◌then◌else◌}
use Rattle.node_graph.specs.Graph.{bytes_at, number_of}
use Rattle.conn_rules.specs.Births.{Connection}
use Rattle.file_conn.proofs.connection.FileConn.write_start.Goals as goal

pub returns-then-self : goal.returns-then-self
returns-then-self c =
    let end = length (bytes_at c.args.graph.now (number_of c.self.inside.birth.node)) in
    subst (λ (conn : Connection). length c.bytes.result.now ≡ (if conn.birth.append then length (bytes_at c.args.graph.now (number_of conn.birth.node)) else conn.position.offset)) c.self.view_is
    (ap length c.bytes.ensures ∙ ap (λ (b : Bool). if b then end else c.self.inside.position) (sym c.if-self.true))

use Rattle.std.proofs.Common.{ap}
use Rattle.conn_rules.proofs.Taking.{refused_is_served, taken_as_row, taken_is_served}
use Rattle.file_conn.proofs.connection.FileConn.serve.Goals as goal

pub returns-in-Some-clause-serves : goal.returns-in-Some-clause-serves
returns-in-Some-clause-serves c tree directory stands served =
    refused_is_served c.self.inside.birth c.args.self.now c.args.room tree directory _ _ _ _ _ _ _ (ap (λ conn. conn.birth) c.self.view_is) c.method-method.ensures c.in-Some.ensures.first
    (c.fail.ensures.served c.args.self.now c.args.graph.now)

pub returns-in-None-clause-serves : goal.returns-in-None-clause-serves
returns-in-None-clause-serves c tree directory stands served =
    taken_is_served c.self.inside.birth c.args.self.now c.args.room tree directory _ _ _ _ _ _ _ _ (ap (λ conn. conn.birth) c.self.view_is) c.method-method.ensures c.in-None.ensures.first
    (c.serve_row.ensures.serves tree directory stands served)

pub returns-in-None-clause-memory : goal.returns-in-None-clause-memory
returns-in-None-clause-memory c tree directory stands wants =
    rw (taken_as_row c.self.inside.birth c.args.self.now c.args.room tree directory _ _ (ap (λ conn. conn.birth) c.self.view_is) c.method-method.ensures c.in-None.ensures.first)
    (c.serve_row.ensures.memory tree directory stands wants)

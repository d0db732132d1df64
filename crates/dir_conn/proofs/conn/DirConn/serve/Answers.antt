-- A refusal for the method stands before the rows.
use Rattle.std.proofs.Common.{◌≡◌, true, ap, refl, subst}
use Rattle.io_messages.specs.Asked.{asked}
use Rattle.conn_rules.specs.Acts.{act_of}
use Rattle.conn_rules.specs.Answers.{failure_of, only}
use Rattle.conn_rules.specs.Births.{Connection, connection_with}
use Rattle.conn_rules.specs.Contexts.{context_of}
use Rattle.conn_rules.specs.Served.{takes_memory}
use Rattle.conn_rules.proofs.Taking.{refused_as_failure, taken_as_row}
use Rattle.dir_conn.specs.Served.{IsDirServed, standing_at}
use Rattle.dir_conn.proofs.conn.DirConn.serve.Goals as goal

pub returns-in-Some-clause-serves : goal.returns-in-Some-clause-serves
returns-in-Some-clause-serves c = λ tree directory stands named some.
    let same : c.self.inside.birth ≡ c.args.self.now.birth = ap (λ conn. conn.birth) c.self.view_is in
    rw (
    refused_as_failure c.self.inside.birth c.args.self.now c.args.room tree directory (asked c.args.request) c.method-method.result
    c.in-Some.status same c.method-method.ensures c.in-Some.ensures.first
    )
    (c.of_node.ensures.served (only c.args.self.now.position (failure_of c.method-method.result c.in-Some.status)) c.args.txid c.fail.new.out
    c.args.self.now c.args.graph.now (c.fail.ensures.served c.args.self.now c.args.graph.now))

pub returns-in-None-clause-serves : goal.returns-in-None-clause-serves
returns-in-None-clause-serves c = λ tree directory stands named some.
    let now = connection_with c.self.inside.birth (standing_at c.serve_row.new.place) in
    subst
    (λ (was : Connection). IsDirServed (act_of (context_of was c.args.room tree directory) (asked c.args.request)) c.args.txid c.serve_row.result
    c.serve_row.new.out now c.args.graph.now c.serve_row.new.graph) c.self.view_is
    (rw (
    taken_as_row c.self.inside.birth (connection_with c.self.inside.birth (standing_at c.self.inside.place)) c.args.room tree directory
    (asked c.args.request) c.method-method.result refl c.method-method.ensures c.in-None.ensures.first
    )
    (c.serve_row.ensures.served tree directory stands named some))

pub returns-in-None-clause-memory : goal.returns-in-None-clause-memory
returns-in-None-clause-memory c = λ tree directory stands named wants.
    subst (λ (was : Connection). takes_memory (act_of (context_of was c.args.room tree directory) (asked c.args.request)).change ≡ true)
    c.self.view_is
    (rw (
    taken_as_row c.self.inside.birth (connection_with c.self.inside.birth (standing_at c.self.inside.place)) c.args.room tree directory
    (asked c.args.request) c.method-method.result refl c.method-method.ensures c.in-None.ensures.first
    )
    (c.serve_row.ensures.memory tree directory stands named wants))

pub returns-in-Some-clause-holds : goal.returns-in-Some-clause-holds
returns-in-Some-clause-holds c = record { birth = refl; holds = λ number. refl; names = λ node named keep. (named, refl) }

pub returns-in-Some-clause-memory : goal.returns-in-Some-clause-memory
returns-in-Some-clause-memory c = λ tree directory stands named wants. absurd (c.of_node.ensures.memory c.fail.ensures.memory wants)

pub returns-in-Some-clause-untouched : goal.returns-in-Some-clause-untouched
returns-in-Some-clause-untouched c = λ wants. absurd (c.of_node.ensures.memory c.fail.ensures.memory wants)

pub returns-in-None-clause-holds : goal.returns-in-None-clause-holds
returns-in-None-clause-holds c = record { birth = ap (λ conn. conn.birth) c.self.view_is; holds = c.serve_row.ensures.keeps.holds; names = c.serve_row.ensures.keeps.names }

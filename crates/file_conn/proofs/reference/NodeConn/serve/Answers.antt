use Rattle.std.proofs.Common.{◌≡◌, ap}
use Rattle.io_messages.specs.Asked.{asked}
use Rattle.conn_rules.proofs.Taking.{refused_is_served, taken_is_served}
use Rattle.file_conn.proofs.reference.NodeConn.serve.Goals as goal
use Rattle.file_conn.proofs.reference.NodeConn.serve.Goals.{in-Some, in-None}

pub returns-clause-serves : goal.returns-clause-serves
returns-clause-serves c tree directory stands some =
    let same : c.self.inside.birth ≡ c.args.self.now.birth = ap (λ conn. conn.birth) c.self.view_is in
    elim c.match-method_refusal.branch [
      | in-Some w ↦
          rw (w.out-is, w.result-is)
          (refused_is_served c.self.inside.birth c.args.self.now c.args.room tree directory (asked c.args.request.now) c.method-method.result w.in-Some.status
          c.args.txid w.fail.result w.fail.new.out c.args.graph.now same c.method-method.ensures w.in-Some.ensures.first
          (w.fail.ensures.served c.args.self.now c.args.graph.now))
      | in-None w ↦
          rw (w.out-is, w.result-is)
          (taken_is_served c.self.inside.birth c.args.self.now c.args.room tree directory (asked c.args.request.now) c.method-method.result
          c.args.txid w.serve_node.result w.serve_node.new.out c.args.self.now c.args.graph.now c.args.graph.now same c.method-method.ensures w.in-None.ensures.first
          (rw same at w.serve_node.ensures.served c.args.self.now.position tree directory stands))
    ]

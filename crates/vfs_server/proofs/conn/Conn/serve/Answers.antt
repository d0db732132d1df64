use Rattle.std.proofs.Common.{◌≡◌, ◌≤◌, ◌∙◌, ℕ, List, true, length, ap, refl, subst, sym}
use Rattle.fidl_names.specs.declared.limits.TheConstants as limit
use Rattle.fidl_names.specs.declared.methods.Handle.{Handle}
use Rattle.io_messages.specs.declared.protocols.Protocol.{Protocol}
use Rattle.node_graph.specs.Graph.{Kept}
use Rattle.vfs_server.specs.declared.asking.Asking.{Asking}
use Rattle.io_messages.specs.Asked.{Asked, asked, method_of}
use Rattle.io_messages.specs.Protocols.{has_method}
use Rattle.io_messages.specs.Requests.{Reads, has_txid, request_of}
use Rattle.io_messages.specs.Shapes.{is_one_way}
use Rattle.io_messages.proofs.Known.{method_asked}
use Rattle.file_conn.proofs.Echoes.{read_text}
use Rattle.request_reader.proofs.Carrying.{carries}
use Rattle.conn_rules.specs.Births.{Connection}
use Rattle.vfs_journal.specs.Serving.{object_of, outcome_of_read}
use Rattle.vfs_server.specs.declared.deed.Deed.{Deed}
use Rattle.vfs_server.specs.Steps.{Answers, CanServe, DoesGiven, IsAskedAt, IsRequestTo, connection_of, done_with, given_by, told_in}
use Rattle.vfs_server.proofs.Answering.{binds_connection, can_tell, fault_answers, fault_tells, ok_and, ok_map, request_answers}
use Rattle.vfs_server.proofs.Carried.{target_named}
use Rattle.vfs_server.proofs.Giving.{all_kept}
use Rattle.vfs_server.proofs.conn.Conn.serve.Goals as goal

-- what was read by the connection's protocol is a request to it
request_to : (p : Protocol) (bytes : List ℕ) (handles : List Handle) (txid : ℕ) (request : Asked) → Reads p bytes handles txid request → length bytes ≤ limit.MAX_BYTES → IsRequestTo p txid request
request_to p bytes handles txid request found short =
    let read = found.is_asked in
    record {
      method = found.known;
      txid = ap (λ m. has_txid (is_one_way m) txid) (method_asked bytes handles txid request read) ∙ read.way;
      echo = λ is. read_text bytes handles txid request (subst (λ one. Reads one bytes handles txid request) is found) short;
    }

pub answer-given-requires-clause-request : goal.answer-given-requires-clause-request
answer-given-requires-clause-request c =
    subst (λ p. IsRequestTo p c.in-Ok.txid (asked c.in-Ok.request)) c.protocol.ensures
    (request_to c.protocol.result c.args.message.now.bytes.now c.args.message.now.handles.now c.in-Ok.txid (asked c.in-Ok.request) c.in-Ok.ensures.found c.requires.short)

-- what was read is the connection's own
read_here : (c : goal.After-answer) → Reads (connection_of c.args.self.now).birth.protocol c.args.message.now.bytes.now c.args.message.now.handles.now c.in-Ok.txid (asked c.in-Ok.request)
read_here c = subst (λ p. Reads p c.args.message.now.bytes.now c.args.message.now.handles.now c.in-Ok.txid (asked c.in-Ok.request)) c.protocol.ensures c.in-Ok.ensures.found

-- what was done, by the connection's node and the request's endpoint
does : (c : goal.After-answer) (deed : Deed) →
    DoesGiven c.args.asking.now.endpoint c.object_of.result c.node.result (given_by c.answer-given.result) c.answer-given.new.out deed c.args.outbox.now c.answer.new.outbox →
    DoesGiven c.args.asking.now.endpoint (object_of (asked c.in-Ok.request)) (connection_of c.args.self.now).birth.node (given_by c.answer-given.result) c.answer-given.new.out deed c.args.outbox.now c.answer.new.outbox
does c deed done =
    subst (λ object. DoesGiven c.args.asking.now.endpoint object (connection_of c.args.self.now).birth.node (given_by c.answer-given.result) c.answer-given.new.out deed c.args.outbox.now c.answer.new.outbox)
    c.object_of.ensures
    (subst (λ node. DoesGiven c.args.asking.now.endpoint c.object_of.result node (given_by c.answer-given.result) c.answer-given.new.out deed c.args.outbox.now c.answer.new.outbox)
    (c.node.ensures ∙ ap (λ birth. birth.node) c.answer-given.ensures.holds.birth) done)

pub answer-requires : goal.answer-requires
answer-requires c = record {
  connection =
      let can = c.requires.can in
      binds_connection c.args.graph.now c.args.asking.now.tokens.now (connection_of c.args.self.now) can.node can.tree c.args.asking.now (asked c.in-Ok.request)
      (subst (λ p. has_method p (method_of (asked c.in-Ok.request)) ≡ true) c.protocol.ensures c.in-Ok.ensures.found.known) c.in-Ok.txid (given_by c.answer-given.result) (told_in c.answer-given.result) c.answer-given.new.out
      (connection_of c.answer-given.new.self) c.answer-given.new.graph c.answer-given.ensures.acts;
  none = c.requires.none;
}

pub returns-in-Ok-clause-answers : goal.returns-in-Ok-clause-answers
returns-in-Ok-clause-answers c server moment asks named =
    let can = c.requires.can in
    let here = asks in
    let protocol_is = c.protocol.ensures in
    let reads = read_here c in
    ok_map _ _ c.answer.result
    (λ deed done.
    let did = does c deed done.0 in
    subst
    (λ read. Answers moment (outcome_of_read moment read) (done_with deed c.answer.new.changes) (connection_of c.answer-given.new.self) c.args.graph.now c.answer-given.new.graph c.args.outbox.now c.answer.new.outbox)
    (c.in-Ok.ensures.exact ∙ ap (λ p. request_of p c.args.message.now.bytes.now c.args.message.now.handles.now) protocol_is)
    (request_answers server c.args.asking.now c.args.graph.now c.answer-given.new.graph (connection_of c.args.self.now) can.node moment here
    c.in-Ok.txid (asked c.in-Ok.request) reads.known (given_by c.answer-given.result) (told_in c.answer-given.result) c.answer-given.new.out (connection_of c.answer-given.new.self)
    c.answer-given.ensures.holds.birth
    (c.answer-given.ensures.acts moment.tree moment.directory here.tree
    (target_named c.args.asking.now.tokens.now _ c.args.message.now.bytes.now c.args.message.now.handles.now c.in-Ok.txid (asked c.in-Ok.request) moment.directory reads named) did.some)
    (done_with deed c.answer.new.changes) done.1 c.args.outbox.now c.answer.new.outbox did))
    (ok_and _ _ c.answer.result c.answer.ensures.does c.answer.ensures.told)

pub returns-in-Ok-clause-tells : goal.returns-in-Ok-clause-tells
returns-in-Ok-clause-tells c =
    let can = c.requires.can in
    let reads = read_here c in
    ok_map _ _ c.answer.result
    (λ deed done.
    can_tell c.args.graph.now c.args.asking.now.tokens.now (connection_of c.args.self.now) can.node can.tree c.args.asking.now (asked c.in-Ok.request) reads.known c.in-Ok.txid (given_by c.answer-given.result)
    (told_in c.answer-given.result) c.answer-given.new.out
    (connection_of c.answer-given.new.self) c.answer-given.new.graph c.answer-given.ensures.acts c.answer-given.ensures.holds.birth c.args.asking.now.endpoint c.args.message.now.handles.now
    (done_with deed c.answer.new.changes) c.args.outbox.now c.answer.new.outbox
    (carries _ c.args.message.now.bytes.now c.args.message.now.handles.now c.in-Ok.txid (asked c.in-Ok.request) reads) done.1 (does c deed done.0))
    (ok_and _ _ c.answer.result c.answer.ensures.does c.answer.ensures.told)

pub returns-in-Err-clause-answers : goal.returns-in-Err-clause-answers
returns-in-Err-clause-answers c server moment asks named =
    let protocol_is = c.protocol.ensures in
    ok_map _ _ c.answer_fault.result
    (λ deed does.
    subst
    (λ read. Answers moment (outcome_of_read moment read) (done_with deed c.args.changes.now) (connection_of c.args.self.now) c.args.graph.now c.args.graph.now c.args.outbox.now c.answer_fault.new.outbox)
    (c.in-Err.ensures.exact ∙ ap (λ p. request_of p c.args.message.now.bytes.now c.args.message.now.handles.now) protocol_is)
    (fault_answers server c.args.asking.now c.args.graph.now (connection_of c.args.self.now) moment asks c.in-Err.fault (done_with deed c.args.changes.now) c.requires.none c.args.outbox.now c.answer_fault.new.outbox does))
    c.answer_fault.ensures.does

pub returns-in-Err-clause-tells : goal.returns-in-Err-clause-tells
returns-in-Err-clause-tells c =
    ok_map _ _ c.answer_fault.result
    (λ deed does. fault_tells 0 c.args.asking.now c.args.message.now.handles.now (connection_of c.args.self.now) c.in-Err.fault (done_with deed c.args.changes.now) c.requires.none c.args.outbox.now c.answer_fault.new.outbox does)
    c.answer_fault.ensures.does

pub returns-in-Err-clause-holds : goal.returns-in-Err-clause-holds
returns-in-Err-clause-holds c = all_kept (connection_of c.args.self.now) c.args.graph.now

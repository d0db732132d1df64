use Rattle.std.proofs.Common.{◌≡◌, ◌∙◌, ap, subst, sym}
use Rattle.std.specs.Option.{option_map}
use Rattle.io_messages.specs.Asked.{asked}
use Rattle.io_messages.specs.declared.protocols.Protocol.TheVariants as protocol
use Rattle.conn_rules.specs.Acts.{act_of}
use Rattle.conn_rules.specs.Answers.{Act}
use Rattle.conn_rules.specs.Contexts.{context_of}
use Rattle.dir_conn.specs.Served.{told_with}
use Rattle.node_graph.specs.Graph.{number_of}
use Rattle.vfs_server.specs.Steps.{Acts, IsOfItsKind, act_asked, connection_of, given_by, of_directory, told_in}
use Rattle.vfs_server.proofs.Carried.{target_is_directory}
use Rattle.vfs_server.proofs.Giving.{acts_of_directory, given_other, some_of}
use Rattle.vfs_server.proofs.Looked.{asked_alike}
use Rattle.vfs_server.proofs.conn.Conn.answer.Goals as goal

pub serve-requires-clause-target : goal.serve-requires-clause-target
serve-requires-clause-target c node is =
    let one = target_is_directory c.args.graph.now c.args.asking.now.tokens.now c.requires.can.directories (asked c.args.request.now) node (sym c.target-target.ensures ∙ is) in
    (one.kept, one.kind)

pub returns-in-Directory-clause-acts : goal.returns-in-Directory-clause-acts
returns-in-Directory-clause-acts c tree directory stands named some =
    subst (λ (act : Act). Acts act c.args.txid (of_directory c.serve.result) (told_with c.serve.result) c.serve.new.out c.serve.new.self c.args.graph.now c.serve.new.graph)
    (asked_alike c.args.asking.now (connection_of c.args.self.now) c.room-room.result tree directory (asked c.args.request.now) c.room-room.ensures)
    (subst (λ connection. Acts (act_of (context_of connection c.room-room.result tree directory) (asked c.args.request.now)) c.args.txid (of_directory c.serve.result) (told_with c.serve.result) c.serve.new.out c.serve.new.self c.args.graph.now c.serve.new.graph)
    (c.deref_mut.ensures.value ∙ sym (ap connection_of c.in-Directory.is))
    (acts_of_directory _ c.args.txid c.serve.result c.serve.new.out c.serve.new.self c.args.graph.now c.serve.new.graph
    (c.serve.ensures.serves tree directory stands (named ∙ ap (option_map number_of) (sym c.target-target.ensures)) (λ e. some (ap of_directory e)))))

pub returns-in-File-clause-acts : goal.returns-in-File-clause-acts
returns-in-File-clause-acts c tree directory stands named some =
    subst (λ (act : Act). Acts act c.args.txid (given_by c.as_directory.result) (told_in c.as_directory.result) c.serve-in-File.new.out c.serve-in-File.new.self c.args.graph.now c.serve-in-File.new.graph)
    (asked_alike c.args.asking.now (connection_of c.args.self.now) c.room-room.result tree directory (asked c.args.request.now) c.room-room.ensures)
    (subst (λ connection. Acts (act_of (context_of connection c.room-room.result tree directory) (asked c.args.request.now)) c.args.txid (given_by c.as_directory.result) (told_in c.as_directory.result) c.serve-in-File.new.out c.serve-in-File.new.self c.args.graph.now c.serve-in-File.new.graph)
    (sym (ap connection_of c.in-File.is))
    (given_other (act_of (context_of c.in-File.conn c.room-room.result tree directory) (asked c.args.request.now)) c.args.txid c.serve-in-File.result (given_by c.as_directory.result) (told_in c.as_directory.result) c.serve-in-File.new.out c.serve-in-File.new.self c.args.graph.now c.serve-in-File.new.graph c.as_directory.ensures.given c.as_directory.ensures.told
    (c.serve-in-File.ensures.serves tree directory stands (some_of c.serve-in-File.result (λ e. some (c.as_directory.ensures.given ∙ e))))))

pub returns-in-Node-clause-acts : goal.returns-in-Node-clause-acts
returns-in-Node-clause-acts c tree directory stands named some =
    subst (λ (act : Act). Acts act c.args.txid (given_by c.as_directory-in-Node.result) (told_in c.as_directory-in-Node.result) c.serve-in-Node.new.out c.serve-in-Node.new.self c.args.graph.now c.serve-in-Node.new.graph)
    (asked_alike c.args.asking.now (connection_of c.args.self.now) c.room-room.result tree directory (asked c.args.request.now) c.room-room.ensures)
    (subst (λ connection. Acts (act_of (context_of connection c.room-room.result tree directory) (asked c.args.request.now)) c.args.txid (given_by c.as_directory-in-Node.result) (told_in c.as_directory-in-Node.result) c.serve-in-Node.new.out c.serve-in-Node.new.self c.args.graph.now c.serve-in-Node.new.graph)
    (sym (ap connection_of c.in-Node.is))
    (given_other (act_of (context_of c.in-Node.conn c.room-room.result tree directory) (asked c.args.request.now)) c.args.txid c.serve-in-Node.result (given_by c.as_directory-in-Node.result) (told_in c.as_directory-in-Node.result) c.serve-in-Node.new.out c.serve-in-Node.new.self c.args.graph.now c.serve-in-Node.new.graph c.as_directory-in-Node.ensures.given c.as_directory-in-Node.ensures.told
    (c.serve-in-Node.ensures.serves tree directory stands c.serve-in-Node.ensures.memory)))

pub returns-in-Echo-clause-acts : goal.returns-in-Echo-clause-acts
returns-in-Echo-clause-acts c tree directory stands named some =
    let here = connection_of c.args.self.now in
    let kind : here.birth.protocol ≡ protocol.Echo = ap (λ connection. connection.birth.protocol) (ap connection_of c.in-Echo.is) ∙ subst IsOfItsKind c.in-Echo.is c.requires.kind in
    subst (λ (act : Act). Acts act c.args.txid (given_by c.as_directory-in-Echo.result) (told_in c.as_directory-in-Echo.result) c.echo.new.out here c.args.graph.now c.args.graph.now)
    (asked_alike c.args.asking.now here c.room-room.result tree directory (asked c.args.request.now) c.room-room.ensures)
    (given_other (act_of (context_of here c.room-room.result tree directory) (asked c.args.request.now)) c.args.txid c.echo.result (given_by c.as_directory-in-Echo.result) (told_in c.as_directory-in-Echo.result) c.echo.new.out here c.args.graph.now c.args.graph.now c.as_directory-in-Echo.ensures.given c.as_directory-in-Echo.ensures.told
    (c.echo.ensures.serves here c.args.graph.now c.room-room.result tree directory kind (c.requires.can.node.connects kind) c.echo.ensures.memory))

use Rattle.io_messages.specs.Asked.{asked}
use Rattle.request_reader.proofs.AskedParts.{file_has}
use Rattle.vfs_server.proofs.FileReads.{part_is_served, part_txid}
use Rattle.vfs_server.proofs.connection.serve_part.Goals as goal

pub serve-requires-clause-method : goal.serve-requires-clause-method
serve-requires-clause-method c = file_has (asked c.args.request.now) c.requires.part

pub serve-requires-clause-txid : goal.serve-requires-clause-txid
serve-requires-clause-txid c = part_txid (asked c.args.request.now) c.requires.part c.args.txid c.requires.txid

pub returns-in-Read : goal.returns-in-Read
returns-in-Read c =
    part_is_served c.args.conn.now (asked c.args.request.now) c.requires.part c.args.txid c.serve.result c.serve.new.out c.serve.new.self c.args.graph.now c.serve.new.graph c.root-root.ensures.stands c.serve.ensures.serves c.serve.ensures.memory c.serve.ensures.holds

pub serve-requires-in-ReadAt-clause-method : goal.serve-requires-in-ReadAt-clause-method
serve-requires-in-ReadAt-clause-method c = file_has (asked c.args.request.now) c.requires.part

pub serve-requires-in-ReadAt-clause-txid : goal.serve-requires-in-ReadAt-clause-txid
serve-requires-in-ReadAt-clause-txid c = part_txid (asked c.args.request.now) c.requires.part c.args.txid c.requires.txid

pub returns-in-ReadAt : goal.returns-in-ReadAt
returns-in-ReadAt c =
    part_is_served c.args.conn.now (asked c.args.request.now) c.requires.part c.args.txid c.serve-in-ReadAt.result c.serve-in-ReadAt.new.out c.serve-in-ReadAt.new.self c.args.graph.now c.serve-in-ReadAt.new.graph c.root-root.ensures.stands c.serve-in-ReadAt.ensures.serves c.serve-in-ReadAt.ensures.memory c.serve-in-ReadAt.ensures.holds

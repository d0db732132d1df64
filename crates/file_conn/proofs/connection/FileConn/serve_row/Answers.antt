-- The rows of a file's own methods look at no numbers in use.
use Rattle.std.proofs.Common.{◌≡◌, ◌∙◌, ◌<◌, ℕ, zero, suc, true, false, Option, Some, None, arith, refl, rules, subst, sym, w64, SFits}
use Rattle.std.proofs.lemmas.Int.{to_z-of_z}
use Rattle.std.specs.Option.{option_map_or}
use Rattle.io_messages.specs.Requests.{has_txid}
use Rattle.io_messages.specs.declared.protocols.Protocol.{Protocol}
use Rattle.io_messages.specs.declared.protocols.Protocol.TheVariants as protocol
use Rattle.node_graph.specs.declared.nodes.NodeKind.{NodeKind}
use Rattle.node_graph.specs.declared.nodes.NodeKind.TheVariants.{Directory, File, Service, Mount}
use Rattle.conn_rules.specs.Contexts.{context_of}
use Rattle.conn_rules.specs.FileRows.{seek_act}
use Rattle.conn_rules.specs.Served.{IsAnswered}
use Rattle.conn_rules.specs.Shared.{is_spoken_at}
use Rattle.conn_rules.specs.declared.served.Served.TheVariants as served
use Rattle.file_conn.proofs.connection.FileConn.serve_row.Goals as goal

-- ---- what the rows require

-- where the protocol of files is spoken, a file is
file_there : (p : Protocol) (kind : Option NodeKind) → p ≡ protocol.File → option_map_or (is_spoken_at p) kind false ≡ true → kind ≡ Some File
file_there p kind is spoken = by_kind kind (subst (λ q. option_map_or (is_spoken_at q) kind false ≡ true) is spoken) where
  by_kind : (kind : Option NodeKind) → option_map_or (is_spoken_at protocol.File) kind false ≡ true → kind ≡ Some File
  by_kind None spoken = absurd (cc)
  by_kind (Some Directory) spoken = absurd (cc)
  by_kind (Some File) spoken = refl
  by_kind (Some Service) spoken = absurd (cc)
  by_kind (Some (Mount index)) spoken = absurd (cc)

-- what is answered has a transaction id
some_txid : (txid : ℕ) → has_txid false txid ≡ true → 0 < txid
some_txid zero is = absurd (cc)
some_txid (suc before) is = omega arith

pub read-requires-clause-file : goal.read-requires-clause-file
read-requires-clause-file c = file_there c.args.self.now.birth.protocol _ c.requires.protocol c.requires.can.spoken

pub read-requires-clause-txid : goal.read-requires-clause-txid
read-requires-clause-txid c = some_txid c.args.txid (rw c.in-Read.is at c.requires.txid)

pub read_at-requires-clause-file : goal.read_at-requires-clause-file
read_at-requires-clause-file c = file_there c.args.self.now.birth.protocol _ c.requires.protocol c.requires.can.spoken

pub read_at-requires-clause-txid : goal.read_at-requires-clause-txid
read_at-requires-clause-txid c = some_txid c.args.txid (rw c.in-ReadAt.is at c.requires.txid)

pub write-requires-clause-file : goal.write-requires-clause-file
write-requires-clause-file c = file_there c.args.self.now.birth.protocol _ c.requires.protocol c.requires.can.spoken

pub write-requires-clause-txid : goal.write-requires-clause-txid
write-requires-clause-txid c = some_txid c.args.txid (rw c.in-Write.is at c.requires.txid)

pub write_at-requires-clause-file : goal.write_at-requires-clause-file
write_at-requires-clause-file c = file_there c.args.self.now.birth.protocol _ c.requires.protocol c.requires.can.spoken

pub write_at-requires-clause-txid : goal.write_at-requires-clause-txid
write_at-requires-clause-txid c = some_txid c.args.txid (rw c.in-WriteAt.is at c.requires.txid)

pub seek-requires-clause-file : goal.seek-requires-clause-file
seek-requires-clause-file c = file_there c.args.self.now.birth.protocol _ c.requires.protocol c.requires.can.spoken

pub seek-requires-clause-txid : goal.seek-requires-clause-txid
seek-requires-clause-txid c = some_txid c.args.txid (rw c.in-Seek.is at c.requires.txid)

pub resize-requires-clause-file : goal.resize-requires-clause-file
resize-requires-clause-file c = file_there c.args.self.now.birth.protocol _ c.requires.protocol c.requires.can.spoken

pub resize-requires-clause-txid : goal.resize-requires-clause-txid
resize-requires-clause-txid c = some_txid c.args.txid (rw c.in-Resize.is at c.requires.txid)

-- ---- what they do

pub returns-in-Read-clause-serves : goal.returns-in-Read-clause-serves
returns-in-Read-clause-serves c tree directory stands served = rw c.in-Read.is (c.read.ensures.serves c.args.room tree directory stands)

pub returns-in-ReadAt-clause-serves : goal.returns-in-ReadAt-clause-serves
returns-in-ReadAt-clause-serves c tree directory stands served = rw c.in-ReadAt.is (c.read_at.ensures.serves c.args.room tree directory stands)

pub returns-in-Write-clause-serves : goal.returns-in-Write-clause-serves
returns-in-Write-clause-serves c tree directory stands served = rw c.in-Write.is (c.write.ensures.serves c.args.room tree directory stands served)

pub returns-in-Write-clause-memory : goal.returns-in-Write-clause-memory
returns-in-Write-clause-memory c tree directory stands wants = rw c.in-Write.is (c.write.ensures.memory c.args.room tree directory stands wants)

pub returns-in-WriteAt-clause-serves : goal.returns-in-WriteAt-clause-serves
returns-in-WriteAt-clause-serves c tree directory stands served = rw c.in-WriteAt.is (c.write_at.ensures.serves c.args.room tree directory stands served)

pub returns-in-WriteAt-clause-memory : goal.returns-in-WriteAt-clause-memory
returns-in-WriteAt-clause-memory c tree directory stands wants = rw c.in-WriteAt.is (c.write_at.ensures.memory c.args.room tree directory stands wants)

pub returns-in-Seek-clause-serves : goal.returns-in-Seek-clause-serves
returns-in-Seek-clause-serves c tree directory stands served =
    let fits : SFits w64 c.in-Seek.offset = search rules in
    rw c.in-Seek.is
    (subst (λ offset. IsAnswered (seek_act (context_of c.args.self.now c.args.room tree directory) c.in-Seek.origin offset) c.args.txid c.seek.result c.seek.new.out c.seek.new.self c.args.graph.now)
    (to_z-of_z w64 c.in-Seek.offset fits) (c.seek.ensures.serves c.args.room tree directory stands))

pub returns-in-Resize-clause-serves : goal.returns-in-Resize-clause-serves
returns-in-Resize-clause-serves c tree directory stands served = rw c.in-Resize.is (c.resize.ensures.serves c.args.room tree directory stands served)

pub returns-in-Resize-clause-memory : goal.returns-in-Resize-clause-memory
returns-in-Resize-clause-memory c tree directory stands wants = rw c.in-Resize.is (c.resize.ensures.memory c.args.room tree directory stands wants)

-- ---- what reads and seeks take no memory for

replied : served.Reply ≡ served.NoMemory → ⊥
replied wrong = cc

pub returns-in-Read-clause-memory : goal.returns-in-Read-clause-memory
returns-in-Read-clause-memory c tree directory stands wants = absurd (replied (sym c.read.ensures.kind ∙ wants))

pub returns-in-Read-clause-untouched : goal.returns-in-Read-clause-untouched
returns-in-Read-clause-untouched c wants = absurd (replied (sym c.read.ensures.kind ∙ wants))

pub returns-in-ReadAt-clause-memory : goal.returns-in-ReadAt-clause-memory
returns-in-ReadAt-clause-memory c tree directory stands wants = absurd (replied (sym c.read_at.ensures.kind ∙ wants))

pub returns-in-ReadAt-clause-untouched : goal.returns-in-ReadAt-clause-untouched
returns-in-ReadAt-clause-untouched c wants = absurd (replied (sym c.read_at.ensures.kind ∙ wants))

pub returns-in-Seek-clause-memory : goal.returns-in-Seek-clause-memory
returns-in-Seek-clause-memory c tree directory stands wants = absurd (replied (sym c.seek.ensures.kind ∙ wants))

pub returns-in-Seek-clause-untouched : goal.returns-in-Seek-clause-untouched
returns-in-Seek-clause-untouched c wants = absurd (replied (sym c.seek.ensures.kind ∙ wants))

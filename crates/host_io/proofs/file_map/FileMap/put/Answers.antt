use Rattle.host_io.proofs.Named.{by_bytes-insert}
use Rattle.host_io.proofs.file_map.FileMap.put.Goals as goal

pub returns-clause-ok : goal.returns-clause-ok
returns-clause-ok c =
    let inserted = by_bytes-insert (λ v. v.items) c.self.inside.files c.insert.new.self c.in_ok-name.name c.in_ok-bytes.bytes c.in_ok-insert.ensures.updates in
    rw (c.self.view_is, c.in_ok-name.ensures.ok, c.in_ok-bytes.ensures.items) at inserted

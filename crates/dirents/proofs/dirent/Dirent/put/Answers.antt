use Rattle.std.proofs.Common.{◌∙◌, append_assoc, arith}
use Rattle.dirents.proofs.dirent.Dirent.put.Goals as goal

pub returns : goal.returns
returns c = record {
  bytes = rw (c.put_bytes-2.ensures.bytes, c.put_bytes.ensures.bytes, c.put_u64.ensures.bytes) (simp append_assoc);
  len = omega (arith, c.put_u64.ensures.len, c.put_bytes.ensures.len, c.put_bytes-2.ensures.len);
  handles = c.put_bytes-2.ensures.handles ∙ c.put_bytes.ensures.handles ∙ c.put_u64.ensures.handles;
}

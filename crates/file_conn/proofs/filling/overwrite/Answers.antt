use Rattle.std.proofs.Common.{◌≡◌, ◌<◌, ℕ, List, Some, length, arith, refl}
use Rattle.std.proofs.lemmas.Bool.{lt-ltb}
use Rattle.std.proofs.lemmas.Grind.{common_steps}
use Rattle.fidl_names.specs.declared.limits.TheConstants as limit
use Rattle.fidl_names.specs.declared.statuses.Status.TheVariants as status
use Rattle.conn_rules.specs.FileRows.{writing_refusal}
use Rattle.file_conn.proofs.Coming.{comes_of_write}
use Rattle.file_conn.proofs.filling.overwrite.Goals as goal

too_long : (offset : ℕ) (bytes : List ℕ) → limit.MAX_CHUNK < length bytes → writing_refusal offset bytes ≡ Some status.OutOfRange
too_long offset bytes more = rw (lt-ltb limit.MAX_CHUNK (length bytes) more) refl

pub returns-then-bytes-gt-MAX_CHUNK-clause-comes : goal.returns-then-bytes-gt-MAX_CHUNK-clause-comes
returns-then-bytes-gt-MAX_CHUNK-clause-comes c = (too_long c.args.offset c.args.bytes.now c.if-bytes-gt-MAX_CHUNK.true, (λ wrong. cc), refl)

pub returns-clause-comes : goal.returns-clause-comes
returns-clause-comes c =
    rw c.come_of.ensures
    (comes_of_write c.write_at.result _ c.args.offset _ c.args.bytes.now c.args.graph.now c.write_at.new.self c.write_at.ensures.answer c.write_at.ensures.unchanged c.write_at.ensures.written
    (grind (arith, common_steps, c.is_empty.ensures, c.if-is_empty.false)) (omega (arith, c.if-bytes-gt-MAX_CHUNK.false)))

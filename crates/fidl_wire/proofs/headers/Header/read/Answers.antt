use Rattle.std.proofs.Common.{◌∙◌, ◌==◌, ℕ, true, false, not, Result, Err, ap, sym, refl}
use Rattle.fidl_wire.specs.declared.headers.Header.{Header}
use Rattle.fidl_wire.specs.declared.faults.WireFault.{WireFault}
use Rattle.fidl_wire.proofs.ReadHeaders.{header_is, not_short, some_bit}
use Rattle.fidl_wire.proofs.headers.Header.read.Goals as goal

pub returns-then-bytes-eq0 : goal.returns-then-bytes-eq0
returns-then-bytes-eq0 c =
    let answer : WireFault → Result Header WireFault = λ e. Err e in
    ap answer c.new-then-bytes-eq0.ensures
    ∙ sym (header_is c.args.bytes.now false true false _ (not_short _ c.if-bytes-lt-HEADER_SIZE.false) (ap (λ (n : ℕ). n == 1) c.if-not-is_magic.false) (ap (λ (n : ℕ). not (n == 0)) c.if-bytes-eq0.true) refl)

pub returns-then-bytes-ne0 : goal.returns-then-bytes-ne0
returns-then-bytes-ne0 c =
    let answer : WireFault → Result Header WireFault = λ e. Err e in
    ap answer c.new-then-bytes-ne0.ensures
    ∙ sym (header_is c.args.bytes.now false true true true (not_short _ c.if-bytes-lt-HEADER_SIZE.false) (ap (λ (n : ℕ). n == 1) c.if-not-is_magic.false) (some_bit _ c.if-bytes-eq0.false) (some_bit _ c.if-bytes-ne0.true))

use Rattle.std.proofs.Common.{◌≡◌, ◌∙◌, ℕ, Some, None, Result, Ok, Err, ap, sym}
use Rattle.fidl_wire.specs.declared.faults.WireFault.{WireFault}
use Rattle.fidl_wire.specs.declared.faults.WireWhat.TheVariants.{Ordinal}
use Rattle.fidl_wire.specs.Headers.{fault}
use Rattle.fidl_wire.specs.Reading.{◌>>=◌}
use Rattle.io_replies.proofs.ToldKinds.{kind_read, passed_on, start_place}
use Rattle.io_replies.proofs.reply_reader.read_kind.Goals as goal

pub returns-in_default : goal.returns-in_default
returns-in_default c =
    let none : None ≡ _ = sym c.in_default.is ∙ c.kind_with.ensures in
    ap Err c.new-in_default.ensures ∙ ap (λ (n : ℕ). Err (fault n Ordinal)) (sym (start_place _ _ c.in_ok-body.ensures))
    ∙ kind_read _ c.in_ok-body.body c.in_ok-ordinal.ordinal None c.in_ok-body.ensures c.in_ok-ordinal.ensures none

pub returns-in_err-read_empty_table : goal.returns-in_err-read_empty_table
returns-in_err-read_empty_table c =
    passed_on _ _ c.from_residual-in_err-read_empty_table.ensures
    ∙ sym (ap (λ (r : Result _ WireFault). r >>= λ xs. Ok c.in-Some.kind) c.in_err-read_empty_table.ensures.fault)
    ∙ kind_read _ c.in_ok-body.body c.in_ok-ordinal.ordinal (Some c.in-Some.kind) c.in_ok-body.ensures c.in_ok-ordinal.ensures c.in-Some.ensures

pub returns : goal.returns
returns c =
    sym (ap (λ (r : Result _ WireFault). r >>= λ xs. Ok c.in-Some.kind) c.in_ok-read_empty_table.ensures.value)
    ∙ kind_read _ c.in_ok-body.body c.in_ok-ordinal.ordinal (Some c.in-Some.kind) c.in_ok-body.ensures c.in_ok-ordinal.ensures c.in-Some.ensures

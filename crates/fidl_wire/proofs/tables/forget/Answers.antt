use Rattle.std.proofs.Common.{◌≡◌, length, None, replicate, ap, sym, ◌∙◌, arith}
use Rattle.std.proofs.lemmas.List.{take_all}
use Rattle.fidl_wire.specs.Told.{all_told}
use Rattle.fidl_wire.proofs.Members.{told-none}
use Rattle.fidl_wire.proofs.tables.forget.Goals as goal

pub returns : goal.returns
returns c =
    let all : length c.args.values.now ≡ c.loop-value.value-index = omega arith in
    ap all_told (sym (take_all c.loop-value.value-index c.loop-value.values (omega arith)) ∙ c.loop-value.invariant) ∙ told-none c.loop-value.value-index ∙ ap (λ n. replicate n None) (sym all)

use Rattle.std.proofs.Common.{◌^◌, ℕ, sym, ap, arith}
use Rattle.std.specs.Prelude.{Option, unwrap_or}
use Rattle.link_admission.specs.declared.kinds.Standing.{Standing}
use Rattle.link_admission.specs.declared.kinds.Standing.TheVariants as standing
use Rattle.link_admission.specs.Tables.{value_at}
use Rattle.link_admission.proofs.Counting.{none_live}
use Rattle.link_admission.proofs.standings.Standings.new.Goals as goal

pub invariant_of-result : goal.invariant_of-result
invariant_of-result c =
    let stands = λ (q : ℕ). unwrap_or (value_at c.new.result q) standing.Unused in
    (sym (none_live stands (2 ^ 32) (λ q. ap (λ (o : Option Standing). unwrap_or o standing.Unused) (c.new.ensures q))), omega arith)

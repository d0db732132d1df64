use Rattle.std.proofs.Common.{◌∙◌, Bool, List, ap, arith, ℕ}
use Rattle.std.specs.FinMap as map
use Rattle.std.specs.Ordering.{nat_cmp}
use Rattle.link_admission.specs.Tables.{value_at}
use Rattle.link_admission.proofs.tokens.Tokens.new.Goals as goal

pub invariant_of-result : goal.invariant_of-result
invariant_of-result c = record {
  unused = λ q past. ap (λ (entries : List (ℕ × Bool)). value_at (map.from_entries entries) q) c.new.ensures.empty ∙ map.get-empty nat_cmp q;
  last = omega (arith, c.from.ensures);
}

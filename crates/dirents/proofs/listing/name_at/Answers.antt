use Rattle.std.proofs.Common.{◌∙◌, ℕ, List, Some, ap, sym}
use Rattle.dirents.specs.Steps.{name_at}
use Rattle.dirents.proofs.listing.name_at.Goals as goal

pub returns-in-After : goal.returns-in-After
returns-in-After c = ap (λ (name : List ℕ). Some name) c.as_bytes.ensures.value ∙ sym (ap name_at c.in-After.is)

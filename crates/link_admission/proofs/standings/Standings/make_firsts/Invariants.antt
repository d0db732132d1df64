use Rattle.std.specs.Prelude.{◌≡◌, ℕ, take, if◌then◌else◌, Some, None}
use Rattle.link_admission.specs.declared.kinds.Standing.TheVariants as standing
use Rattle.link_admission.specs.Numbering.{among}
use Rattle.link_admission.specs.Tables.{value_at}
use Rattle.link_admission.proofs.standings.Standings.make_firsts.Given as goal

abbrev pub invariant-loop-first : goal.invariant-loop-first
invariant-loop-first l = record {
  made : (q : ℕ) → value_at l.self.entries q ≡ (if among q (take l.first-index l.firsts) then Some standing.Live else None);
  live : l.self.live ≡ l.first-index;
}

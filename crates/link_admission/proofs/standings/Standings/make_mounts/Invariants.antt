use Rattle.std.specs.Prelude.{◌≡◌, ◌+◌, ℕ, if◌then◌else◌, Some}
use Rattle.link_admission.specs.declared.kinds.Standing.TheVariants as standing
use Rattle.fidl_names.specs.HandleNumber.{is_mount_end}
use Rattle.link_admission.specs.Tables.{value_at}
use Rattle.link_admission.proofs.standings.Standings.make_mounts.Given as goal

abbrev pub invariant-loop-i : goal.invariant-loop-i
invariant-loop-i l = record {
  made : (q : ℕ) → value_at l.self.entries q ≡ (if is_mount_end l.i q then Some standing.Live else value_at l.fn.self.entries q);
  live : l.self.live ≡ l.fn.self.live + l.i;
}

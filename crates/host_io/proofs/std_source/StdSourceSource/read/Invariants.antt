use Rattle.std.proofs.Common.{◌≡◌}
use Rattle.std.specs.Io.KnownBytes.{Keeps}
use Rattle.host_io.proofs.std_source.StdSourceSource.read.Given as goal

abbrev pub invariant-loop : goal.invariant-loop
invariant-loop g l =
    (l.self-inside.faults ≡ l.initial.self-inside.faults) × (l.self-inside.last ≡ l.initial.self-inside.last)
    × Keeps (g.R.Read.remaining l.initial.self-inside.input) (g.R.Read.remaining l.self-inside.input)

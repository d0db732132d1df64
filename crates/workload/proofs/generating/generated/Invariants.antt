use Rattle.std.proofs.Common.{◌≡◌, ◌++◌}
use Rattle.workload.specs.Workload.{first_lines, rounds_up_to, state_of, texts}
use Rattle.workload.proofs.generating.generated.Given as goal

abbrev pub invariant-loop-done : goal.invariant-loop-done
invariant-loop-done l =
    record {
      text : l.text ≡ texts (first_lines ++ rounds_up_to l.rounds l.done);
      draws : l.draws ≡ state_of l.rounds l.done;
    }
